-- The eight ways in which reading seven lines ends, and the sixteen words where all were good.
use Rattle.std.specs.Prelude.{List, [], ◌++◌, ◌∷◌, ◌≡◌, refl, Some, None, ◌≤◌, suc, zero, ℕ, drop, length, replicate, set, take}
use Rattle.std.proofs.Common.{◌∙◌, ap, arith}
use Rattle.lines.specs.LineAt.{LineAt}
use Rattle.lines.specs.declared.reading.Number.{Number}
use Rattle.model.specs.List.Listing.{entry}
use Rattle.model.specs.Request.Words.{name_count, request_words}
use Rattle.model.specs.Text.Wording.{a_key, b_key, bad_line, c_key, lines, op_key, read_seven, ref2_key, ref_key, sixteen, user_key}
use Rattle.request_reader.specs.RefAt.{RefAt}
use Rattle.request_reader.specs.Seven.{fresh}
use Rattle.request_reader.specs.declared.Names.{Names}

-- A line is bad, and those before it are good: that line is named.
module _ {s : List ℕ} {at : ℕ} where
  pub bad1 : LineAt s at user_key None → read_seven (drop at s) ≡ bad_line 1
  unfolding read_seven
  bad1 e1 = rw (← e1.is)

  module _ {x1 : Number} (e1 : LineAt s at user_key (Some x1)) where
    pub bad2 : LineAt s x1.next op_key None → read_seven (drop at s) ≡ bad_line 2
    unfolding read_seven
    bad2 e2 = rw (← e1.is, ← e2.is)

    module _ {x2 : Number} (e2 : LineAt s x1.next op_key (Some x2)) where
      pub bad3 : {o3 p3 : List ℕ} → RefAt s x2.next ref_key o3 p3 None → read_seven (drop at s) ≡ bad_line 3
      unfolding read_seven
      bad3 e3 = rw (← e1.is, ← e2.is, ← e3.is)

      module _ {x3 : Names} {o3 p3 : List ℕ} (e3 : RefAt s x2.next ref_key o3 p3 (Some x3)) where
        pub bad4 : {o4 p4 : List ℕ} → RefAt s x3.end ref2_key o4 p4 None → read_seven (drop at s) ≡ bad_line 4
        unfolding read_seven
        bad4 e4 = rw (← e1.is, ← e2.is, ← e3.is, ← e4.is)

        module _ {x4 : Names} {o4 p4 : List ℕ} (e4 : RefAt s x3.end ref2_key o4 p4 (Some x4)) where
          pub bad5 : LineAt s x4.end a_key None → read_seven (drop at s) ≡ bad_line 5
          unfolding read_seven
          bad5 e5 = rw (← e1.is, ← e2.is, ← e3.is, ← e4.is, ← e5.is)

          module _ {x5 : Number} (e5 : LineAt s x4.end a_key (Some x5)) where
            pub bad6 : LineAt s x5.next b_key None → read_seven (drop at s) ≡ bad_line 6
            unfolding read_seven
            bad6 e6 = rw (← e1.is, ← e2.is, ← e3.is, ← e4.is, ← e5.is, ← e6.is)

            module _ {x6 : Number} (e6 : LineAt s x5.next b_key (Some x6)) where
              pub bad7 : LineAt s x6.next c_key None → read_seven (drop at s) ≡ bad_line 7
              unfolding read_seven
              bad7 e7 = rw (← e1.is, ← e2.is, ← e3.is, ← e4.is, ← e5.is, ← e6.is, ← e7.is)

              -- all seven are good
              pub read7 : {x7 : Number} → LineAt s x6.next c_key (Some x7)
                  → read_seven (drop at s)
                  ≡ lines (record { user = x1.v; operation = x2.v; first = take x3.n p3; second = take x4.n p4; a = x5.v; b = x6.v; c = x7.v }) (drop x7.next s)
              unfolding read_seven
              read7 e7 = rw (← e1.is, ← e2.is, ← e3.is, ← e4.is, ← e5.is, ← e6.is, ← e7.is)

-- ---- the sixteen words

-- four words that are zero
abbrev zeros : List ℕ
zeros = replicate name_count 0

-- four words are looked at one by one
of_four : (P : List ℕ → Type 0) (x : List ℕ) → length x ≡ name_count → ((a b c d : ℕ) → P (a ∷ b ∷ c ∷ d ∷ [])) → P x
of_four P [] h f = absurd (omega arith)
of_four P (a ∷ []) h f = absurd (omega arith)
of_four P (a ∷ b ∷ []) h f = absurd (omega arith)
of_four P (a ∷ b ∷ c ∷ []) h f = absurd (omega arith)
of_four P (a ∷ b ∷ c ∷ d ∷ []) h f = f a b c d
of_four P (a ∷ b ∷ c ∷ d ∷ e ∷ x) h f = absurd (omega arith)

-- four words, of which the first n are names and the others zero, are those of an entry
entry_four : (a b c d n : ℕ) → n ≤ name_count → drop n (a ∷ b ∷ c ∷ d ∷ []) ≡ drop n zeros
    → n ∷ a ∷ b ∷ c ∷ d ∷ [] ≡ entry (take n (a ∷ b ∷ c ∷ d ∷ []))
entry_four a b c d zero h k = ap (λ (l : List ℕ). 0 ∷ l) k
entry_four a b c d (suc zero) h k = ap (λ (l : List ℕ). 1 ∷ a ∷ l) k
entry_four a b c d (suc (suc zero)) h k = ap (λ (l : List ℕ). 2 ∷ a ∷ b ∷ l) k
entry_four a b c d (suc (suc (suc zero))) h k = ap (λ (l : List ℕ). 3 ∷ a ∷ b ∷ c ∷ l) k
entry_four a b c d (suc (suc (suc (suc zero)))) h k = refl
entry_four a b c d (suc (suc (suc (suc (suc n))))) h k = absurd (omega arith)

-- the part of a room w that the first reference's names are read into, and the room with the names x there
abbrev pub first_part : List ℕ → List ℕ
first_part w = take name_count (drop 3 w)

abbrev pub with_first : List ℕ → List ℕ → List ℕ
with_first w x = take 3 w ++ (x ++ drop name_count (drop 3 w))

-- the same of the second reference, with the names y
abbrev pub second_part : List ℕ → List ℕ → List ℕ
second_part w x = take name_count (drop 8 (with_first w x))

abbrev pub with_both : List ℕ → List ℕ → List ℕ → List ℕ
with_both w x y = take 8 (with_first w x) ++ (y ++ drop name_count (drop 8 (with_first w x)))

-- where the room is fresh, both parts are zero when they are lent
pub first_part_lem : (w : List ℕ) → w ≡ fresh → first_part w ≡ zeros
first_part_lem w f = rw f

pub second_part_lem : (w x : List ℕ) → w ≡ fresh → length x ≡ length (first_part w) → second_part w x ≡ zeros
second_part_lem w x f l =
    let h : length x ≡ name_count = l ∙ ap length (first_part_lem w f) in
    rw f (of_four (λ (x : List ℕ). second_part fresh x ≡ zeros) x h (λ a b c d. refl))

-- the room stays as long as it was
pub first_length : (w x : List ℕ) → w ≡ fresh → length x ≡ length (first_part w) → length (with_first w x) ≡ request_words
first_length w x f l =
    let h : length x ≡ name_count = l ∙ ap length (first_part_lem w f) in
    rw f (of_four (λ (x : List ℕ). length (with_first fresh x) ≡ request_words) x h (λ a b c d. refl))

pub both_length : (w x y : List ℕ) → w ≡ fresh → length x ≡ length (first_part w) → length y ≡ length (second_part w x)
    → length (with_both w x y) ≡ request_words
both_length w x y f l g =
    let h : length x ≡ name_count = l ∙ ap length (first_part_lem w f) in
    let k : length y ≡ name_count = g ∙ ap length (second_part_lem w x f l) in
    rw f (of_four (λ (x : List ℕ). length (with_both fresh x y) ≡ request_words) x h (λ a b c d.
    of_four (λ (y : List ℕ). length (with_both fresh (a ∷ b ∷ c ∷ d ∷ []) y) ≡ request_words) y k (λ p q r s. refl)))

-- the room with every word in its place
abbrev pub stored : List ℕ → ℕ → ℕ → ℕ → ℕ → ℕ → ℕ → ℕ → List ℕ
stored v user op n m a b c = set (set (set (set (set (set (set v 0 user) 1 op) 2 n) 7 m) 12 a) 13 b) 14 c

-- that is the request's sixteen words
pub stored_is : (w x y : List ℕ) (user op n m a b c : ℕ) → w ≡ fresh
    → length x ≡ length (first_part w) → n ≤ name_count → drop n x ≡ drop n (first_part w)
    → length y ≡ length (second_part w x) → m ≤ name_count → drop m y ≡ drop m (second_part w x)
    → stored (with_both w x y) user op n m a b c
    ≡ sixteen (record { user = user; operation = op; first = take n x; second = take m y; a = a; b = b; c = c })
unfolding sixteen
stored_is w x y user op n m a b c f lx hn kx ly hm ky =
    let h : length x ≡ name_count = lx ∙ ap length (first_part_lem w f) in
    let i : drop n x ≡ drop n zeros = kx ∙ ap (drop n) (first_part_lem w f) in
    let k : length y ≡ name_count = ly ∙ ap length (second_part_lem w x f lx) in
    let j : drop m y ≡ drop m zeros = ky ∙ ap (drop m) (second_part_lem w x f lx) in
    rw f (go x y h k i j)
  where
    Is : List ℕ → List ℕ → Type 0
    Is x y =
        stored (with_both fresh x y) user op n m a b c ≡ user ∷ op ∷ (entry (take n x) ++ (entry (take m y) ++ (a ∷ b ∷ c ∷ 0 ∷ [])))

    both : (x₁ x₂ x₃ x₄ y₁ y₂ y₃ y₄ : ℕ) → drop n (x₁ ∷ x₂ ∷ x₃ ∷ x₄ ∷ []) ≡ drop n zeros → drop m (y₁ ∷ y₂ ∷ y₃ ∷ y₄ ∷ []) ≡ drop m zeros
        → Is (x₁ ∷ x₂ ∷ x₃ ∷ x₄ ∷ []) (y₁ ∷ y₂ ∷ y₃ ∷ y₄ ∷ [])
    both x₁ x₂ x₃ x₄ y₁ y₂ y₃ y₄ p q =
        ap (λ (l : List ℕ). user ∷ op ∷ (l ++ ((m ∷ y₁ ∷ y₂ ∷ y₃ ∷ y₄ ∷ []) ++ (a ∷ b ∷ c ∷ 0 ∷ [])))) (entry_four x₁ x₂ x₃ x₄ n hn p)
        ∙ ap (λ (l : List ℕ). user ∷ op ∷ (entry (take n (x₁ ∷ x₂ ∷ x₃ ∷ x₄ ∷ [])) ++ (l ++ (a ∷ b ∷ c ∷ 0 ∷ [])))) (entry_four y₁ y₂ y₃ y₄ m hm q)

    go : (x y : List ℕ) → length x ≡ name_count → length y ≡ name_count → drop n x ≡ drop n zeros → drop m y ≡ drop m zeros → Is x y
    go x y h k =
        of_four (λ (x : List ℕ). drop n x ≡ drop n zeros → drop m y ≡ drop m zeros → Is x y) x h (λ x₁ x₂ x₃ x₄.
        of_four (λ (y : List ℕ). drop n (x₁ ∷ x₂ ∷ x₃ ∷ x₄ ∷ []) ≡ drop n zeros → drop m y ≡ drop m zeros → Is (x₁ ∷ x₂ ∷ x₃ ∷ x₄ ∷ []) y) y k
        (λ y₁ y₂ y₃ y₄. both x₁ x₂ x₃ x₄ y₁ y₂ y₃ y₄))
