-- Reading names at an index, by the tests of the bytes: one name after the other, and a reference.
use Rattle.std.specs.Prelude.{false, true, List, [], ◌++◌, ◌∷◌, ◌≡◌, refl, Some, None, Option}
use Rattle.std.specs.Prelude.{◌+◌, ◌-◌, ◌<◌, ◌≤◌, suc, zero, ℕ, drop, get_or, length, set, take}
use Rattle.std.proofs.Common.{append_assoc, ◌∙◌, ap, sym, zero-le, add-one, arith, drop_of_length-le, drop-cons, drop-drop, drop-set-lt, take-suc-set, ne_eqb}
use Rattle.lines.specs.NumberAt.{NumberAt}
use Rattle.lines.specs.NumberAtLaws.{digit}
use Rattle.lines.specs.declared.reading.Number.{Number}
use Rattle.model.specs.Request.Words.{name_count}
use Rattle.model.specs.Text.Lines.{next}
use Rattle.model.specs.Text.Numbers.{Read, bad, got, is_digit, nine_byte, zero_byte}
use Rattle.model.specs.Text.References.{dot_byte, further, name_and, reference}
use Rattle.request_reader.specs.NamesAt.{NamesIs, further_most}
use Rattle.request_reader.specs.declared.Names.{Names}

-- names that were read before, and then those of a reading
abbrev after : List ℕ → Read (List ℕ) → Read (List ℕ)
after ns r = next r (λ ms u. got (ns ++ ms) u)

after_none : (r : Read (List ℕ)) → r ≡ after [] r
after_none (got ms u) = refl
after_none bad = refl

after_one : (ns : List ℕ) (v : ℕ) (r : Read (List ℕ)) → after ns (after (v ∷ []) r) ≡ after (ns ++ (v ∷ [])) r
after_one ns v (got ms u) = rw (append_assoc ns (v ∷ []) ms)
after_one ns v bad = refl

-- The first k names from the index `at` of the bytes s on stand in front of the room o, which is now p, and the next one is looked for at the
-- index i.
pub record NamesTo (s : List ℕ) (at : ℕ) (o p : List ℕ) (i k : ℕ) : Type 0 where
  pub is : name_and further_most (drop at s) ≡ after (take k p) (name_and (further_most - k) (drop i s))
  pub kept : drop k p ≡ drop k o

-- none was read yet
pub names_start : (s : List ℕ) (at : ℕ) (o : List ℕ) → NamesTo s at o o at 0
names_start s at o = record { is = after_none (name_and further_most (drop at s)); kept = refl }

-- one word more is stored: the words before it stay, and those after it
stored_before : (p : List ℕ) (k v : ℕ) → k < length p → take (k + 1) (set p k v) ≡ take k p ++ (v ∷ [])
stored_before p k v l = rw (add-one k) (take-suc-set p k v l)

stored_behind : (o p : List ℕ) (k v : ℕ) → drop k p ≡ drop k o → drop (k + 1) (set p k v) ≡ drop (k + 1) o
stored_behind o p k v e = drop-set-lt (k + 1) p k v (omega arith) ∙ sym (drop-drop 1 k p) ∙ ap (drop 1) e ∙ drop-drop 1 k o

module _ (s : List ℕ) (at : ℕ) where
  -- ---- further names

  -- none, where the bytes end,
  pub further_end : (k : ℕ) → length s ≤ at → further k (drop at s) ≡ got [] (drop at s)
  further_end k e = rw (drop_of_length-le s {i = at} e) (go k)
    where
      go : (k : ℕ) → further k [] ≡ got [] []
      go zero = refl
      go (suc k) = refl

  -- or where the next byte is no dot
  pub no_dot : (k : ℕ) → at < length s → (get_or s at 0 ≡ dot_byte → ⊥) → further k (drop at s) ≡ got [] (drop at s)
  no_dot k w n = rw (drop-cons s at 0 w) (go k)
    where
      go : (k : ℕ) → further k (get_or s at 0 ∷ drop (suc at) s) ≡ got [] (get_or s at 0 ∷ drop (suc at) s)
      go zero = refl
      go (suc k) = rw (ne_eqb (get_or s at 0) dot_byte n)

  -- and else a name after the dot, and at most one further name less
  dot : (k : ℕ) → at < length s → get_or s at 0 ≡ dot_byte → (k ≡ 0 → ⊥) → further k (drop at s) ≡ name_and (k - 1) (drop (at + 1) s)
  dot zero w e n = absurd (n refl)
  dot (suc k) w e n = let p : suc k - 1 ≡ k = omega arith in rw (add-one at, drop-cons s at 0 w, e, p)

  -- ---- a name and further ones

  name_bad : (k : ℕ) → NumberAt s at None → name_and k (drop at s) ≡ bad
  name_bad k n = rw (← n.is)

  name_got : {x : Number} (k : ℕ) → NumberAt s at (Some x) → name_and k (drop at s) ≡ after (x.v ∷ []) (further k (drop x.next s))
  name_got k n = rw (← n.is)

-- What comes next, where k names were read:
module _ {s : List ℕ} {at : ℕ} {o p : List ℕ} {i k : ℕ} where
  -- no number
  pub names_bad : NamesTo s at o p i k → NumberAt s i None → (q : List ℕ) → NamesIs s (name_and further_most (drop at s)) name_count o q None
  names_bad t n q = record { is = sym (t.is ∙ ap (after (take k p)) (name_bad s i (further_most - k) n)); within = zero-le; few = zero-le; kept = tt }

  -- a number and a dot
  pub names_turn : {x : Number} → NamesTo s at o p i k → k < further_most → k < length p → NumberAt s i (Some x) → x.next < length s
      → get_or s x.next 0 ≡ dot_byte → NamesTo s at o (set p k x.v) (x.next + 1) (k + 1)
  names_turn {x} t h l n w d =
      let v : ℕ = x.v in
      let j : ℕ = x.next in
      let some : further_most - k ≡ 0 → ⊥ = λ e. absurd (omega arith) in
      let less : further_most - k - 1 ≡ further_most - (k + 1) = omega arith in
      let one : name_and (further_most - k) (drop i s) ≡ after (v ∷ []) (name_and (further_most - k - 1) (drop (j + 1) s)) =
      name_got s i (further_most - k) n ∙ ap (after (v ∷ [])) (dot s j (further_most - k) w d some) in
      let all : name_and further_most (drop at s) ≡ after (take k p ++ (v ∷ [])) (name_and (further_most - k - 1) (drop (j + 1) s)) =
      t.is ∙ ap (after (take k p)) one ∙ after_one (take k p) v (name_and (further_most - k - 1) (drop (j + 1) s)) in
      record { is = rw (stored_before p k v l, ← less) all; kept = stored_behind o p k v t.kept }

  -- a number, and no further name
  pub names_end : {x : Number} → NamesTo s at o p i k → k ≤ further_most → k < length p → NumberAt s i (Some x)
      → further (further_most - k) (drop x.next s) ≡ got [] (drop x.next s)
      → NamesIs s (name_and further_most (drop at s)) name_count o (set p k x.v) (Some (record { n = k + 1; end = x.next }))
  names_end {x} t h l n e =
      let v : ℕ = x.v in
      let j : ℕ = x.next in
      let all : name_and further_most (drop at s) ≡ got (take k p ++ (v ∷ [])) (drop j s) =
      t.is ∙ ap (after (take k p)) (name_got s i (further_most - k) n ∙ ap (after (v ∷ [])) e) in
      record { is = rw (stored_before p k v l) (sym all); within = n.within; few = omega arith; kept = stored_behind o p k v t.kept }

-- the fourth number is the last
pub names_last : {s : List ℕ} {at : ℕ} {o p : List ℕ} {i k : ℕ} {x : Number} → NamesTo s at o p i k → k ≡ further_most → further_most < length p
    → NumberAt s i (Some x)
    → NamesIs s (name_and further_most (drop at s)) name_count o (set p further_most x.v) (Some (record { n = name_count; end = x.next }))
names_last t e l n = names_end (rw e at t) (omega arith) l n refl

module _ (s : List ℕ) (at : ℕ) where
  -- no name is read, and the room stays
  no_names : (o : List ℕ) → at ≤ length s → got [] (drop at s) ≡ reference (drop at s)
      → NamesIs s (reference (drop at s)) name_count o o (Some (record { n = 0; end = at }))
  no_names o w e = record { is = e; within = w; few = zero-le; kept = refl }

  -- ---- a reference

  -- the bytes end
  pub ref_end : (o : List ℕ) → at ≤ length s → length s ≤ at → NamesIs s (reference (drop at s)) name_count o o (Some (record { n = 0; end = at }))
  ref_end o w e = no_names o w (rw (drop_of_length-le s {i = at} e))

  -- the first byte is no digit
  pub ref_other : (o : List ℕ) → at < length s → is_digit (get_or s at 0) ≡ false
      → NamesIs s (reference (drop at s)) name_count o o (Some (record { n = 0; end = at }))
  ref_other o w h = no_names o (omega arith) (rw (drop-cons s at 0 w, h))

  -- the first byte is a digit
  ref_digit : at < length s → zero_byte ≤ get_or s at 0 → get_or s at 0 ≤ nine_byte → name_and further_most (drop at s) ≡ reference (drop at s)
  ref_digit w l h = rw (drop-cons s at 0 w) (go (get_or s at 0) (drop (suc at) s) (digit (get_or s at 0) l h))
    where
      go : (b : ℕ) (t : List ℕ) → is_digit b ≡ true → name_and further_most (b ∷ t) ≡ reference (b ∷ t)
      go b t e = rw e

  pub ref_first : {o p : List ℕ} {r : Option Names} → at < length s → zero_byte ≤ get_or s at 0 → get_or s at 0 ≤ nine_byte
      → NamesIs s (name_and further_most (drop at s)) name_count o p r → NamesIs s (reference (drop at s)) name_count o p r
  ref_first w l h m = record { is = m.is ∙ ref_digit w l h; within = m.within; few = m.few; kept = m.kept }
