-- Rules 5.2 and 5.4: the names of a reference are a part of the request's words.
use Rattle.std.specs.Prelude.{List, [], ◌∷◌, ◌≡◌, refl, ◌+◌, ◌-◌, ◌≤◌, suc, zero, ℕ, drop, get_or, length, take}
use Rattle.std.proofs.Common.{◌∙◌, ap, arith, length-take, drop-cons}
use Rattle.model.specs.Request.Words.{Reference, name_count, names, reference_at, request_of, request_words}

-- the first four of a longer list
take_four : (n a b c d : ℕ) (l : List ℕ) → n ≤ 4 → take n (a ∷ b ∷ c ∷ d ∷ l) ≡ take n (a ∷ b ∷ c ∷ d ∷ [])
take_four zero a b c d l h = refl
take_four (suc zero) a b c d l h = refl
take_four (suc (suc zero)) a b c d l h = refl
take_four (suc (suc (suc zero))) a b c d l h = refl
take_four (suc (suc (suc (suc zero)))) a b c d l h = refl
take_four (suc (suc (suc (suc (suc n))))) a b c d l h = absurd (omega arith)

-- the words after a reference's length, as many as it says, are its names
pub part_names : (q : List ℕ) (k m n : ℕ) → m ≡ suc k → k + 5 ≤ length q → n ≡ get_or q k 0 → n ≤ name_count → take n (drop m q) ≡ names (reference_at q k)
unfolding names reference_at
part_names q k m n e h z l =
    let a : k + suc 0 ≡ m = omega arith in
    let b : k + suc 1 ≡ suc m = omega arith in
    let c : k + suc 2 ≡ suc (suc m) = omega arith in
    let x : k + suc 3 ≡ suc (suc (suc m)) = omega arith in
    ap (take n) (drop-cons q m 0 (omega arith) ∙ ap (λ (r : List ℕ). get_or q m 0 ∷ r) (drop-cons q (suc m) 0 (omega arith)
    ∙ ap (λ (r : List ℕ). get_or q (suc m) 0 ∷ r) (drop-cons q (suc (suc m)) 0 (omega arith)
    ∙ ap (λ (r : List ℕ). get_or q (suc (suc m)) 0 ∷ r) (drop-cons q (suc (suc (suc m))) 0 (omega arith)))))
    ∙ take_four n (get_or q m 0) (get_or q (suc m) 0) (get_or q (suc (suc m)) 0) (get_or q (suc (suc (suc m))) 0) (drop (suc (suc (suc (suc m)))) q) l
    ∙ rw (a, b, c, x, z)

-- the part that a reader of names lends: from word m on, up to as many words more as the length says
pub first_part_lem : (q : List ℕ) → length q ≡ request_words → (request_of q).first.length ≤ name_count
    → take (3 + get_or q 2 0 - 3) (drop 3 q) ≡ names (request_of q).first
unfolding request_of reference_at
first_part_lem q l h = part_names q 2 3 (3 + get_or q 2 0 - 3) refl (omega arith) (omega arith) (omega arith)

pub second_part_lem : (q : List ℕ) → length q ≡ request_words → (request_of q).second.length ≤ name_count
    → take (8 + get_or q 7 0 - 8) (drop 8 q) ≡ names (request_of q).second
unfolding request_of reference_at
second_part_lem q l h = part_names q 7 8 (8 + get_or q 7 0 - 8) refl (omega arith) (omega arith) (omega arith)

-- a reference of one name or more has a name
pub names_some : (r : Reference) → 1 ≤ r.length → r.length ≤ name_count → 1 ≤ length (names r)
unfolding names
names_some r l h = simp length-take (omega arith)
