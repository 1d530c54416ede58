-- The sixteen words and the wording are inverse: words that have a text are those of their wording, and a wording is that of its words.
use Rattle.std.specs.Prelude.{true, List, [], ◌++◌, ◌∷◌, ◌≡◌, refl, ◌<◌, ◌≤◌, suc, zero, ℕ, get_or, length, take}
use Rattle.std.proofs.Common.{◌∙◌, ap, ap₂, sym, arith}
use Rattle.std.proofs.Math.ListN.{get_or-eq_default}
use Rattle.model.specs.Basics.Agree.{Agrees, agrees_and, agrees_eq, agrees_le}
use Rattle.model.specs.Basics.TestLaws.{holds_true, is_true}
use Rattle.model.specs.List.Listing.{entry}
use Rattle.model.proofs.Request.FitLaws.{names_agree}
use Rattle.model.specs.Request.Words.{Reference, Request, name_count, names, reference_at, request_of, request_words}
use Rattle.model.specs.Tables.WordsOf.{first_values}
use Rattle.model.specs.Text.Textual.{Textual}
use Rattle.model.specs.Text.Wording.{Wording, sixteen, wording_of}
use Rattle.model.specs.Text.Writing.{has_text}

-- ---- a wording is that of its words

-- a list of at most four, from its length and four words
named : (r : List ℕ) → length r ≤ name_count → take (length r) (get_or r 0 0 ∷ get_or r 1 0 ∷ get_or r 2 0 ∷ get_or r 3 0 ∷ []) ≡ r
named [] h = refl
named (a ∷ []) h = refl
named (a ∷ b ∷ []) h = refl
named (a ∷ b ∷ c ∷ []) h = refl
named (a ∷ b ∷ c ∷ d ∷ []) h = refl
named (a ∷ b ∷ c ∷ d ∷ e ∷ r) h = absurd (omega arith)

-- The wording of a wording's sixteen words is that wording.
pub wording_sixteen : (m : Wording) → length m.first ≤ name_count → length m.second ≤ name_count → wording_of (request_of (sixteen m)) ≡ m
unfolding sixteen request_of reference_at names
wording_sixteen m h k = rw (named m.first h, named m.second k)

-- They are sixteen,
pub sixteen_length : (m : Wording) → length (sixteen m) ≡ request_words
unfolding sixteen
sixteen_length m = refl

has_text_all : (q : Request)
    → Agrees (has_text q)
    ((q.first.length ≤ name_count) × ((q.second.length ≤ name_count)
    × (((i : ℕ) → i < name_count → q.first.length ≤ i → q.first.name i ≡ 0)
    × (((i : ℕ) → i < name_count → q.second.length ≤ i → q.second.name i ≡ 0) × (q.last ≡ 0)))))
unfolding has_text
has_text_all q =
    agrees_and (agrees_le q.first.length name_count) (agrees_and (agrees_le q.second.length name_count)
    (agrees_and (names_agree q.first) (agrees_and (names_agree q.second) (agrees_eq q.last 0))))

-- The test and what it says.
pub has_text_says : (q : Request) → has_text q ≡ true → Textual q
has_text_says q h =
    let z = (has_text_all q).to (is_true (has_text q) h) in
    record { first_few = z.0; second_few = z.1.0; first_zeros = z.1.1.0; second_zeros = z.1.1.1.0; last_zero = z.1.1.1.1 }

pub says_has_text : (q : Request) → Textual q → has_text q ≡ true
says_has_text q t = holds_true (has_text q) ((has_text_all q).from (t.first_few, (t.second_few, (t.first_zeros, (t.second_zeros, t.last_zero)))))

-- name words that are those of a list of names are zero after it
zeros_after : (r : List ℕ) (f : ℕ → ℕ) → f 0 ≡ get_or r 0 0 → f 1 ≡ get_or r 1 0 → f 2 ≡ get_or r 2 0 → f 3 ≡ get_or r 3 0
    → (i : ℕ) → i < name_count → length r ≤ i → f i ≡ 0
zeros_after r f a b c d zero h l = a ∙ get_or-eq_default r 0 l
zeros_after r f a b c d (suc zero) h l = b ∙ get_or-eq_default r 0 l
zeros_after r f a b c d (suc (suc zero)) h l = c ∙ get_or-eq_default r 0 l
zeros_after r f a b c d (suc (suc (suc zero))) h l = d ∙ get_or-eq_default r 0 l
zeros_after r f a b c d (suc (suc (suc (suc i)))) h l = absurd (omega arith)

sixteen_says : (m : Wording) → length m.first ≤ name_count → length m.second ≤ name_count → Textual (request_of (sixteen m))
unfolding sixteen request_of reference_at
sixteen_says m h k = record {
  first_few = h;
  second_few = k;
  first_zeros = zeros_after m.first (request_of (sixteen m)).first.name refl refl refl refl;
  second_zeros = zeros_after m.second (request_of (sixteen m)).second.name refl refl refl refl;
  last_zero = refl;
}

-- and they have a text.
pub sixteen_has_text : (m : Wording) → length m.first ≤ name_count → length m.second ≤ name_count → has_text (request_of (sixteen m)) ≡ true
sixteen_has_text m h k = says_has_text (request_of (sixteen m)) (sixteen_says m h k)

-- ---- words that have a text are those of their wording

-- four name words, zero after the first n, and the names that they are
entry_four : (n a b c d : ℕ) → n ≤ name_count → (n ≤ 0 → a ≡ 0) → (n ≤ 1 → b ≡ 0) → (n ≤ 2 → c ≡ 0) → (n ≤ 3 → d ≡ 0)
    → entry (take n (a ∷ b ∷ c ∷ d ∷ [])) ≡ n ∷ a ∷ b ∷ c ∷ d ∷ []
entry_four zero a b c d h z₀ z₁ z₂ z₃ = rw (z₀ (omega arith), z₁ (omega arith), z₂ (omega arith), z₃ (omega arith))
entry_four (suc zero) a b c d h z₀ z₁ z₂ z₃ = rw (z₁ (omega arith), z₂ (omega arith), z₃ (omega arith))
entry_four (suc (suc zero)) a b c d h z₀ z₁ z₂ z₃ = rw (z₂ (omega arith), z₃ (omega arith))
entry_four (suc (suc (suc zero))) a b c d h z₀ z₁ z₂ z₃ = rw (z₃ (omega arith))
entry_four (suc (suc (suc (suc zero)))) a b c d h z₀ z₁ z₂ z₃ = refl
entry_four (suc (suc (suc (suc (suc n))))) a b c d h z₀ z₁ z₂ z₃ = absurd (omega arith)

-- the entry of a reference's names is the reference's own five words
entry_names : (r : Reference) → r.length ≤ name_count → ((i : ℕ) → i < name_count → r.length ≤ i → r.name i ≡ 0)
    → entry (names r) ≡ r.length ∷ r.name 0 ∷ r.name 1 ∷ r.name 2 ∷ r.name 3 ∷ []
unfolding names
entry_names r h z =
    entry_four r.length (r.name 0) (r.name 1) (r.name 2) (r.name 3) h (z 0 (omega arith)) (z 1 (omega arith)) (z 2 (omega arith)) (z 3 (omega arith))

-- a list is the values at its places
values_all : (w : List ℕ) → first_values (length w) (λ i. get_or w i 0) ≡ w
unfolding first_values
values_all [] = refl
values_all (x ∷ w) = ap (λ (l : List ℕ). x ∷ l) (values_all w)

-- the words of a request, in their order
abbrev ordered : Request → List ℕ
ordered q =
    q.user ∷ q.operation ∷ q.first.length ∷ q.first.name 0 ∷ q.first.name 1 ∷ q.first.name 2 ∷ q.first.name 3
    ∷ q.second.length ∷ q.second.name 0 ∷ q.second.name 1 ∷ q.second.name 2 ∷ q.second.name 3
    ∷ q.a ∷ q.b ∷ q.c ∷ q.last ∷ []

ordered_words : (w : List ℕ) → length w ≡ request_words → ordered (request_of w) ≡ w
unfolding request_of reference_at first_values
ordered_words w h = ap (λ (n : ℕ). first_values n (λ i. get_or w i 0)) (sym h) ∙ values_all w

sixteen_ordered : (q : Request) → Textual q → sixteen (wording_of q) ≡ ordered q
unfolding sixteen
sixteen_ordered q t =
    ap₂ (λ (x y : List ℕ). q.user ∷ q.operation ∷ (x ++ (y ++ (q.a ∷ q.b ∷ q.c ∷ 0 ∷ []))))
    (entry_names q.first t.first_few t.first_zeros) (entry_names q.second t.second_few t.second_zeros)
    ∙ rw t.last_zero

-- The sixteen words of the wording of some words are those words, where they are sixteen and have a text.
pub sixteen_wording : (w : List ℕ) → length w ≡ request_words → has_text (request_of w) ≡ true → sixteen (wording_of (request_of w)) ≡ w
sixteen_wording w h t = sixteen_ordered (request_of w) (has_text_says (request_of w) t) ∙ ordered_words w h
