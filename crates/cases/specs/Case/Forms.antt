-- Rules 5.4 and 7.5: what each operation asks of the words of a request, and the requests that follow from it: one that is well-made, and all
-- that have one thing put wrong.
use Rattle.std.specs.Prelude.{Bool, false, true, List, [], ◌++◌, ◌∷◌, map, ◌-◌, suc, zero, ℕ, eqb, set}
use Rattle.model.specs.Effect.Places.{draft_sort}
use Rattle.model.specs.Level.{level_count, role_sets}
use Rattle.model.specs.Request.Ladder.{answer}
use Rattle.model.specs.Request.Words.{name_count, request_of}
use Rattle.model.specs.Tables.Sheet.{padded}
use Rattle.model.specs.Tables.Words.{Tables, operation_count, position_count, sum_most, user_count, who_most}
use Rattle.model.specs.Text.Numbers.{most}

-- ---- the forms

-- what an operation takes of a reference: a name, here this one; nothing
pub data Wanted : Type 0 where
  naming : ℕ → Wanted
  nothing : Wanted

-- and of an argument: any word; zero; a number less than this one; a number from 1 to this one
pub data Argument : Type 0 where
  free unused : Argument
  below up_to : ℕ → Argument

-- an operation's number, its two references and its three arguments
pub data Form : Type 0 where
  form : ℕ → Wanted → Wanted → Argument → Argument → Argument → Form

-- Rules 6.1 to 6.20. One operation more is one element more.
unfoldable pub forms : List Form
forms =
    -- create, delete, move, edit, copy
    form 1 (naming 5) nothing (up_to draft_sort) (below level_count) unused
    ∷ form 2 (naming 5) nothing unused unused unused
    ∷ form 3 (naming 5) (naming 7) unused unused unused
    ∷ form 4 (naming 5) nothing free unused unused
    ∷ form 5 (naming 5) (naming 7) unused unused unused
    -- level, mark, grant, revoke, show
    ∷ form 6 (naming 5) nothing (below level_count) unused unused
    ∷ form 7 (naming 5) nothing (below 2) unused unused
    ∷ form 8 (naming 5) nothing (up_to who_most) (up_to operation_count) (up_to position_count)
    ∷ form 9 (naming 5) nothing (up_to who_most) (up_to operation_count) (up_to position_count)
    ∷ form 10 (naming 5) nothing (up_to sum_most) unused unused
    -- clear, login, logout, current roles, clearance
    ∷ form 11 nothing nothing unused unused unused
    ∷ form 12 (naming 5) nothing unused unused unused
    ∷ form 13 nothing nothing unused unused unused
    ∷ form 14 nothing nothing (up_to user_count) (below role_sets) unused
    ∷ form 15 nothing nothing (up_to user_count) (below level_count) unused
    -- authorised roles, maximum, device level, release, acknowledge
    ∷ form 16 nothing nothing (up_to user_count) (below role_sets) unused
    ∷ form 17 (naming 5) nothing (below level_count) unused unused
    ∷ form 18 (naming 5) nothing (below level_count) unused unused
    ∷ form 19 (naming 5) nothing unused unused unused
    ∷ form 20 nothing nothing free free unused
    ∷ []

-- ---- right and wrong words

-- a word that the argument may be
unfoldable pub right : Argument → ℕ
right free = 1
right unused = 0
right (below n) = 1
right (up_to n) = 1

-- words that it may not be: just out of its range, at each end that it has, and the greatest word
unfoldable pub wrong : Argument → List ℕ
wrong free = []
wrong unused = 1 ∷ most ∷ []
wrong (below n) = n ∷ most ∷ []
wrong (up_to n) = 0 ∷ suc n ∷ most ∷ []

-- n numbers from k on
unfoldable pub counting : ℕ → ℕ → List ℕ
counting k zero = []
counting k (suc n) = k ∷ counting (suc k) n

-- the words of a reference: a length, and the name words, zero after these
unfoldable pub reference : ℕ → List ℕ → List ℕ
reference l ns = l ∷ padded name_count ns

-- references of the length l with a name word after it that is not zero, one for each such word
unfoldable pub strays : ℕ → List ℕ → List (List ℕ)
strays l ns = map (λ i. reference l (set (padded name_count ns) i 1)) (counting l (name_count - l))

unfoldable pub right_words : Wanted → List ℕ
right_words (naming e) = reference 1 (e ∷ [])
right_words nothing = reference 0 []

-- no name, too many, a name word after the name; where nothing is taken, a length, up to one too great, a name, a name word
unfoldable pub wrong_words : Wanted → List (List ℕ)
wrong_words (naming e) = reference 0 [] ∷ reference (suc name_count) (e ∷ []) ∷ reference most (e ∷ []) ∷ strays 1 (e ∷ [])
wrong_words nothing = map (λ l. reference l []) (counting 1 (suc name_count)) ++ (reference 1 (5 ∷ []) ∷ strays 0 [])

-- ---- requests

-- sixteen words that user 2 asks: an operation, two references, three arguments, and word 15
unfoldable pub words : ℕ → List ℕ → List ℕ → ℕ → ℕ → ℕ → ℕ → List ℕ
words o r s a b c z = 2 ∷ o ∷ (r ++ (s ++ (a ∷ b ∷ c ∷ z ∷ [])))

unfoldable pub made : Form → List ℕ
made (form o r s a b c) = words o (right_words r) (right_words s) (right a) (right b) (right c) 0

-- one thing wrong and the rest right: an argument, a reference, word 15
unfoldable pub one_wrong : Form → List (List ℕ)
one_wrong (form o r s a b c) =
    map (λ x. words o (right_words r) (right_words s) x (right b) (right c) 0) (wrong a)
    ++ (map (λ x. words o (right_words r) (right_words s) (right a) x (right c) 0) (wrong b)
    ++ (map (λ x. words o (right_words r) (right_words s) (right a) (right b) x 0) (wrong c)
    ++ (map (λ w. words o w (right_words s) (right a) (right b) (right c) 0) (wrong_words r)
    ++ (map (λ w. words o (right_words r) w (right a) (right b) (right c) 0) (wrong_words s)
    ++ map (λ x. words o (right_words r) (right_words s) (right a) (right b) (right c) x) (wrong unused)))))

unfoldable pub well_made : List Form → List (List ℕ)
well_made fs = map made fs

unfoldable pub malformed : List Form → List (List ℕ)
malformed [] = []
malformed (f ∷ fs) = one_wrong f ++ malformed fs

-- ---- what they are answered

-- every request is answered 5
unfoldable pub all5 : Tables → List (List ℕ) → Bool
all5 d [] = true
all5 d (q ∷ qs) = elim (eqb (answer d (request_of q)) 5) [ true ↦ all5 d qs | false ↦ false ]

-- none is
unfoldable pub none5 : Tables → List (List ℕ) → Bool
none5 d [] = true
none5 d (q ∷ qs) = elim (eqb (answer d (request_of q)) 5) [ true ↦ false | false ↦ none5 d qs ]
