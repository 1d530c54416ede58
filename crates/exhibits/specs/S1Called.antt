-- Rule 13: S1's cases hold of the linked calls. Each is said of whatever the exported call answers and leaves.
use Rattle.std.specs.Prelude.{List, [], ◌++◌, ◌∷◌, ◌≡◌, ◌*◌, ◌≤◌, ℕ, T, drop, get_or, length}
use Rattle.std.proofs.Common.{◌∙◌, ap, arith}
use Rattle.exhibits.specs.Called.{AllConfirmed, AllInOneRun}
use Rattle.exhibits.specs.CalledLaws.{both_called, both_run, called_word, cases_called, cases_run}
use Rattle.mms.specs.Calls.{RunCall, StepCall}
use Rattle.mms.specs.Contract.{Stepping, checking, exported, numbers}
use Rattle.mms.specs.RoundTrip.{answering}
use Rattle.cases.specs.Case.Cases.{all_in_sixteen, asking, entity_is, expect, noted, stand, user_is}
use Rattle.cases.specs.Case.S1.{s1, starred, unstarred}
use Rattle.cases.specs.Case.S1Holds.{starred_hold, unstarred_hold}
use Rattle.cases.specs.Case.S1Words.{s1_words, s1_words_checked, s1_words_length, s1_words_tables, s1_words_unknown}
use Rattle.model.specs.Request.Words.{request_words}
use Rattle.model.specs.Tables.Layout.{tables_of}
use Rattle.model.specs.Tables.Sheet.{padded}
use Rattle.model.specs.Tables.Words.{held, held_op, missed, released_type, releaser, type}
use Rattle.model.specs.Request.Refusals as refusal

starred_sixteen : T (all_in_sixteen starred)
unfolding starred noted expect asking padded
starred_sixteen = tt

unstarred_sixteen : T (all_in_sixteen unstarred)
unfolding unstarred noted expect asking padded
unstarred_sixteen = tt

starred_called : AllConfirmed s1_words starred
starred_called = cases_called s1_words s1 starred s1_words_length s1_words_tables starred_sixteen starred_hold

unstarred_called : AllConfirmed s1_words unstarred
unstarred_called = cases_called s1_words s1 unstarred s1_words_length s1_words_tables unstarred_sixteen unstarred_hold

-- Every case of a step, starred or not, holds of the calls.
pub s1_called : AllConfirmed s1_words (starred ++ unstarred)
s1_called = both_called s1_words starred unstarred starred_called unstarred_called

-- The last of them written out: user 2 is refused 9, then 15; acknowledges 9 and 1, which is refused 16, and then 9 and 3.
pub s1_acknowledged : (a b c d : ℕ) (r s t u : List ℕ)
    → StepCall s1_words (asking 2 10 (4 ∷ 1 ∷ []) [] 3 0 0) a r
    → StepCall r (asking 2 10 (5 ∷ []) [] 1 0 0) b s
    → StepCall s (asking 2 20 [] [] 9 1 0) c t
    → StepCall t (asking 2 20 [] [] 9 3 0) d u
    → (a ≡ 9 * numbers) × (b ≡ 15 * numbers) × (c ≡ 16 * numbers) × (d ≡ 0)
unfolding unstarred expect
s1_acknowledged a b c d r s t u w x y z =
    let h = unstarred_called.1.1.1.1.0 a r w in
    let i = h.1 b s x in
    let j = i.1 c t y in
    (h.0, i.0, j.0, (j.1 d u z).0)

-- Every case is one run too.
unstarred_run : AllInOneRun s1_words unstarred
unstarred_run = cases_run s1_words s1 unstarred s1_words_length s1_words_tables unstarred_sixteen unstarred_hold

starred_run : AllInOneRun s1_words starred
starred_run = cases_run s1_words s1 starred s1_words_length s1_words_tables starred_sixteen starred_hold

pub s1_run : AllInOneRun s1_words (starred ++ unstarred)
s1_run = both_run s1_words starred unstarred starred_run unstarred_run

-- Two of them written out: user 1 takes on roles 5 and releases 6;
pub s1_released_run : (room : List ℕ) → 2 ≤ length room → (a : ℕ) (r s : List ℕ)
    → RunCall s1_words (asking 1 14 [] [] 1 5 0 ++ asking 1 19 (6 ∷ []) [] 0 0 0) room a r s
    → (a ≡ 0) × (s ≡ 0 ∷ 0 ∷ drop 2 room) × T (stand (entity_is 6 type released_type ∷ entity_is 6 releaser 1 ∷ []) (tables_of r))
unfolding starred expect noted asking padded
s1_released_run = starred_run.1.1.1.1.1.1.1.1.0

-- and user 2 is refused 9 and 15, acknowledges in vain and then rightly.
pub s1_acknowledged_run : (room : List ℕ) → 4 ≤ length room → (a : ℕ) (r s : List ℕ)
    → RunCall s1_words (asking 2 10 (4 ∷ 1 ∷ []) [] 3 0 0 ++ (asking 2 10 (5 ∷ []) [] 1 0 0 ++ (asking 2 20 [] [] 9 1 0 ++ asking 2 20 [] [] 9 3 0))) room a r s
    → (a ≡ 0) × (s ≡ 9 ∷ 15 ∷ 16 ∷ 0 ∷ drop 4 room) × T (stand (user_is 2 held 0 ∷ user_is 2 held_op 0 ∷ user_is 2 missed 0 ∷ []) (tables_of r))
unfolding unstarred expect noted asking padded
s1_acknowledged_run = unstarred_run.1.1.1.1.0

-- User 9 is answered 4, whatever is asked, and every word stays.
pub s1_unknown_called : (q : List ℕ) → length q ≡ request_words → get_or q 0 0 ≡ 9 → (a : ℕ) (r : List ℕ) → StepCall s1_words q a r
    → (a ≡ exported (answering refusal.unknown_requester 0)) × (r ≡ s1_words)
s1_unknown_called q h e =
    let k = s1_words_unknown q h e in
    called_word (Stepping s1_words q) (answering refusal.unknown_requester 0) s1_words
    (λ b s x. (x.answer ∙ ap (λ (n : ℕ). answering n 0) k.0, x.words ∙ k.1))

-- The check passes S1's words.
pub s1_check_called : exported (checking s1_words) ≡ refusal.accepted
s1_check_called = ap (λ (n : ℕ). exported (answering n 0)) s1_words_checked

-- An answer without a number beside it is, for C, a multiple of 2 to the power of 32.
pub exported_alone : (n : ℕ) → exported (answering n 0) ≡ n * 4294967296
exported_alone n = omega arith
