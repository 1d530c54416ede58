-- Document 01, "Case state S1"; rules 13 and 2.1: case state S1 as the 2,304 words that a program reads, and that they give the same tables.
use Rattle.std.specs.Prelude.{List, [], ◌++◌, ◌∷◌, ◌≡◌, refl, ◌*◌, ◌-◌, ℕ, get_or, length, replicate, take}
use Rattle.std.proofs.Common.{◌∙◌, ap, subst, sym, arith, eqb→eq}
use Rattle.cases.specs.Case.Cases.{asking, at, highest, item}
use Rattle.cases.specs.Case.Opened.{opened}
use Rattle.cases.specs.Case.S1.{s1, s1_sheet}
use Rattle.cases.specs.Case.S1Holds.{s1_good}
use Rattle.model.specs.Request.After.{after}
use Rattle.model.specs.Request.Ladder.{answer}
use Rattle.model.specs.Request.Refusals as refusal
use Rattle.model.specs.Request.Step.{after_of, answer_of, sized}
use Rattle.model.specs.Request.Words.{request_of, request_words}
use Rattle.model.specs.State.AgreeSecure.{check_agrees}
use Rattle.model.specs.State.Check.{check}
use Rattle.model.specs.State.Secure.{Good}
use Rattle.model.specs.Tables.Layout.{entity_width, tables_of, user_width, word_count}
use Rattle.model.specs.Tables.Sheet.{padded, padded_records, sheet_words}
use Rattle.model.specs.Tables.SheetLaws.{sheet_tables_lem, sheet_words_length}
use Rattle.model.specs.Tables.Words.{Tables, entity_count, user_count}
use Rattle.model.proofs.Theorem.Steps.{after_of_tables, answer_of_sized, low_refusal_words, sized_agrees}

-- n words of zero
abbrev zeros : ℕ → List ℕ
zeros n = replicate n 0

-- the records of users 1 to 3
unfoldable pub s1_users : List ℕ
s1_users =
    1 ∷ highest ∷ 7 ∷ 1 ∷ 1 ∷ 0 ∷ 0 ∷ 0 ∷ 0 ∷ 0 ∷ 0 ∷ 0 ∷ 0 ∷ 0 ∷ 0 ∷ 0
    ∷ 1 ∷ at 1 0 ∷ 0 ∷ 0 ∷ 2 ∷ 0 ∷ 0 ∷ 0 ∷ 0 ∷ 0 ∷ 0 ∷ 0 ∷ 0 ∷ 0 ∷ 0 ∷ 0
    ∷ 1 ∷ at 2 1 ∷ 6 ∷ 0 ∷ 0 ∷ 0 ∷ 0 ∷ 0 ∷ 0 ∷ 0 ∷ 0 ∷ 0 ∷ 0 ∷ 0 ∷ 0 ∷ 0
    ∷ []

-- the records of entities 1 to 7, sixteen words to a line
unfoldable pub s1_entities : List ℕ
s1_entities =
    -- 1
    3 ∷ 0 ∷ highest ∷ 0 ∷ 0 ∷ 0 ∷ highest ∷ 0 ∷ 0 ∷ 0 ∷ 0 ∷ 0 ∷ 0 ∷ 0 ∷ 0 ∷ 0
    ∷ 0 ∷ 0 ∷ 0 ∷ 0 ∷ 0 ∷ 0 ∷ 0 ∷ 0 ∷ 0 ∷ 0 ∷ 0 ∷ 0 ∷ 0 ∷ 0 ∷ 0 ∷ 0
    -- 2
    ∷ 3 ∷ 0 ∷ at 2 0 ∷ 0 ∷ 0 ∷ 0 ∷ at 2 0 ∷ 0 ∷ 0 ∷ 0 ∷ 0 ∷ 0 ∷ 0 ∷ 0 ∷ 0 ∷ 0
    ∷ 0 ∷ 0 ∷ 0 ∷ 0 ∷ 0 ∷ 0 ∷ 0 ∷ 0 ∷ 0 ∷ 0 ∷ 0 ∷ 0 ∷ 0 ∷ 0 ∷ 0 ∷ 0
    -- 3
    ∷ 3 ∷ 0 ∷ 0 ∷ 0 ∷ 0 ∷ 0 ∷ highest ∷ 0 ∷ 0 ∷ 0 ∷ 0 ∷ 0 ∷ 0 ∷ 0 ∷ 0 ∷ 0
    ∷ 0 ∷ 0 ∷ 0 ∷ 0 ∷ 0 ∷ 0 ∷ 0 ∷ 0 ∷ 199681 ∷ 0 ∷ 0 ∷ 0 ∷ 0 ∷ 0 ∷ 0 ∷ 0
    -- 4
    ∷ 2 ∷ 0 ∷ at 2 1 ∷ 1 ∷ 0 ∷ 0 ∷ 0 ∷ 2 ∷ 5 ∷ 6 ∷ 0 ∷ 0 ∷ 0 ∷ 0 ∷ 0 ∷ 0
    ∷ 0 ∷ 0 ∷ 0 ∷ 0 ∷ 0 ∷ 0 ∷ 0 ∷ 0 ∷ 0 ∷ 0 ∷ 0 ∷ 0 ∷ 0 ∷ 0 ∷ 0 ∷ 0
    -- 5
    ∷ 1 ∷ 0 ∷ at 1 0 ∷ 0 ∷ 40 ∷ 0 ∷ 0 ∷ 0 ∷ 0 ∷ 0 ∷ 0 ∷ 0 ∷ 0 ∷ 0 ∷ 0 ∷ 0
    ∷ 0 ∷ 0 ∷ 0 ∷ 0 ∷ 0 ∷ 0 ∷ 0 ∷ 0 ∷ 133633 ∷ 132353 ∷ 0 ∷ 0 ∷ 0 ∷ 0 ∷ 0 ∷ 0
    -- 6
    ∷ 2 ∷ 1 ∷ at 2 1 ∷ 0 ∷ 41 ∷ 0 ∷ 0 ∷ 0 ∷ 0 ∷ 0 ∷ 0 ∷ 0 ∷ 0 ∷ 0 ∷ 0 ∷ 0
    ∷ 0 ∷ 0 ∷ 0 ∷ 0 ∷ 0 ∷ 0 ∷ 0 ∷ 0 ∷ 70401 ∷ 0 ∷ 0 ∷ 0 ∷ 0 ∷ 0 ∷ 0 ∷ 0
    -- 7
    ∷ 2 ∷ 0 ∷ at 1 0 ∷ 0 ∷ 0 ∷ 0 ∷ 0 ∷ 0 ∷ 0 ∷ 0 ∷ 0 ∷ 0 ∷ 0 ∷ 0 ∷ 0 ∷ 0
    ∷ 0 ∷ 0 ∷ 0 ∷ 0 ∷ 0 ∷ 0 ∷ 0 ∷ 0 ∷ 132354 ∷ 131329 ∷ 67073 ∷ 0 ∷ 0 ∷ 0 ∷ 0 ∷ 0
    ∷ []

-- the other users and entities are absent
unfoldable pub s1_words : List ℕ
s1_words = s1_users ++ (zeros ((user_count - 3) * user_width) ++ (s1_entities ++ zeros ((entity_count - 7) * entity_width)))

pub s1_words_sheet : s1_words ≡ sheet_words s1_sheet
unfolding s1_words s1_users s1_entities sheet_words padded_records padded s1_sheet item
s1_words_sheet = refl

pub s1_words_tables : tables_of s1_words ≡ s1
unfolding s1
s1_words_tables = ap tables_of s1_words_sheet ∙ sheet_tables_lem s1_sheet

pub s1_words_length : length s1_words ≡ word_count
s1_words_length = ap length s1_words_sheet ∙ sheet_words_length s1_sheet

-- the state check passes them
pub s1_words_checked : check s1_words ≡ 0
s1_words_checked = eqb→eq (check s1_words) 0 ((check_agrees s1_words).from (s1_words_length, subst Good (sym s1_words_tables) s1_good))

-- a step on them answers and leaves what it does on S1, so every case of S1 is a case of words
pub s1_words_answer : (q : List ℕ) → length q ≡ request_words → answer_of s1_words q ≡ answer s1 (request_of q)
s1_words_answer q h = answer_of_sized s1_words q ((sized_agrees s1_words q).from (s1_words_length, h)) ∙ ap (λ (d : Tables). answer d (request_of q))
    s1_words_tables

pub s1_words_after : (q : List ℕ) → length q ≡ request_words → tables_of (after_of s1_words q) ≡ after s1 (request_of q)
s1_words_after q h = after_of_tables s1_words q ((sized_agrees s1_words q).from (s1_words_length, h)) ∙ ap (λ (d : Tables). after d (request_of q))
    s1_words_tables

-- user 9 is answered 4, whatever is asked, and every word stays
unknown_answer : (q : List ℕ) → get_or q 0 0 ≡ 9 → answer s1 (request_of q) ≡ refusal.unknown_requester
unfolding opened s1 s1_sheet
unknown_answer [] e = absurd (omega (arith, e))
unknown_answer (u ∷ q) e = subst (λ (v : ℕ). answer s1 (request_of (v ∷ q)) ≡ refusal.unknown_requester) (sym e) refl

pub s1_words_unknown : (q : List ℕ) → length q ≡ request_words → get_or q 0 0 ≡ 9
    → (answer_of s1_words q ≡ refusal.unknown_requester) × (after_of s1_words q ≡ s1_words)
s1_words_unknown q h e =
    let a = s1_words_answer q h ∙ unknown_answer q e in
    (a, low_refusal_words s1_words q (omega arith) (omega arith))

-- a word too few or too many, of the tables or of a request, is answered 1
pub s1_words_sizes :
    (answer_of (take (word_count - 1) s1_words) (asking 2 10 (5 ∷ []) [] 3 0 0) ≡ refusal.bad_length)
    × (answer_of (0 ∷ s1_words) (asking 2 10 (5 ∷ []) [] 3 0 0) ≡ refusal.bad_length)
    × (answer_of s1_words (take (request_words - 1) (asking 2 10 (5 ∷ []) [] 3 0 0)) ≡ refusal.bad_length)
    × (answer_of s1_words (0 ∷ asking 2 10 (5 ∷ []) [] 3 0 0) ≡ refusal.bad_length)
unfolding opened answer_of sized s1_words s1_users s1_entities
s1_words_sizes = (refl, refl, refl, refl)
