-- Document 02, M-103; rules 16.1, 16.2 and 16.4: texts of other tables than S1: records in which no word is 0 that need not be, byte for byte; tables with
-- no record; and tables that are well-formed and not secure.
use Rattle.std.specs.Prelude.{true, List, [], ◌∷◌, ◌≡◌, refl, ℕ, T, length, replicate, set}
use Rattle.std.proofs.Common.{◌∙◌, ap, subst, sym, arith, length-set, eq-eqb}
use Rattle.cases.specs.Case.Opened.{opened}
use Rattle.cases.specs.Case.S1.{s1, s1_sheet}
use Rattle.cases.specs.Case.S1Text.{all_fit, fit_small, no_text}
use Rattle.cases.specs.Case.S1Words.{s1_entities, s1_users, s1_words, s1_words_length, s1_words_tables}
use Rattle.model.specs.Basics.Together.{together}
use Rattle.model.specs.State.Check.{check, judge, well_formed_test}
use Rattle.model.specs.State.WellFormed.{WellFormed}
use Rattle.model.specs.Tables.Edits.{on_user, user_word}
use Rattle.model.specs.Tables.Layout.{Bounded, tables_of, user_at, word_count}
use Rattle.model.specs.Tables.LayoutLaws.{bounded, user_set}
use Rattle.model.specs.Tables.WordAt.{entity_word_at, entity_word_of, user_word_at, user_word_of}
use Rattle.model.specs.Tables.Words.{current}
use Rattle.model.specs.Tables.WordsOf.{first_values, word_at_index, words_of}
use Rattle.model.specs.Tables.WordsOfLaws.{tables_of_words_of, words_of_length}
use Rattle.model.specs.Text.Lines.{line}
use Rattle.model.specs.Text.Numbers.{digits}
use Rattle.tables_text.specs.Calls.{text_of_tables}
use Rattle.tables_text.specs.Given.{TextOf}
use Rattle.tables_text.proofs.GivenLaws.{formed}
use Rattle.tables_text.specs.LongestTables.{full_device, full_entity, full_thing, full_user, longest_tables}
use Rattle.tables_text.specs.Stages.{no_tables}
use Rattle.tables_text.specs.TextOf.{entity_lines, entity_text, field_lines, series, tables_text, user_lines, user_text}
use Rattle.model.specs.Request.Refusals as refusal

-- ---- records with all words in use

-- user 16 of the tables with the longest text,
unfoldable pub full_user_lines : List (List ℕ)
full_user_lines =
    -- user=16
    (117 ∷ 115 ∷ 101 ∷ 114 ∷ 61 ∷ 49 ∷ 54 ∷ 10 ∷ [])
    -- clearance=1023
    ∷ (99 ∷ 108 ∷ 101 ∷ 97 ∷ 114 ∷ 97 ∷ 110 ∷ 99 ∷ 101 ∷ 61 ∷ 49 ∷ 48 ∷ 50 ∷ 51 ∷ 10 ∷ [])
    -- authorised=255
    ∷ (97 ∷ 117 ∷ 116 ∷ 104 ∷ 111 ∷ 114 ∷ 105 ∷ 115 ∷ 101 ∷ 100 ∷ 61 ∷ 50 ∷ 53 ∷ 53 ∷ 10 ∷ [])
    -- current=255
    ∷ (99 ∷ 117 ∷ 114 ∷ 114 ∷ 101 ∷ 110 ∷ 116 ∷ 61 ∷ 50 ∷ 53 ∷ 53 ∷ 10 ∷ [])
    -- device=64
    ∷ (100 ∷ 101 ∷ 118 ∷ 105 ∷ 99 ∷ 101 ∷ 61 ∷ 54 ∷ 52 ∷ 10 ∷ [])
    -- held=16
    ∷ (104 ∷ 101 ∷ 108 ∷ 100 ∷ 61 ∷ 49 ∷ 54 ∷ 10 ∷ [])
    -- operation=20
    ∷ (111 ∷ 112 ∷ 101 ∷ 114 ∷ 97 ∷ 116 ∷ 105 ∷ 111 ∷ 110 ∷ 61 ∷ 50 ∷ 48 ∷ 10 ∷ [])
    -- missed=65535
    ∷ (109 ∷ 105 ∷ 115 ∷ 115 ∷ 101 ∷ 100 ∷ 61 ∷ 54 ∷ 53 ∷ 53 ∷ 51 ∷ 53 ∷ 10 ∷ [])
    ∷ []

pub full_user_text : user_text longest_tables 16 ≡ together full_user_lines
unfolding full_user_lines user_text user_lines field_lines line digits user_word_at user_word_of longest_tables full_user
full_user_text = refl

-- the device that this user is on, which shows eight entities,
unfoldable pub full_device_lines : List (List ℕ)
full_device_lines =
    -- entity=64
    (101 ∷ 110 ∷ 116 ∷ 105 ∷ 116 ∷ 121 ∷ 61 ∷ 54 ∷ 52 ∷ 10 ∷ [])
    -- kind=3
    ∷ (107 ∷ 105 ∷ 110 ∷ 100 ∷ 61 ∷ 51 ∷ 10 ∷ [])
    -- type=0
    ∷ (116 ∷ 121 ∷ 112 ∷ 101 ∷ 61 ∷ 48 ∷ 10 ∷ [])
    -- level=1023
    ∷ (108 ∷ 101 ∷ 118 ∷ 101 ∷ 108 ∷ 61 ∷ 49 ∷ 48 ∷ 50 ∷ 51 ∷ 10 ∷ [])
    -- mark=0
    ∷ (109 ∷ 97 ∷ 114 ∷ 107 ∷ 61 ∷ 48 ∷ 10 ∷ [])
    -- value=0
    ∷ (118 ∷ 97 ∷ 108 ∷ 117 ∷ 101 ∷ 61 ∷ 48 ∷ 10 ∷ [])
    -- releaser=0
    ∷ (114 ∷ 101 ∷ 108 ∷ 101 ∷ 97 ∷ 115 ∷ 101 ∷ 114 ∷ 61 ∷ 48 ∷ 10 ∷ [])
    -- maximum=1023
    ∷ (109 ∷ 97 ∷ 120 ∷ 105 ∷ 109 ∷ 117 ∷ 109 ∷ 61 ∷ 49 ∷ 48 ∷ 50 ∷ 51 ∷ 10 ∷ [])
    -- places=8
    ∷ (112 ∷ 108 ∷ 97 ∷ 99 ∷ 101 ∷ 115 ∷ 61 ∷ 56 ∷ 10 ∷ [])
    -- content=10.7
    ∷ (99 ∷ 111 ∷ 110 ∷ 116 ∷ 101 ∷ 110 ∷ 116 ∷ 61 ∷ 49 ∷ 48 ∷ 46 ∷ 55 ∷ 10 ∷ [])
    -- content=11.7
    ∷ (99 ∷ 111 ∷ 110 ∷ 116 ∷ 101 ∷ 110 ∷ 116 ∷ 61 ∷ 49 ∷ 49 ∷ 46 ∷ 55 ∷ 10 ∷ [])
    -- content=12.7
    ∷ (99 ∷ 111 ∷ 110 ∷ 116 ∷ 101 ∷ 110 ∷ 116 ∷ 61 ∷ 49 ∷ 50 ∷ 46 ∷ 55 ∷ 10 ∷ [])
    -- content=13.7
    ∷ (99 ∷ 111 ∷ 110 ∷ 116 ∷ 101 ∷ 110 ∷ 116 ∷ 61 ∷ 49 ∷ 51 ∷ 46 ∷ 55 ∷ 10 ∷ [])
    -- content=14.7
    ∷ (99 ∷ 111 ∷ 110 ∷ 116 ∷ 101 ∷ 110 ∷ 116 ∷ 61 ∷ 49 ∷ 52 ∷ 46 ∷ 55 ∷ 10 ∷ [])
    -- content=15.7
    ∷ (99 ∷ 111 ∷ 110 ∷ 116 ∷ 101 ∷ 110 ∷ 116 ∷ 61 ∷ 49 ∷ 53 ∷ 46 ∷ 55 ∷ 10 ∷ [])
    -- content=16.7
    ∷ (99 ∷ 111 ∷ 110 ∷ 116 ∷ 101 ∷ 110 ∷ 116 ∷ 61 ∷ 49 ∷ 54 ∷ 46 ∷ 55 ∷ 10 ∷ [])
    -- content=17.7
    ∷ (99 ∷ 111 ∷ 110 ∷ 116 ∷ 101 ∷ 110 ∷ 116 ∷ 61 ∷ 49 ∷ 55 ∷ 46 ∷ 55 ∷ 10 ∷ [])
    -- triples=8
    ∷ (116 ∷ 114 ∷ 105 ∷ 112 ∷ 108 ∷ 101 ∷ 115 ∷ 61 ∷ 56 ∷ 10 ∷ [])
    -- triple=10.10.1
    ∷ (116 ∷ 114 ∷ 105 ∷ 112 ∷ 108 ∷ 101 ∷ 61 ∷ 49 ∷ 48 ∷ 46 ∷ 49 ∷ 48 ∷ 46 ∷ 49 ∷ 10 ∷ [])
    -- triple=11.10.1
    ∷ (116 ∷ 114 ∷ 105 ∷ 112 ∷ 108 ∷ 101 ∷ 61 ∷ 49 ∷ 49 ∷ 46 ∷ 49 ∷ 48 ∷ 46 ∷ 49 ∷ 10 ∷ [])
    -- triple=12.10.1
    ∷ (116 ∷ 114 ∷ 105 ∷ 112 ∷ 108 ∷ 101 ∷ 61 ∷ 49 ∷ 50 ∷ 46 ∷ 49 ∷ 48 ∷ 46 ∷ 49 ∷ 10 ∷ [])
    -- triple=13.10.1
    ∷ (116 ∷ 114 ∷ 105 ∷ 112 ∷ 108 ∷ 101 ∷ 61 ∷ 49 ∷ 51 ∷ 46 ∷ 49 ∷ 48 ∷ 46 ∷ 49 ∷ 10 ∷ [])
    -- triple=14.10.1
    ∷ (116 ∷ 114 ∷ 105 ∷ 112 ∷ 108 ∷ 101 ∷ 61 ∷ 49 ∷ 52 ∷ 46 ∷ 49 ∷ 48 ∷ 46 ∷ 49 ∷ 10 ∷ [])
    -- triple=15.10.1
    ∷ (116 ∷ 114 ∷ 105 ∷ 112 ∷ 108 ∷ 101 ∷ 61 ∷ 49 ∷ 53 ∷ 46 ∷ 49 ∷ 48 ∷ 46 ∷ 49 ∷ 10 ∷ [])
    -- triple=16.10.1
    ∷ (116 ∷ 114 ∷ 105 ∷ 112 ∷ 108 ∷ 101 ∷ 61 ∷ 49 ∷ 54 ∷ 46 ∷ 49 ∷ 48 ∷ 46 ∷ 49 ∷ 10 ∷ [])
    -- triple=17.10.1
    ∷ (116 ∷ 114 ∷ 105 ∷ 112 ∷ 108 ∷ 101 ∷ 61 ∷ 49 ∷ 55 ∷ 46 ∷ 49 ∷ 48 ∷ 46 ∷ 49 ∷ 10 ∷ [])
    ∷ []

pub full_device_text : entity_text longest_tables 64 ≡ together full_device_lines
unfolding opened full_device_lines entity_text entity_lines field_lines series line digits entity_word_at entity_word_of longest_tables full_entity full_thing
    full_device
full_device_text = refl

-- and a released container.
unfoldable pub full_thing_lines : List (List ℕ)
full_thing_lines =
    -- entity=1
    (101 ∷ 110 ∷ 116 ∷ 105 ∷ 116 ∷ 121 ∷ 61 ∷ 49 ∷ 10 ∷ [])
    -- kind=2
    ∷ (107 ∷ 105 ∷ 110 ∷ 100 ∷ 61 ∷ 50 ∷ 10 ∷ [])
    -- type=2
    ∷ (116 ∷ 121 ∷ 112 ∷ 101 ∷ 61 ∷ 50 ∷ 10 ∷ [])
    -- level=1023
    ∷ (108 ∷ 101 ∷ 118 ∷ 101 ∷ 108 ∷ 61 ∷ 49 ∷ 48 ∷ 50 ∷ 51 ∷ 10 ∷ [])
    -- mark=1
    ∷ (109 ∷ 97 ∷ 114 ∷ 107 ∷ 61 ∷ 49 ∷ 10 ∷ [])
    -- value=4294967295
    ∷ (118 ∷ 97 ∷ 108 ∷ 117 ∷ 101 ∷ 61 ∷ 52 ∷ 50 ∷ 57 ∷ 52 ∷ 57 ∷ 54 ∷ 55 ∷ 50 ∷ 57 ∷ 53 ∷ 10 ∷ [])
    -- releaser=16
    ∷ (114 ∷ 101 ∷ 108 ∷ 101 ∷ 97 ∷ 115 ∷ 101 ∷ 114 ∷ 61 ∷ 49 ∷ 54 ∷ 10 ∷ [])
    -- maximum=0
    ∷ (109 ∷ 97 ∷ 120 ∷ 105 ∷ 109 ∷ 117 ∷ 109 ∷ 61 ∷ 48 ∷ 10 ∷ [])
    -- places=8
    ∷ (112 ∷ 108 ∷ 97 ∷ 99 ∷ 101 ∷ 115 ∷ 61 ∷ 56 ∷ 10 ∷ [])
    -- content=2.0
    ∷ (99 ∷ 111 ∷ 110 ∷ 116 ∷ 101 ∷ 110 ∷ 116 ∷ 61 ∷ 50 ∷ 46 ∷ 48 ∷ 10 ∷ [])
    -- content=3.0
    ∷ (99 ∷ 111 ∷ 110 ∷ 116 ∷ 101 ∷ 110 ∷ 116 ∷ 61 ∷ 51 ∷ 46 ∷ 48 ∷ 10 ∷ [])
    -- content=4.0
    ∷ (99 ∷ 111 ∷ 110 ∷ 116 ∷ 101 ∷ 110 ∷ 116 ∷ 61 ∷ 52 ∷ 46 ∷ 48 ∷ 10 ∷ [])
    -- content=5.0
    ∷ (99 ∷ 111 ∷ 110 ∷ 116 ∷ 101 ∷ 110 ∷ 116 ∷ 61 ∷ 53 ∷ 46 ∷ 48 ∷ 10 ∷ [])
    -- content=6.0
    ∷ (99 ∷ 111 ∷ 110 ∷ 116 ∷ 101 ∷ 110 ∷ 116 ∷ 61 ∷ 54 ∷ 46 ∷ 48 ∷ 10 ∷ [])
    -- content=7.0
    ∷ (99 ∷ 111 ∷ 110 ∷ 116 ∷ 101 ∷ 110 ∷ 116 ∷ 61 ∷ 55 ∷ 46 ∷ 48 ∷ 10 ∷ [])
    -- content=8.0
    ∷ (99 ∷ 111 ∷ 110 ∷ 116 ∷ 101 ∷ 110 ∷ 116 ∷ 61 ∷ 56 ∷ 46 ∷ 48 ∷ 10 ∷ [])
    -- content=9.0
    ∷ (99 ∷ 111 ∷ 110 ∷ 116 ∷ 101 ∷ 110 ∷ 116 ∷ 61 ∷ 57 ∷ 46 ∷ 48 ∷ 10 ∷ [])
    -- triples=8
    ∷ (116 ∷ 114 ∷ 105 ∷ 112 ∷ 108 ∷ 101 ∷ 115 ∷ 61 ∷ 56 ∷ 10 ∷ [])
    -- triple=10.10.1
    ∷ (116 ∷ 114 ∷ 105 ∷ 112 ∷ 108 ∷ 101 ∷ 61 ∷ 49 ∷ 48 ∷ 46 ∷ 49 ∷ 48 ∷ 46 ∷ 49 ∷ 10 ∷ [])
    -- triple=11.10.1
    ∷ (116 ∷ 114 ∷ 105 ∷ 112 ∷ 108 ∷ 101 ∷ 61 ∷ 49 ∷ 49 ∷ 46 ∷ 49 ∷ 48 ∷ 46 ∷ 49 ∷ 10 ∷ [])
    -- triple=12.10.1
    ∷ (116 ∷ 114 ∷ 105 ∷ 112 ∷ 108 ∷ 101 ∷ 61 ∷ 49 ∷ 50 ∷ 46 ∷ 49 ∷ 48 ∷ 46 ∷ 49 ∷ 10 ∷ [])
    -- triple=13.10.1
    ∷ (116 ∷ 114 ∷ 105 ∷ 112 ∷ 108 ∷ 101 ∷ 61 ∷ 49 ∷ 51 ∷ 46 ∷ 49 ∷ 48 ∷ 46 ∷ 49 ∷ 10 ∷ [])
    -- triple=14.10.1
    ∷ (116 ∷ 114 ∷ 105 ∷ 112 ∷ 108 ∷ 101 ∷ 61 ∷ 49 ∷ 52 ∷ 46 ∷ 49 ∷ 48 ∷ 46 ∷ 49 ∷ 10 ∷ [])
    -- triple=15.10.1
    ∷ (116 ∷ 114 ∷ 105 ∷ 112 ∷ 108 ∷ 101 ∷ 61 ∷ 49 ∷ 53 ∷ 46 ∷ 49 ∷ 48 ∷ 46 ∷ 49 ∷ 10 ∷ [])
    -- triple=16.10.1
    ∷ (116 ∷ 114 ∷ 105 ∷ 112 ∷ 108 ∷ 101 ∷ 61 ∷ 49 ∷ 54 ∷ 46 ∷ 49 ∷ 48 ∷ 46 ∷ 49 ∷ 10 ∷ [])
    -- triple=17.10.1
    ∷ (116 ∷ 114 ∷ 105 ∷ 112 ∷ 108 ∷ 101 ∷ 61 ∷ 49 ∷ 55 ∷ 46 ∷ 49 ∷ 48 ∷ 46 ∷ 49 ∷ 10 ∷ [])
    ∷ []

pub full_thing_text : entity_text longest_tables 1 ≡ together full_thing_lines
unfolding opened full_thing_lines entity_text entity_lines field_lines series line digits entity_word_at entity_word_of longest_tables full_entity full_thing
    full_device
full_thing_text = refl

-- ---- tables with no record

-- 2,304 words that are all 0
unfoldable pub no_words : List ℕ
no_words = replicate word_count 0

no_words_are : words_of no_tables ≡ no_words
unfolding no_words words_of first_values word_at_index
no_words_are = refl

no_bounded : Bounded no_tables
no_bounded = record {
  user_out = λ u q f. refl;
  entity_out = λ e q f. refl;
  places_out = λ e i h. refl;
  shown_out = λ e i h. refl;
  triples_out = λ e i h. refl;
  spares_out = λ u i h. refl;
}

no_words_tables : tables_of no_words ≡ no_tables
no_words_tables = ap tables_of (sym no_words_are) ∙ tables_of_words_of no_tables no_bounded

no_words_test : well_formed_test no_tables ≡ true
unfolding opened
no_words_test = refl

no_words_length : length no_words ≡ word_count
no_words_length = ap length (sym no_words_are) ∙ words_of_length no_tables

no_words_fit : T (all_fit no_words)
unfolding all_fit no_words
no_words_fit = tt

-- They are well-formed, and have the text of no bytes.
pub no_record_text : TextOf [] no_words
no_record_text = record {
  size = no_words_length;
  small = fit_small no_words no_words_fit;
  well_formed = subst WellFormed (sym no_words_tables) (formed no_tables no_bounded no_words_test);
  is = sym (ap tables_text no_words_tables ∙ no_text);
}

-- ---- tables that are not secure

-- S1, but user 2 acts with role 1, which is not authorised (rule 4.4)
unfoldable pub insecure_words : List ℕ
insecure_words = set s1_words (user_at 2 current) 1

insecure_tables : tables_of insecure_words ≡ on_user 2 (user_word current 1) s1
unfolding insecure_words
insecure_tables = user_set s1_words s1_words_length 2 current 1 (omega arith) (omega arith) (omega arith) ∙ ap (on_user 2 (user_word current 1)) s1_words_tables

insecure_length : length insecure_words ≡ word_count
unfolding insecure_words
insecure_length = length-set s1_words (user_at 2 current) 1 ∙ s1_words_length

insecure_judged : judge (on_user 2 (user_word current 1) s1) ≡ refusal.not_secure
unfolding opened s1 s1_sheet
insecure_judged = refl

-- The check says so,
pub insecure_checked_lem : check insecure_words ≡ refusal.not_secure
unfolding check
insecure_checked_lem = rw (eq-eqb (length insecure_words) word_count insecure_length) (ap judge insecure_tables ∙ insecure_judged)

insecure_formed : well_formed_test (on_user 2 (user_word current 1) s1) ≡ true
unfolding opened s1 s1_sheet
insecure_formed = refl

insecure_fit : T (all_fit insecure_words)
unfolding all_fit insecure_words s1_words s1_users s1_entities
insecure_fit = tt

-- and they have a text all the same.
pub insecure_text : TextOf (text_of_tables insecure_words) insecure_words
insecure_text = record {
  size = insecure_length;
  small = fit_small insecure_words insecure_fit;
  well_formed = formed (tables_of insecure_words) (bounded insecure_words) (ap well_formed_test insecure_tables ∙ insecure_formed);
  is = refl;
}
