-- Document 02, M-103; rules 16.3 and 16.5: S1's text with a line dropped, doubled or changed, or cut: what the reader answers, and the line that it names.
use Rattle.std.specs.Prelude.{Bool, ◌&&◌, not, true, List, [], ◌++◌, ◌∷◌, ◌-◌, suc, ℕ, T, eqb, drop, length, take}
use Rattle.cases.specs.Case.Opened.{opened}
use Rattle.cases.specs.Case.S1Text.{s1_lines, s1_text}
use Rattle.model.specs.Basics.Together.{together}
use Rattle.model.specs.Tables.WordAt.{entity_word_at, entity_word_of, user_word_at, user_word_of}
use Rattle.model.specs.Tables.Words.{operation_weight, who_weight}
use Rattle.model.specs.Text.Lines.{line, line_end, read_line}
use Rattle.model.specs.Text.Numbers.{digits, most, zero_byte}
use Rattle.model.specs.Text.References.{joined}
use Rattle.model.specs.Text.Wording.{user_key}
use Rattle.tables_text.specs.Calls.{answer_in, line_in}
use Rattle.tables_text.specs.Keys.{clearance_key, content_key, entity_key, kind_key, level_key, places_key, triple_key, triples_key}
use Rattle.tables_text.specs.Stages.{entities_stage, entity_record, entity_stage, places_stage, reading, triples_stage, user_record, user_stage, users_stage}
use Rattle.tables_text.specs.Values.{number_line, place_line, read_field}
use Rattle.model.specs.Request.Refusals as refusal

-- the text with line n, counted from 1, replaced by these lines
abbrev pub with_lines : ℕ → List (List ℕ) → List ℕ
with_lines n ls = together (take (n - 1) s1_lines ++ (ls ++ drop n s1_lines))

-- A text, and what the reader answers and names.
pub record DamagedText : Type 0 where
  pub text : List ℕ
  pub answer : ℕ
  pub number : ℕ

-- 18, at this line
abbrev pub broken : ℕ → List ℕ → DamagedText
broken n s = record { text = s; answer = refusal.not_a_request; number = n }

-- 2, where all lines can be read
abbrev pub unformed : List ℕ → DamagedText
unformed s = record { text = s; answer = refusal.not_well_formed; number = 0 }

-- a line with three parts
abbrev pub part_line : ℕ → ℕ → ℕ → List ℕ
part_line w o p = line triple_key (joined (w ∷ o ∷ p ∷ []))

-- The lines that are touched here: 1 and 2 are user 1 and its clearance, 17 is user 3, 56 and 57 are entity 4 and its kind, 59 is its level, 64 the number
-- of its places, 65 and 66 the places, 68 is entity 5, 77 the number of its triples, 78 and 79 these; 103 is the last.
unfoldable pub damaged_texts : List DamagedText
damaged_texts =
    -- a line is dropped, a line is doubled, a blank line
    broken 2 (with_lines 2 []) ∷ broken 3 (with_lines 2 (number_line clearance_key 1023 ∷ number_line clearance_key 1023 ∷ []))
    ∷ broken 2 (with_lines 2 ((line_end ∷ []) ∷ number_line clearance_key 1023 ∷ []))
    -- another key, a leading zero, a number of 33 bits, no number
    ∷ broken 2 (with_lines 2 (number_line level_key 1023 ∷ []))
    ∷ broken 2 (with_lines 2 (line clearance_key (zero_byte ∷ digits 1023) ∷ []))
    ∷ broken 2 (with_lines 2 (number_line clearance_key (suc most) ∷ []))
    ∷ broken 2 (with_lines 2 (line clearance_key [] ∷ []))
    -- numbers of users and entities that do not rise, or are none
    ∷ broken 17 (with_lines 17 (number_line user_key 2 ∷ [])) ∷ broken 17 (with_lines 17 (number_line user_key 17 ∷ []))
    ∷ broken 1 (with_lines 1 (number_line user_key 0 ∷ [])) ∷ broken 68 (with_lines 68 (number_line entity_key 4 ∷ []))
    ∷ broken 68 (with_lines 68 (number_line entity_key 65 ∷ [])) ∷ broken 2 (with_lines 1 (number_line entity_key 1 ∷ number_line user_key 1 ∷ []))
    -- the users behind the entities
    ∷ broken 80 (together (drop 24 s1_lines ++ take 24 s1_lines))
    -- an absent kind; too many places and triples; fewer lines and more lines than are told
    ∷ broken 57 (with_lines 57 (number_line kind_key 0 ∷ [])) ∷ broken 64 (with_lines 64 (number_line places_key 9 ∷ []))
    ∷ broken 77 (with_lines 77 (number_line triples_key 9 ∷ []))
    ∷ broken 66 (with_lines 66 []) ∷ broken 66 (with_lines 64 (number_line places_key 1 ∷ []))
    ∷ broken 79 (with_lines 79 []) ∷ broken 79 (with_lines 77 (number_line triples_key 1 ∷ []))
    -- a place without its sum; parts of a triple that do not fit; one part too few
    ∷ broken 65 (with_lines 65 (number_line content_key 5 ∷ [])) ∷ broken 78 (with_lines 78 (part_line 0 0 0 ∷ []))
    ∷ broken 78 (with_lines 78 (part_line who_weight 10 1 ∷ [])) ∷ broken 78 (with_lines 78 (part_line 2 operation_weight 1 ∷ []))
    ∷ broken 78 (with_lines 78 (part_line 2 10 operation_weight ∷ [])) ∷ broken 78 (with_lines 78 (line triple_key (joined (2 ∷ 10 ∷ [])) ∷ []))
    -- the last line, or only its end, is missing; a byte more
    ∷ broken 103 (with_lines 103 []) ∷ broken 103 (take (length s1_text - 1) s1_text) ∷ broken 104 (s1_text ++ (line_end ∷ []))
    -- what is no line rule is a matter of the tables: no level, an entity in a place that is absent, an operation that is none
    ∷ unformed (with_lines 59 (number_line level_key 5000 ∷ []))
    ∷ unformed (with_lines 65 (place_line (record { entity = 60; sum = 0 }) ∷ []))
    ∷ unformed (with_lines 78 (part_line 2 99 1 ∷ []))
    -- and 18 comes before 2
    ∷ broken 103 (together (take 58 s1_lines ++ (number_line level_key 5000 ∷ take 43 (drop 59 s1_lines))))
    ∷ []

-- what a reading of a text answers and names, and that it is a refusal
unfoldable pub holds : DamagedText → Bool
holds c = eqb (answer_in (reading c.text)) c.answer && (eqb (line_in c.text (reading c.text)) c.number && not (eqb c.answer refusal.accepted))

unfoldable pub all_hold : List DamagedText → Bool
all_hold [] = true
all_hold (c ∷ cs) = holds c && all_hold cs

pub damaged_texts_hold : T (all_hold damaged_texts)
unfolding opened s1_text s1_lines damaged_texts holds all_hold reading users_stage entities_stage user_record entity_record user_stage entity_stage
    places_stage triples_stage read_field read_line line digits entity_word_at entity_word_of user_word_at user_word_of
damaged_texts_hold = tt
