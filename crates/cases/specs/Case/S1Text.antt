-- Document 02, M-103; rules 13, 16.1 and 16.2: the text of case state S1, byte for byte, a line to a line.
use Rattle.std.specs.Prelude.{Bool, ◌&&◌, true, List, [], ◌∷◌, ◌≡◌, refl, ◌≤◌, suc, zero, ℕ, T, leb, get_or, length}
use Rattle.std.proofs.Common.{◌∙◌, ap, sym, zero-le}
use Rattle.cases.specs.Case.Opened.{opened}
use Rattle.cases.specs.Case.S1.{s1, s1_sheet}
use Rattle.cases.specs.Case.S1Words.{s1_entities, s1_users, s1_words, s1_words_checked, s1_words_length, s1_words_tables}
use Rattle.model.specs.Basics.Agree.{agrees_eq, agrees_le}
use Rattle.model.specs.Basics.TestLaws.{T-l, T-r}
use Rattle.model.specs.Basics.Together.{together}
use Rattle.model.specs.State.AgreeSecure.{check_agrees}
use Rattle.model.specs.State.Check.{check}
use Rattle.model.specs.Tables.Layout.{tables_of}
use Rattle.model.specs.Tables.WordAt.{entity_word_at, entity_word_of, user_word_at, user_word_of}
use Rattle.model.specs.Tables.WordsOf.{first_values, word_at_index, words_of}
use Rattle.model.specs.Text.Lines.{line, read_line}
use Rattle.model.specs.Text.Numbers.{digits, most}
use Rattle.model.specs.Text.Unfinished.{ends}
use Rattle.tables_text.specs.Given.{TextOf}
use Rattle.tables_text.specs.Stages.{Stage, entities_stage, entity_record, entity_stage, no_tables, past, places_stage, reading, stuck, triples_stage}
use Rattle.tables_text.specs.Stages.{user_record, user_stage, users_stage}
use Rattle.tables_text.specs.TextOf.{entity_lines, entity_text, field_lines, series, tables_text, user_lines, user_text}
use Rattle.tables_text.specs.Values.{read_field}
use Rattle.model.specs.Request.Refusals as refusal

-- its 103 lines
unfoldable pub s1_lines : List (List ℕ)
s1_lines =
    -- user=1
    (117 ∷ 115 ∷ 101 ∷ 114 ∷ 61 ∷ 49 ∷ 10 ∷ [])
    -- clearance=1023
    ∷ (99 ∷ 108 ∷ 101 ∷ 97 ∷ 114 ∷ 97 ∷ 110 ∷ 99 ∷ 101 ∷ 61 ∷ 49 ∷ 48 ∷ 50 ∷ 51 ∷ 10 ∷ [])
    -- authorised=7
    ∷ (97 ∷ 117 ∷ 116 ∷ 104 ∷ 111 ∷ 114 ∷ 105 ∷ 115 ∷ 101 ∷ 100 ∷ 61 ∷ 55 ∷ 10 ∷ [])
    -- current=1
    ∷ (99 ∷ 117 ∷ 114 ∷ 114 ∷ 101 ∷ 110 ∷ 116 ∷ 61 ∷ 49 ∷ 10 ∷ [])
    -- device=1
    ∷ (100 ∷ 101 ∷ 118 ∷ 105 ∷ 99 ∷ 101 ∷ 61 ∷ 49 ∷ 10 ∷ [])
    -- held=0
    ∷ (104 ∷ 101 ∷ 108 ∷ 100 ∷ 61 ∷ 48 ∷ 10 ∷ [])
    -- operation=0
    ∷ (111 ∷ 112 ∷ 101 ∷ 114 ∷ 97 ∷ 116 ∷ 105 ∷ 111 ∷ 110 ∷ 61 ∷ 48 ∷ 10 ∷ [])
    -- missed=0
    ∷ (109 ∷ 105 ∷ 115 ∷ 115 ∷ 101 ∷ 100 ∷ 61 ∷ 48 ∷ 10 ∷ [])
    -- user=2
    ∷ (117 ∷ 115 ∷ 101 ∷ 114 ∷ 61 ∷ 50 ∷ 10 ∷ [])
    -- clearance=256
    ∷ (99 ∷ 108 ∷ 101 ∷ 97 ∷ 114 ∷ 97 ∷ 110 ∷ 99 ∷ 101 ∷ 61 ∷ 50 ∷ 53 ∷ 54 ∷ 10 ∷ [])
    -- authorised=0
    ∷ (97 ∷ 117 ∷ 116 ∷ 104 ∷ 111 ∷ 114 ∷ 105 ∷ 115 ∷ 101 ∷ 100 ∷ 61 ∷ 48 ∷ 10 ∷ [])
    -- current=0
    ∷ (99 ∷ 117 ∷ 114 ∷ 114 ∷ 101 ∷ 110 ∷ 116 ∷ 61 ∷ 48 ∷ 10 ∷ [])
    -- device=2
    ∷ (100 ∷ 101 ∷ 118 ∷ 105 ∷ 99 ∷ 101 ∷ 61 ∷ 50 ∷ 10 ∷ [])
    -- held=0
    ∷ (104 ∷ 101 ∷ 108 ∷ 100 ∷ 61 ∷ 48 ∷ 10 ∷ [])
    -- operation=0
    ∷ (111 ∷ 112 ∷ 101 ∷ 114 ∷ 97 ∷ 116 ∷ 105 ∷ 111 ∷ 110 ∷ 61 ∷ 48 ∷ 10 ∷ [])
    -- missed=0
    ∷ (109 ∷ 105 ∷ 115 ∷ 115 ∷ 101 ∷ 100 ∷ 61 ∷ 48 ∷ 10 ∷ [])
    -- user=3
    ∷ (117 ∷ 115 ∷ 101 ∷ 114 ∷ 61 ∷ 51 ∷ 10 ∷ [])
    -- clearance=513
    ∷ (99 ∷ 108 ∷ 101 ∷ 97 ∷ 114 ∷ 97 ∷ 110 ∷ 99 ∷ 101 ∷ 61 ∷ 53 ∷ 49 ∷ 51 ∷ 10 ∷ [])
    -- authorised=6
    ∷ (97 ∷ 117 ∷ 116 ∷ 104 ∷ 111 ∷ 114 ∷ 105 ∷ 115 ∷ 101 ∷ 100 ∷ 61 ∷ 54 ∷ 10 ∷ [])
    -- current=0
    ∷ (99 ∷ 117 ∷ 114 ∷ 114 ∷ 101 ∷ 110 ∷ 116 ∷ 61 ∷ 48 ∷ 10 ∷ [])
    -- device=0
    ∷ (100 ∷ 101 ∷ 118 ∷ 105 ∷ 99 ∷ 101 ∷ 61 ∷ 48 ∷ 10 ∷ [])
    -- held=0
    ∷ (104 ∷ 101 ∷ 108 ∷ 100 ∷ 61 ∷ 48 ∷ 10 ∷ [])
    -- operation=0
    ∷ (111 ∷ 112 ∷ 101 ∷ 114 ∷ 97 ∷ 116 ∷ 105 ∷ 111 ∷ 110 ∷ 61 ∷ 48 ∷ 10 ∷ [])
    -- missed=0
    ∷ (109 ∷ 105 ∷ 115 ∷ 115 ∷ 101 ∷ 100 ∷ 61 ∷ 48 ∷ 10 ∷ [])
    -- entity=1
    ∷ (101 ∷ 110 ∷ 116 ∷ 105 ∷ 116 ∷ 121 ∷ 61 ∷ 49 ∷ 10 ∷ [])
    -- kind=3
    ∷ (107 ∷ 105 ∷ 110 ∷ 100 ∷ 61 ∷ 51 ∷ 10 ∷ [])
    -- type=0
    ∷ (116 ∷ 121 ∷ 112 ∷ 101 ∷ 61 ∷ 48 ∷ 10 ∷ [])
    -- level=1023
    ∷ (108 ∷ 101 ∷ 118 ∷ 101 ∷ 108 ∷ 61 ∷ 49 ∷ 48 ∷ 50 ∷ 51 ∷ 10 ∷ [])
    -- mark=0
    ∷ (109 ∷ 97 ∷ 114 ∷ 107 ∷ 61 ∷ 48 ∷ 10 ∷ [])
    -- value=0
    ∷ (118 ∷ 97 ∷ 108 ∷ 117 ∷ 101 ∷ 61 ∷ 48 ∷ 10 ∷ [])
    -- releaser=0
    ∷ (114 ∷ 101 ∷ 108 ∷ 101 ∷ 97 ∷ 115 ∷ 101 ∷ 114 ∷ 61 ∷ 48 ∷ 10 ∷ [])
    -- maximum=1023
    ∷ (109 ∷ 97 ∷ 120 ∷ 105 ∷ 109 ∷ 117 ∷ 109 ∷ 61 ∷ 49 ∷ 48 ∷ 50 ∷ 51 ∷ 10 ∷ [])
    -- places=0
    ∷ (112 ∷ 108 ∷ 97 ∷ 99 ∷ 101 ∷ 115 ∷ 61 ∷ 48 ∷ 10 ∷ [])
    -- triples=0
    ∷ (116 ∷ 114 ∷ 105 ∷ 112 ∷ 108 ∷ 101 ∷ 115 ∷ 61 ∷ 48 ∷ 10 ∷ [])
    -- entity=2
    ∷ (101 ∷ 110 ∷ 116 ∷ 105 ∷ 116 ∷ 121 ∷ 61 ∷ 50 ∷ 10 ∷ [])
    -- kind=3
    ∷ (107 ∷ 105 ∷ 110 ∷ 100 ∷ 61 ∷ 51 ∷ 10 ∷ [])
    -- type=0
    ∷ (116 ∷ 121 ∷ 112 ∷ 101 ∷ 61 ∷ 48 ∷ 10 ∷ [])
    -- level=512
    ∷ (108 ∷ 101 ∷ 118 ∷ 101 ∷ 108 ∷ 61 ∷ 53 ∷ 49 ∷ 50 ∷ 10 ∷ [])
    -- mark=0
    ∷ (109 ∷ 97 ∷ 114 ∷ 107 ∷ 61 ∷ 48 ∷ 10 ∷ [])
    -- value=0
    ∷ (118 ∷ 97 ∷ 108 ∷ 117 ∷ 101 ∷ 61 ∷ 48 ∷ 10 ∷ [])
    -- releaser=0
    ∷ (114 ∷ 101 ∷ 108 ∷ 101 ∷ 97 ∷ 115 ∷ 101 ∷ 114 ∷ 61 ∷ 48 ∷ 10 ∷ [])
    -- maximum=512
    ∷ (109 ∷ 97 ∷ 120 ∷ 105 ∷ 109 ∷ 117 ∷ 109 ∷ 61 ∷ 53 ∷ 49 ∷ 50 ∷ 10 ∷ [])
    -- places=0
    ∷ (112 ∷ 108 ∷ 97 ∷ 99 ∷ 101 ∷ 115 ∷ 61 ∷ 48 ∷ 10 ∷ [])
    -- triples=0
    ∷ (116 ∷ 114 ∷ 105 ∷ 112 ∷ 108 ∷ 101 ∷ 115 ∷ 61 ∷ 48 ∷ 10 ∷ [])
    -- entity=3
    ∷ (101 ∷ 110 ∷ 116 ∷ 105 ∷ 116 ∷ 121 ∷ 61 ∷ 51 ∷ 10 ∷ [])
    -- kind=3
    ∷ (107 ∷ 105 ∷ 110 ∷ 100 ∷ 61 ∷ 51 ∷ 10 ∷ [])
    -- type=0
    ∷ (116 ∷ 121 ∷ 112 ∷ 101 ∷ 61 ∷ 48 ∷ 10 ∷ [])
    -- level=0
    ∷ (108 ∷ 101 ∷ 118 ∷ 101 ∷ 108 ∷ 61 ∷ 48 ∷ 10 ∷ [])
    -- mark=0
    ∷ (109 ∷ 97 ∷ 114 ∷ 107 ∷ 61 ∷ 48 ∷ 10 ∷ [])
    -- value=0
    ∷ (118 ∷ 97 ∷ 108 ∷ 117 ∷ 101 ∷ 61 ∷ 48 ∷ 10 ∷ [])
    -- releaser=0
    ∷ (114 ∷ 101 ∷ 108 ∷ 101 ∷ 97 ∷ 115 ∷ 101 ∷ 114 ∷ 61 ∷ 48 ∷ 10 ∷ [])
    -- maximum=1023
    ∷ (109 ∷ 97 ∷ 120 ∷ 105 ∷ 109 ∷ 117 ∷ 109 ∷ 61 ∷ 49 ∷ 48 ∷ 50 ∷ 51 ∷ 10 ∷ [])
    -- places=0
    ∷ (112 ∷ 108 ∷ 97 ∷ 99 ∷ 101 ∷ 115 ∷ 61 ∷ 48 ∷ 10 ∷ [])
    -- triples=1
    ∷ (116 ∷ 114 ∷ 105 ∷ 112 ∷ 108 ∷ 101 ∷ 115 ∷ 61 ∷ 49 ∷ 10 ∷ [])
    -- triple=3.12.1
    ∷ (116 ∷ 114 ∷ 105 ∷ 112 ∷ 108 ∷ 101 ∷ 61 ∷ 51 ∷ 46 ∷ 49 ∷ 50 ∷ 46 ∷ 49 ∷ 10 ∷ [])
    -- entity=4
    ∷ (101 ∷ 110 ∷ 116 ∷ 105 ∷ 116 ∷ 121 ∷ 61 ∷ 52 ∷ 10 ∷ [])
    -- kind=2
    ∷ (107 ∷ 105 ∷ 110 ∷ 100 ∷ 61 ∷ 50 ∷ 10 ∷ [])
    -- type=0
    ∷ (116 ∷ 121 ∷ 112 ∷ 101 ∷ 61 ∷ 48 ∷ 10 ∷ [])
    -- level=513
    ∷ (108 ∷ 101 ∷ 118 ∷ 101 ∷ 108 ∷ 61 ∷ 53 ∷ 49 ∷ 51 ∷ 10 ∷ [])
    -- mark=1
    ∷ (109 ∷ 97 ∷ 114 ∷ 107 ∷ 61 ∷ 49 ∷ 10 ∷ [])
    -- value=0
    ∷ (118 ∷ 97 ∷ 108 ∷ 117 ∷ 101 ∷ 61 ∷ 48 ∷ 10 ∷ [])
    -- releaser=0
    ∷ (114 ∷ 101 ∷ 108 ∷ 101 ∷ 97 ∷ 115 ∷ 101 ∷ 114 ∷ 61 ∷ 48 ∷ 10 ∷ [])
    -- maximum=0
    ∷ (109 ∷ 97 ∷ 120 ∷ 105 ∷ 109 ∷ 117 ∷ 109 ∷ 61 ∷ 48 ∷ 10 ∷ [])
    -- places=2
    ∷ (112 ∷ 108 ∷ 97 ∷ 99 ∷ 101 ∷ 115 ∷ 61 ∷ 50 ∷ 10 ∷ [])
    -- content=5.0
    ∷ (99 ∷ 111 ∷ 110 ∷ 116 ∷ 101 ∷ 110 ∷ 116 ∷ 61 ∷ 53 ∷ 46 ∷ 48 ∷ 10 ∷ [])
    -- content=6.0
    ∷ (99 ∷ 111 ∷ 110 ∷ 116 ∷ 101 ∷ 110 ∷ 116 ∷ 61 ∷ 54 ∷ 46 ∷ 48 ∷ 10 ∷ [])
    -- triples=0
    ∷ (116 ∷ 114 ∷ 105 ∷ 112 ∷ 108 ∷ 101 ∷ 115 ∷ 61 ∷ 48 ∷ 10 ∷ [])
    -- entity=5
    ∷ (101 ∷ 110 ∷ 116 ∷ 105 ∷ 116 ∷ 121 ∷ 61 ∷ 53 ∷ 10 ∷ [])
    -- kind=1
    ∷ (107 ∷ 105 ∷ 110 ∷ 100 ∷ 61 ∷ 49 ∷ 10 ∷ [])
    -- type=0
    ∷ (116 ∷ 121 ∷ 112 ∷ 101 ∷ 61 ∷ 48 ∷ 10 ∷ [])
    -- level=256
    ∷ (108 ∷ 101 ∷ 118 ∷ 101 ∷ 108 ∷ 61 ∷ 50 ∷ 53 ∷ 54 ∷ 10 ∷ [])
    -- mark=0
    ∷ (109 ∷ 97 ∷ 114 ∷ 107 ∷ 61 ∷ 48 ∷ 10 ∷ [])
    -- value=40
    ∷ (118 ∷ 97 ∷ 108 ∷ 117 ∷ 101 ∷ 61 ∷ 52 ∷ 48 ∷ 10 ∷ [])
    -- releaser=0
    ∷ (114 ∷ 101 ∷ 108 ∷ 101 ∷ 97 ∷ 115 ∷ 101 ∷ 114 ∷ 61 ∷ 48 ∷ 10 ∷ [])
    -- maximum=0
    ∷ (109 ∷ 97 ∷ 120 ∷ 105 ∷ 109 ∷ 117 ∷ 109 ∷ 61 ∷ 48 ∷ 10 ∷ [])
    -- places=0
    ∷ (112 ∷ 108 ∷ 97 ∷ 99 ∷ 101 ∷ 115 ∷ 61 ∷ 48 ∷ 10 ∷ [])
    -- triples=2
    ∷ (116 ∷ 114 ∷ 105 ∷ 112 ∷ 108 ∷ 101 ∷ 115 ∷ 61 ∷ 50 ∷ 10 ∷ [])
    -- triple=2.10.1
    ∷ (116 ∷ 114 ∷ 105 ∷ 112 ∷ 108 ∷ 101 ∷ 61 ∷ 50 ∷ 46 ∷ 49 ∷ 48 ∷ 46 ∷ 49 ∷ 10 ∷ [])
    -- triple=2.5.1
    ∷ (116 ∷ 114 ∷ 105 ∷ 112 ∷ 108 ∷ 101 ∷ 61 ∷ 50 ∷ 46 ∷ 53 ∷ 46 ∷ 49 ∷ 10 ∷ [])
    -- entity=6
    ∷ (101 ∷ 110 ∷ 116 ∷ 105 ∷ 116 ∷ 121 ∷ 61 ∷ 54 ∷ 10 ∷ [])
    -- kind=2
    ∷ (107 ∷ 105 ∷ 110 ∷ 100 ∷ 61 ∷ 50 ∷ 10 ∷ [])
    -- type=1
    ∷ (116 ∷ 121 ∷ 112 ∷ 101 ∷ 61 ∷ 49 ∷ 10 ∷ [])
    -- level=513
    ∷ (108 ∷ 101 ∷ 118 ∷ 101 ∷ 108 ∷ 61 ∷ 53 ∷ 49 ∷ 51 ∷ 10 ∷ [])
    -- mark=0
    ∷ (109 ∷ 97 ∷ 114 ∷ 107 ∷ 61 ∷ 48 ∷ 10 ∷ [])
    -- value=41
    ∷ (118 ∷ 97 ∷ 108 ∷ 117 ∷ 101 ∷ 61 ∷ 52 ∷ 49 ∷ 10 ∷ [])
    -- releaser=0
    ∷ (114 ∷ 101 ∷ 108 ∷ 101 ∷ 97 ∷ 115 ∷ 101 ∷ 114 ∷ 61 ∷ 48 ∷ 10 ∷ [])
    -- maximum=0
    ∷ (109 ∷ 97 ∷ 120 ∷ 105 ∷ 109 ∷ 117 ∷ 109 ∷ 61 ∷ 48 ∷ 10 ∷ [])
    -- places=0
    ∷ (112 ∷ 108 ∷ 97 ∷ 99 ∷ 101 ∷ 115 ∷ 61 ∷ 48 ∷ 10 ∷ [])
    -- triples=1
    ∷ (116 ∷ 114 ∷ 105 ∷ 112 ∷ 108 ∷ 101 ∷ 115 ∷ 61 ∷ 49 ∷ 10 ∷ [])
    -- triple=1.19.1
    ∷ (116 ∷ 114 ∷ 105 ∷ 112 ∷ 108 ∷ 101 ∷ 61 ∷ 49 ∷ 46 ∷ 49 ∷ 57 ∷ 46 ∷ 49 ∷ 10 ∷ [])
    -- entity=7
    ∷ (101 ∷ 110 ∷ 116 ∷ 105 ∷ 116 ∷ 121 ∷ 61 ∷ 55 ∷ 10 ∷ [])
    -- kind=2
    ∷ (107 ∷ 105 ∷ 110 ∷ 100 ∷ 61 ∷ 50 ∷ 10 ∷ [])
    -- type=0
    ∷ (116 ∷ 121 ∷ 112 ∷ 101 ∷ 61 ∷ 48 ∷ 10 ∷ [])
    -- level=256
    ∷ (108 ∷ 101 ∷ 118 ∷ 101 ∷ 108 ∷ 61 ∷ 50 ∷ 53 ∷ 54 ∷ 10 ∷ [])
    -- mark=0
    ∷ (109 ∷ 97 ∷ 114 ∷ 107 ∷ 61 ∷ 48 ∷ 10 ∷ [])
    -- value=0
    ∷ (118 ∷ 97 ∷ 108 ∷ 117 ∷ 101 ∷ 61 ∷ 48 ∷ 10 ∷ [])
    -- releaser=0
    ∷ (114 ∷ 101 ∷ 108 ∷ 101 ∷ 97 ∷ 115 ∷ 101 ∷ 114 ∷ 61 ∷ 48 ∷ 10 ∷ [])
    -- maximum=0
    ∷ (109 ∷ 97 ∷ 120 ∷ 105 ∷ 109 ∷ 117 ∷ 109 ∷ 61 ∷ 48 ∷ 10 ∷ [])
    -- places=0
    ∷ (112 ∷ 108 ∷ 97 ∷ 99 ∷ 101 ∷ 115 ∷ 61 ∷ 48 ∷ 10 ∷ [])
    -- triples=3
    ∷ (116 ∷ 114 ∷ 105 ∷ 112 ∷ 108 ∷ 101 ∷ 115 ∷ 61 ∷ 51 ∷ 10 ∷ [])
    -- triple=2.5.2
    ∷ (116 ∷ 114 ∷ 105 ∷ 112 ∷ 108 ∷ 101 ∷ 61 ∷ 50 ∷ 46 ∷ 53 ∷ 46 ∷ 50 ∷ 10 ∷ [])
    -- triple=2.1.1
    ∷ (116 ∷ 114 ∷ 105 ∷ 112 ∷ 108 ∷ 101 ∷ 61 ∷ 50 ∷ 46 ∷ 49 ∷ 46 ∷ 49 ∷ 10 ∷ [])
    -- triple=1.6.1
    ∷ (116 ∷ 114 ∷ 105 ∷ 112 ∷ 108 ∷ 101 ∷ 61 ∷ 49 ∷ 46 ∷ 54 ∷ 46 ∷ 49 ∷ 10 ∷ [])
    ∷ []

-- and they, one after another
unfoldable pub s1_text : List ℕ
s1_text = together s1_lines

-- Rules 16.1 and 16.2: this is the text of S1,
s1_written : tables_text s1 ≡ s1_text
unfolding opened s1 s1_sheet s1_text s1_lines tables_text series user_text user_lines entity_text entity_lines field_lines line digits entity_word_at
    entity_word_of
    user_word_at user_word_of
s1_written = refl

-- and so of its words;
pub s1_words_text : tables_text (tables_of s1_words) ≡ s1_text
s1_words_text = ap tables_text s1_words_tables ∙ s1_written

-- 987 bytes, in which 103 lines end.
pub s1_text_length : length s1_text ≡ 987
unfolding s1_text s1_lines
s1_text_length = refl

pub s1_text_lines : ends s1_text ≡ 103
unfolding s1_text s1_lines
s1_text_lines = refl

-- Tables with no record have the empty text.
pub no_text : tables_text no_tables ≡ []
unfolding tables_text series user_text entity_text
no_text = refl

-- what was read, as words
abbrev words_read : Stage → List ℕ
words_read (past d x) = words_of d
words_read (stuck x) = []

-- Rule 16.5: the text is read to its end, and gives S1's words.
pub s1_text_read_lem : words_read (reading s1_text) ≡ s1_words
unfolding opened s1_words s1_users s1_entities s1_text s1_lines reading users_stage entities_stage user_record entity_record user_stage entity_stage
    places_stage
    triples_stage read_field read_line line digits entity_word_at entity_word_of user_word_at user_word_of words_of first_values word_at_index
s1_text_read_lem = refl

-- ---- S1's words have this text

-- each word of a list is tried, one after another,
unfoldable pub all_fit : List ℕ → Bool
all_fit [] = true
all_fit (x ∷ w) = leb x most && all_fit w

-- and then every word fits in 32 bits
pub fit_small : (w : List ℕ) → T (all_fit w) → (i : ℕ) → get_or w i 0 ≤ most
unfolding all_fit
fit_small [] t i = zero-le
fit_small (x ∷ w) t zero = (agrees_le x most).to (T-l (leb x most) (all_fit w) t)
fit_small (x ∷ w) t (suc i) = fit_small w (T-r (leb x most) (all_fit w) t) i

words_fit : T (all_fit s1_words)
unfolding all_fit s1_words s1_users s1_entities
words_fit = tt

pub s1_text_lem : TextOf s1_text s1_words
s1_text_lem = record {
  size = s1_words_length;
  small = fit_small s1_words words_fit;
  well_formed = ((check_agrees s1_words).to ((agrees_eq (check s1_words) refusal.accepted).from s1_words_checked)).1.0;
  is = sym s1_words_text;
}
