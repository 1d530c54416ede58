-- Rule 16.6: one text, one table. The reading of a text says which tables it tells, and tables that are well-formed are those of their words.
use Rattle.std.specs.Prelude.{Bool, false, true, List, [], ◌↔◌, ◌≡◌, ◌-◌, ◌≤◌, ℕ, ltb, get_or, length}
use Rattle.std.proofs.Common.{◌∙◌, ap, subst, sym, arith}
use Rattle.std.proofs.Math.ListN.{get_or-eq_default}
use Rattle.model.specs.Basics.Agree.{agrees_not}
use Rattle.model.specs.Basics.Cases.{cases, lt_or_le}
use Rattle.model.specs.Basics.Choice.{pick}
use Rattle.model.specs.Basics.TestLaws.{fails_false, holds_true, is_true}
use Rattle.model.specs.State.Agree.{well_formed_agrees}
use Rattle.model.specs.State.Check.{well_formed_test}
use Rattle.model.specs.State.WellFormed.{WellFormed}
use Rattle.model.specs.Tables.Layout.{Bounded, entities_from, entity_at, entity_in, tables_of, user_at, user_in, word_count}
use Rattle.model.specs.Tables.Words.{Tables}
use Rattle.model.specs.Tables.WordsOf.{entity_at_index, user_at_index, word_at_index, words_of}
use Rattle.model.specs.Tables.WordsOfLaws.{tables_of_injective, tables_of_words_of, words_of_at, words_of_length}
use Rattle.model.specs.Text.Given.{Small}
use Rattle.model.specs.Text.Numbers.{most}
use Rattle.tables_text.proofs.BackLaws.{reading_back}
use Rattle.tables_text.specs.Given.{Tells, TextOf}
use Rattle.tables_text.specs.Stages.{past, reading}
use Rattle.tables_text.specs.TextOf.{tables_text}
use Rattle.tables_text.proofs.ThereLaws.{reading_told, well_formed_told}
use Rattle.tables_text.specs.Told.{SmallTables, TablesTold}
use Rattle.tables_text.proofs.ToldLaws.{told_bounded, told_small}

-- ---- words of 32 bits

-- a choice between two such numbers is one
pick_small : (b : Bool) (m n : ℕ) → m ≤ most → n ≤ most → pick b m n ≤ most
pick_small true m n h l = h
pick_small false m n h l = l

-- words of 32 bits have such tables,
pub small_tables : (t : List ℕ) → Small t → SmallTables (tables_of t)
unfolding tables_of
small_tables t s = record {
  users = λ u f. pick_small (user_in u f) (get_or t (user_at u f) 0) 0 (s (user_at u f)) (omega arith);
  entities = λ e f. pick_small (entity_in e f) (get_or t (entity_at e f) 0) 0 (s (entity_at e f)) (omega arith);
}

-- and such tables have such words
index_small : (d : Tables) → SmallTables d → (i : ℕ) → word_at_index d i ≤ most
unfolding word_at_index
index_small d s i = pick_small (ltb i entities_from) (user_at_index d i) (entity_at_index d (i - entities_from)) (s.users _ _) (s.entities _ _)

pub words_small : (d : Tables) → SmallTables d → Small (words_of d)
words_small d s i =
    cases (lt_or_le i word_count)
    (λ l. let q : get_or (words_of d) i 0 ≡ word_at_index d i = words_of_at d i l in omega (arith, index_small d s i))
    (λ l. let z : length (words_of d) ≤ i = omega (arith, words_of_length d) in
    let q : get_or (words_of d) i 0 ≡ 0 = get_or-eq_default (words_of d) 0 z in omega arith)

-- ---- well-formed, as a test

pub formed : (d : Tables) → Bounded d → well_formed_test d ≡ true → WellFormed d
formed d b h = (well_formed_agrees d b).to (is_true (well_formed_test d) h)

pub test_formed : (d : Tables) → Bounded d → WellFormed d → well_formed_test d ≡ true
test_formed d b w = holds_true (well_formed_test d) ((well_formed_agrees d b).from w)

pub test_unformed : (d : Tables) → Bounded d → ¬ WellFormed d → well_formed_test d ≡ false
test_unformed d b n = fails_false (well_formed_test d) ((agrees_not (well_formed_agrees d b)).from n)

-- ---- which tables a text tells

-- Rule 16.6: a text is read to its end exactly where it tells what is read,
pub tells_reading : (s : List ℕ) (d : Tables) → Tells s d ↔ (reading s ≡ past d [])
tells_reading s d = (
  λ t. ap reading t.is ∙ reading_told d t.told,
  λ e. let b : ([] ≡ []) × (s ≡ tables_text d) × TablesTold d = reading_back s d [] e in record { told = b.2; is = b.1 },
)

-- and it tells one table only.
pub tells_once : {s : List ℕ} {c d : Tables} → Tells s c → Tells s d → c ≡ d
tells_once {s} {c} {d} t u =
    let p : reading s ≡ past c [] = (tells_reading s c).0 t in
    let q : reading s ≡ past d [] = (tells_reading s d).0 u in
    let r : past c [] ≡ past d [] = sym p ∙ q in
    cc

-- The text of words tells their tables,
pub text_tells : {s t : List ℕ} → TextOf s t → Tells s (tables_of t)
text_tells {s} {t} x = record { told = well_formed_told (tables_of t) x.well_formed (small_tables t x.small); is = x.is }

-- and a text that tells well-formed tables is the text of their words.
pub tells_text : {s : List ℕ} {d : Tables} → Tells s d → WellFormed d → TextOf s (words_of d)
tells_text {s} {d} t w =
    let q : tables_of (words_of d) ≡ d = tables_of_words_of d (told_bounded d t.told) in
    record {
      size = words_of_length d;
      small = words_small d (told_small d t.told);
      well_formed = subst WellFormed (sym q) w;
      is = t.is ∙ ap tables_text (sym q);
    }

-- Rule 16.6: a text is that of one list of words,
pub text_once : {s t u : List ℕ} → TextOf s t → TextOf s u → t ≡ u
text_once {s} {t} {u} x y = tables_of_injective t u x.size y.size (tells_once (text_tells x) (text_tells y))

-- and words have one text.
pub words_once : {s r t : List ℕ} → TextOf s t → TextOf r t → s ≡ r
words_once x y = x.is ∙ sym y.is
