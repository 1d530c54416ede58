-- Rule 16.7: 2,304 words of 32 bits whose tables are well-formed and have a text of so many bytes, each part by one computation.
use Rattle.std.specs.Prelude.{true, ◌⊎◌, ◌≡◌, refl, ◌<◌, ◌≤◌, suc, ℕ, T, leb, get_or, length}
use Rattle.std.proofs.Common.{inl, inr, ◌∙◌, ap, subst, sym, arith}
use Rattle.std.proofs.Math.ListN.{get_or-eq_default}
use Rattle.model.specs.Basics.Agree.{agrees_le, every_at}
use Rattle.model.specs.Basics.Cases.{cases, lt_or_le}
use Rattle.model.specs.Basics.TestLaws.{is_true}
use Rattle.model.specs.Basics.Tests.{every, imp}
use Rattle.model.specs.State.Agree.{well_formed_agrees}
use Rattle.model.specs.State.Check.{alone_test, contents_test, device_test, idle_test, in_test, links_test, loop_test, one_test, parent, spot_of}
use Rattle.model.specs.State.Check.{well_formed_test}
use Rattle.model.specs.State.Climb.{up}
use Rattle.model.specs.State.Tests.{access_test, entity_test, filled_test, nobody_test, none_test, notice_test, packed_test, shape_test, triple_test, user_test}
use Rattle.model.specs.State.WellFormed.{WellFormed}
use Rattle.model.specs.Tables.Layout.{Bounded, entity_in, tables_of, user_in, word_count}
use Rattle.model.specs.Tables.RangeLaws.{entity_in_lem, guard_out, user_in_lem}
use Rattle.model.specs.Tables.Rows.{seek}
use Rattle.model.specs.Tables.WordAt.{entity_word_at, entity_word_of, user_word_at, user_word_of}
use Rattle.model.specs.Tables.Words.{Tables, devices, entity_count, kinds, place, places, shown, spare, triple, used_places, user_count}
use Rattle.model.specs.Tables.WordsOf.{word_at_index}
use Rattle.model.specs.Tables.WordsOfLaws.{tables_of_words_of, words_of_at, words_of_length}
use Rattle.model.specs.Text.Lines.{line}
use Rattle.model.specs.Text.Numbers.{digits, most}
use Rattle.tables_text.specs.Longest.{longest_text}
use Rattle.tables_text.specs.LongestTables.{full_device, full_entity, full_thing, full_user, longest_tables, longest_words}
use Rattle.tables_text.specs.TextOf.{entity_lines, entity_text, field_lines, series, tables_text, user_lines, user_text}

-- ---- they are tables of words

outside : (x n : ℕ) → (x ≡ 0) ⊎ (n < x) → 1 ≤ x → x ≤ n → ⊥
outside x n (inl q) a b = omega arith
outside x n (inr q) a b = omega arith

longest_bounded : Bounded longest_tables
unfolding longest_tables
longest_bounded = record {
  user_out = λ u q f. guard_out (user_in u f) (full_user u f) (λ i. let r = user_in_lem u f i in outside u user_count q r.1 r.2);
  entity_out = λ e q f. guard_out (entity_in e f) (full_entity e f) (λ i. let r = entity_in_lem e f i in outside e entity_count q r.0 r.1);
  places_out = λ e i h. guard_out (entity_in e (place i)) (full_entity e (place i)) (λ k. omega (arith, entity_in_lem e (place i) k));
  shown_out = λ e i h. guard_out (entity_in e (shown i)) (full_entity e (shown i)) (λ k. omega (arith, entity_in_lem e (shown i) k));
  triples_out = λ e i h. guard_out (entity_in e (triple i)) (full_entity e (triple i)) (λ k. omega (arith, entity_in_lem e (triple i) k));
  spares_out = λ u i h. guard_out (user_in u (spare i)) (full_user u (spare i)) (λ k. omega (arith, user_in_lem u (spare i) k));
}

pub longest_tables_lem : tables_of longest_words ≡ longest_tables
unfolding longest_words
longest_tables_lem = tables_of_words_of longest_tables longest_bounded

pub longest_length : length longest_words ≡ word_count
unfolding longest_words
longest_length = words_of_length longest_tables

words_fit : every word_count (λ i. leb (word_at_index longest_tables i) most) ≡ true
unfolding every word_at_index entity_word_at entity_word_of user_word_at user_word_of longest_tables full_entity full_user full_thing full_device
words_fit = refl

-- every word fits in 32 bits
pub longest_fit : (i : ℕ) → get_or longest_words i 0 ≤ most
unfolding longest_words
longest_fit i = cases (lt_or_le i word_count)
    (λ l. let f : T (leb (word_at_index longest_tables i) most) = every_at word_count (λ j. leb (word_at_index longest_tables j) most) (is_true _ words_fit) i
    l in
    rw (words_of_at longest_tables i l) ((agrees_le (word_at_index longest_tables i) most).to f))
    (λ l. omega (arith, get_or-eq_default longest_words 0 {n = i} (omega (arith, longest_length))))

-- ---- they are well-formed

users_test : every user_count (λ u. user_test (longest_tables.user (suc u))) ≡ true
unfolding every imp user_test nobody_test notice_test longest_tables full_user
users_test = refl

entities_test : every entity_count (λ e. entity_test (longest_tables.entity (suc e))) ≡ true
unfolding every imp seek entity_test none_test shape_test filled_test access_test packed_test triple_test longest_tables full_entity full_thing full_device
entities_test = refl

links_test_lem : links_test (kinds longest_tables) (used_places longest_tables) (places longest_tables) (devices longest_tables) ≡ true
unfolding every imp seek links_test contents_test one_test loop_test device_test alone_test idle_test in_test spot_of parent up longest_tables full_entity
    full_user
    full_thing full_device
links_test_lem = refl

longest_test : T (well_formed_test longest_tables)
unfolding well_formed_test
longest_test = rw (users_test, entities_test, links_test_lem) tt

-- Rule 16.7: well-formed tables of 2,304 words,
pub longest_formed : WellFormed (tables_of longest_words)
longest_formed = subst WellFormed (sym longest_tables_lem) ((well_formed_agrees longest_tables longest_bounded).to longest_test)

-- ---- and their text is the longest

text_met : length (tables_text longest_tables) ≡ longest_text
unfolding tables_text series user_text user_lines entity_text entity_lines field_lines line digits entity_word_at entity_word_of user_word_at user_word_of
    seek longest_tables
    full_entity full_user full_thing full_device
text_met = refl

-- whose text has as many bytes as the bound says.
pub longest_met_lem : length (tables_text (tables_of longest_words)) ≡ longest_text
longest_met_lem = ap (λ (d : Tables). length (tables_text d)) longest_tables_lem ∙ text_met
