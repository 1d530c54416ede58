-- Rule 16.6, from the tables: the text of tables that can be told is read as these tables; and well-formed tables of 32 bits can be told.
use Rattle.std.specs.Prelude.{List, [], ◌++◌, ◌≡◌, refl, ◌≤◌, ℕ}
use Rattle.std.proofs.Common.{append-nil, inl, inr, ◌∙◌, ap, sym, arith}
use Rattle.std.proofs.Math.Path.{fun_ext}
use Rattle.model.specs.Basics.Cases.{cases, lt_or_le}
use Rattle.model.specs.State.Agree.{well_formed_bounded}
use Rattle.model.specs.State.WellFormed.{EntityOk, UserOk, WellFormed}
use Rattle.model.specs.Tables.RowLaws.{first_zero}
use Rattle.model.specs.Tables.Rows.{seek}
use Rattle.model.specs.Tables.WordAt.{entity_word_at, entity_word_of, user_word_at}
use Rattle.model.specs.Tables.Words.{EntityWord, Tables, UserWord, entity_count, kind, level, mark, maximum, place, place_count, present, releaser}
use Rattle.model.specs.Tables.Words.{shown, triple, type, used, user_count, value}
use Rattle.model.specs.Text.Numbers.{most}
use Rattle.tables_text.proofs.EntitiesThereLaws.{entities_there}
use Rattle.tables_text.proofs.LaterLaws.{users_over}
use Rattle.tables_text.specs.StageLaws.{onward_there}
use Rattle.tables_text.specs.Stages.{entities_stage, no_tables, past, reading, users_stage}
use Rattle.tables_text.specs.TextOf.{entity_text, series, tables_text, user_lines, user_text}
use Rattle.tables_text.specs.Told.{EntityTold, SmallTables, TablesTold, UserTold}
use Rattle.tables_text.proofs.UsersThereLaws.{users_there}
use Rattle.tables_text.proofs.ValueLaws.{entity_not_end}

-- Rule 16.6: the text of tables that can be told is read to its end, as these tables.
pub reading_told : (d : Tables) → TablesTold d → reading (tables_text d) ≡ past d []
unfolding reading tables_text user_text user_lines
reading_told d t =
    let c : Tables = record { user = d.user; entity = λ e f. 0 } in
    let y : List ℕ = series entity_count 1 (entity_text d) in
    onward_there (users_stage user_count 1 no_tables (series user_count 1 (user_text d) ++ y)) _ c y (past d [])
    (users_there c y t.users (λ v. users_over d v entity_count 1) user_count 1 no_tables (record {
      small = omega arith;
      entities = refl;
      before = λ v l. fun_ext (t.users_out v (inl (omega arith)));
      none = λ v l f. refl;
      after = λ v l. t.users_out v (inr (omega arith));
    }))
    (onward_there (entities_stage entity_count 1 c y) _ d [] (past d [])
    (ap (entities_stage entity_count 1 c) (sym (append-nil y)) ∙ entities_there d [] t.entities entity_not_end entity_count 1 c (record {
      small = omega arith;
      users = refl;
      before = λ v l. fun_ext (t.entities_out v (inl (omega arith)));
      none = λ v l f. refl;
      after = λ v l. t.entities_out v (inr (omega arith));
    }))
    refl)

-- ---- well-formed tables

-- a number of 32 bits, for a field that may have any
any_ok : (n : ℕ) → n ≤ most → (0 ≤ n) × (n ≤ most) × (n ≤ most)
any_ok n h = (omega arith, h, h)

-- a user who is present
user_told : (w : UserWord → ℕ) → UserOk w → ((f : UserWord) → w f ≤ most) → 1 ≤ w present → UserTold w
user_told w o s h =
    let k : (j : ℕ) → (0 ≤ w (user_word_at j)) × (w (user_word_at j) ≤ most) × (w (user_word_at j) ≤ most) = λ j. any_ok (w (user_word_at j))
    (s (user_word_at j)) in
    record { present = omega (arith, o.present_in); fields = (k 1, (k 2, (k 3, (k 4, (k 5, (k 6, (k 7, tt))))))); spares = o.spare_zero }

-- an entity that is
entity_told : (w : EntityWord → ℕ) → EntityOk w → ((f : EntityWord) → w f ≤ most) → 1 ≤ w kind → EntityTold w
unfolding entity_word_at entity_word_of
entity_told w o s h =
    let n : seek 0 (λ i. w (triple i)) place_count ≡ o.access.0 = first_zero (λ i. w (triple i)) o.access.0 o.access.1.packed in
    let k : (f : EntityWord) → (0 ≤ w f) × (w f ≤ most) × (w f ≤ most) = λ f. any_ok (w f) (s f) in
    record {
      fields = (
        (h, s kind, s kind),
        (k type, (k level, (k mark, (k value, (k releaser, (k maximum, ((omega arith, o.filled.packed.room, s used), tt))))))),
      );
      places = λ i l. (s (place i), s (shown i));
      places_rest = λ i l. (o.filled.packed.rest i l, o.filled.rest_sums i l);
      triples = λ i l. s (triple i);
      triples_rest = λ i l. o.access.1.packed.rest i (omega arith);
    }

-- Well-formed tables of 32 bits can be told.
pub well_formed_told : (d : Tables) → WellFormed d → SmallTables d → TablesTold d
well_formed_told d w s = record {
  users = λ u.
      cases (lt_or_le 0 (d.user u present))
      (λ l. inr (user_told (d.user u) (w.users u) (s.users u) l))
      (λ l. inl ((w.users u).absent (omega arith)));
  entities = λ e.
      cases (lt_or_le 0 (d.entity e kind))
      (λ l. inr (entity_told (d.entity e) (w.entities e) (s.entities e) l))
      (λ l. inl ((w.entities e).absent (omega arith)));
  users_out = (well_formed_bounded d w).user_out;
  entities_out = (well_formed_bounded d w).entity_out;
}

-- Rule 16.6: so the text of well-formed tables is read as these tables.
pub reading_there : (d : Tables) → WellFormed d → SmallTables d → reading (tables_text d) ≡ past d []
reading_there d w s = reading_told d (well_formed_told d w s)
