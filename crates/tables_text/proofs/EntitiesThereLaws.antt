-- The text of entities that can be told is read as these entities (rules 16.2 and 16.6).
use mathlib.Core.List.{List, ◌++◌}
use Rattle.std.specs.Prelude.{◌≢◌, ◌⊎◌, ◌≡◌, eqb}
use Rattle.std.proofs.Common.{◌∙◌, subst, arith, eq-eqb, ne_eqb}
use Rattle.std.proofs.Math.Path.{ap, fun_ext, refl, sym}
use Prim.Native.Nat.{◌+◌, ◌<◌, ◌≤◌, suc, zero, ℕ}
use Rattle.model.specs.Basics.Cases.{cases, lt_or_le}
use Rattle.model.specs.Basics.Choice.{pick}
use Rattle.model.specs.Tables.Words.{Tables, kind}
use Rattle.model.specs.Text.LineLaws.{behind_there}
use Rattle.model.specs.Text.Lines.{behind}
use Rattle.model.specs.Text.Numbers.{bad, most}
use Rattle.tables_text.proofs.EntityLaws.{entity_rest, rest_same}
use Rattle.tables_text.proofs.EntityThereLaws.{entity_record_there}
use Rattle.tables_text.specs.Keys.{entity_key}
use Rattle.tables_text.proofs.LaterLaws.{entities_later}
use Rattle.tables_text.specs.StageLaws.{either_bad, either_got, head_first, onward_there}
use Rattle.tables_text.specs.Stages.{entities_stage, entity_record, past}
use Rattle.tables_text.specs.TextOf.{entity_text, series}
use Rattle.tables_text.specs.Told.{Blank, EntityTold}
use Rattle.tables_text.proofs.ToldLaws.{entity_absent, entity_present, told_kind}
use Rattle.tables_text.specs.Values.{number_line}

-- the tables d with entity e of d'
unfoldable with_entity : ℕ → Tables → Tables → Tables
with_entity e d d' = record { user = d.user; entity = λ v f. pick (eqb v e) (d'.entity v f) (d.entity v f) }

module _ (e : ℕ) (d d' : Tables) where
  with_entity_lem : (with_entity e d d').entity e ≡ d'.entity e
  unfolding with_entity
  with_entity_lem = fun_ext (λ f. rw (eq-eqb e e refl))

  with_other_entity : (v : ℕ) → v ≢ e → (with_entity e d d').entity v ≡ d.entity v
  unfolding with_entity
  with_other_entity v n = fun_ext (λ f. rw (ne_eqb v e n))

  with_users : (with_entity e d d').user ≡ d.user
  unfolding with_entity
  with_users = refl

module _ (d' : Tables) (x : List ℕ) (told : (v : ℕ) → Blank (d'.entity v) ⊎ EntityTold (d'.entity v))
    (over : (v : ℕ) → behind (number_line entity_key v) x ≡ bad)
  where
    -- the same entities up to e, none after it in d, and none after k more in d'
    pub record EntitiesDue (k e : ℕ) (d : Tables) : Type 0 where
      pub small : e + k ≤ suc most
      pub users : d'.user ≡ d.user
      pub before : (v : ℕ) → v < e → d'.entity v ≡ d.entity v
      pub none : (v : ℕ) → e ≤ v → Blank (d.entity v)
      pub after : (v : ℕ) → e + k ≤ v → Blank (d'.entity v)

    due_none : (k e : ℕ) (d : Tables) → EntitiesDue (suc k) e d → Blank (d'.entity e) → EntitiesDue k (suc e) d
    due_none k e d h b = record {
      small = omega (arith, h.small);
      users = h.users;
      before = λ v l. cases (lt_or_le v e) (h.before v) (λ m. let q : e ≡ v = omega arith in
          subst (λ (n : ℕ). d'.entity n ≡ d.entity n) q (fun_ext (λ f. b f ∙ sym (h.none e (omega arith) f))));
      none = λ v l. h.none v (omega arith);
      after = λ v l. h.after v (omega arith);
    }

    due_told : (k e : ℕ) (d : Tables) → EntitiesDue (suc k) e d → EntitiesDue k (suc e) (with_entity e d d')
    due_told k e d h = record {
      small = omega (arith, h.small);
      users = h.users ∙ sym (with_users e d d');
      before = λ v l. cases (lt_or_le v e) (λ m. h.before v m ∙ sym (with_other_entity e d d' v (λ q. omega arith)))
          (λ m. let q : e ≡ v = omega arith in subst (λ (n : ℕ). d'.entity n ≡ (with_entity e d d').entity n) q (sym (with_entity_lem e d d')));
      none = λ v l. subst Blank (sym (with_other_entity e d d' v (λ q. omega arith))) (h.none v (omega arith));
      after = λ v l. h.after v (omega arith);
    }

    -- Rule 16.2: the text of k entities from e on is read as these.
    pub entities_there : (k e : ℕ) (d : Tables) → EntitiesDue k e d → entities_stage k e d (series k e (entity_text d') ++ x) ≡ past d' x
    unfolding entities_stage series
    entities_there zero e d h =
        let p : d.entity ≡ d'.entity =
        fun_ext (λ v. cases (lt_or_le v e) (λ l. sym (h.before v l)) (λ l. fun_ext (λ f. h.none v l f ∙ sym (h.after v (omega arith) f)))) in
        λ i. past (record { user = sym h.users i; entity = p i }) x
    entities_there (suc k) e d h =
        let t : List ℕ = series k (suc e) (entity_text d') in
        let f : List ℕ = entity_rest d' e in
        let c : Tables = with_entity e d d' in
        let head = number_line entity_key e in
        cases (told e)
        (λ b. ap (λ w. entities_stage (suc k) e d ((w ++ t) ++ x)) (entity_absent d' e (b kind))
        ∙ either_bad (behind head (t ++ x)) _ _ (past d' x)
        (entities_later d' e x (omega (arith, h.small)) (over e) k (suc e) (omega arith) (omega (arith, h.small)))
        (entities_there k (suc e) d (due_none k e d h b)))
        (λ w. ap (λ y. entities_stage (suc k) e d ((y ++ t) ++ x)) (entity_present d' e (told_kind (d'.entity e) w))
        ∙ ap (entities_stage (suc k) e d) (head_first head f t x)
        ∙ either_got (behind head (head ++ (f ++ (t ++ x)))) _ _ (f ++ (t ++ x)) (past d' x) (behind_there head (f ++ (t ++ x)))
        (onward_there (entity_record e d (f ++ (t ++ x))) _ c (t ++ x) (past d' x) (one_entity k e d h w (t ++ x))
        (entities_there k (suc e) c (due_told k e d h))))
      where
        one_entity : (k e : ℕ) (d : Tables) → EntitiesDue (suc k) e d → EntityTold (d'.entity e) → (y : List ℕ)
            → entity_record e d (entity_rest d' e ++ y) ≡ past (with_entity e d d') y
        one_entity k e d h w y =
            let q : (with_entity e d d').entity e ≡ d'.entity e = with_entity_lem e d d' in
            ap (λ l. entity_record e d (l ++ y)) (rest_same d' (with_entity e d d') e (sym q))
            ∙ entity_record_there e d (with_entity e d d') (h.none e (omega arith)) (with_users e d d') (with_other_entity e d d')
            (subst EntityTold (sym q) w) y
