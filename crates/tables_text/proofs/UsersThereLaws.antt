-- The text of users who can be told is read as these users (rules 16.1 and 16.6).
use mathlib.Core.List.{List, ◌++◌}
use Rattle.std.specs.Prelude.{◌≢◌, ◌⊎◌, ◌≡◌, eqb}
use Rattle.std.proofs.Common.{◌∙◌, subst, arith, eq-eqb, ne_eqb}
use Rattle.std.proofs.Math.Path.{ap, fun_ext, refl, sym}
use Prim.Native.Nat.{◌+◌, ◌<◌, ◌≤◌, suc, zero, ℕ}
use Rattle.model.specs.Basics.Cases.{cases, lt_or_le}
use Rattle.model.specs.Basics.Choice.{pick}
use Rattle.model.specs.Tables.WordAt.{user_word_at}
use Rattle.model.specs.Tables.Words.{Tables, UserWord, present}
use Rattle.model.specs.Text.LineLaws.{behind_there}
use Rattle.model.specs.Text.Lines.{behind}
use Rattle.model.specs.Text.Numbers.{bad, most}
use Rattle.model.specs.Text.Wording.{user_key}
use Rattle.tables_text.specs.Keys.{user_fields}
use Rattle.tables_text.proofs.LaterLaws.{users_later}
use Rattle.tables_text.specs.StageLaws.{either_bad, either_got, head_first, onward_there}
use Rattle.tables_text.specs.Stages.{past, user_record, users_stage}
use Rattle.tables_text.specs.TextOf.{field_lines, series, user_text, user_words}
use Rattle.tables_text.specs.Told.{Blank, UserTold}
use Rattle.tables_text.proofs.ToldLaws.{user_absent_lem, user_present}
use Rattle.tables_text.proofs.UserLaws.{user_record_there}
use Rattle.tables_text.specs.Values.{number_line}

-- the tables d with user u of d'
unfoldable with_user : ℕ → Tables → Tables → Tables
with_user u d d' = record { user = λ v f. pick (eqb v u) (d'.user v f) (d.user v f); entity = d.entity }

module _ (u : ℕ) (d d' : Tables) where
  with_user_lem : (with_user u d d').user u ≡ d'.user u
  unfolding with_user
  with_user_lem = fun_ext (λ f. rw (eq-eqb u u refl))

  with_other_user : (v : ℕ) → v ≢ u → (with_user u d d').user v ≡ d.user v
  unfolding with_user
  with_other_user v n = fun_ext (λ f. rw (ne_eqb v u n))

  with_entities : (with_user u d d').entity ≡ d.entity
  unfolding with_user
  with_entities = refl

module _ (d' : Tables) (x : List ℕ) (told : (v : ℕ) → Blank (d'.user v) ⊎ UserTold (d'.user v))
    (over : (v : ℕ) → behind (number_line user_key v) x ≡ bad)
  where
    -- the same users up to u, none after it in d, and none after k more in d'
    pub record UsersDue (k u : ℕ) (d : Tables) : Type 0 where
      pub small : u + k ≤ suc most
      pub entities : d'.entity ≡ d.entity
      pub before : (v : ℕ) → v < u → d'.user v ≡ d.user v
      pub none : (v : ℕ) → u ≤ v → Blank (d.user v)
      pub after : (v : ℕ) → u + k ≤ v → Blank (d'.user v)

    due_none : (k u : ℕ) (d : Tables) → UsersDue (suc k) u d → Blank (d'.user u) → UsersDue k (suc u) d
    due_none k u d h b = record {
      small = omega (arith, h.small);
      entities = h.entities;
      before = λ v l. cases (lt_or_le v u) (h.before v) (λ m. let q : u ≡ v = omega arith in
          subst (λ (n : ℕ). d'.user n ≡ d.user n) q (fun_ext (λ f. b f ∙ sym (h.none u (omega arith) f))));
      none = λ v l. h.none v (omega arith);
      after = λ v l. h.after v (omega arith);
    }

    due_told : (k u : ℕ) (d : Tables) → UsersDue (suc k) u d → UsersDue k (suc u) (with_user u d d')
    due_told k u d h = record {
      small = omega (arith, h.small);
      entities = h.entities ∙ sym (with_entities u d d');
      before = λ v l. cases (lt_or_le v u) (λ m. h.before v m ∙ sym (with_other_user u d d' v (λ q. omega arith)))
          (λ m. let q : u ≡ v = omega arith in subst (λ (n : ℕ). d'.user n ≡ (with_user u d d').user n) q (sym (with_user_lem u d d')));
      none = λ v l. subst Blank (sym (with_other_user u d d' v (λ q. omega arith))) (h.none v (omega arith));
      after = λ v l. h.after v (omega arith);
    }

    -- Rule 16.1: the text of k users from u on is read as these.
    pub users_there : (k u : ℕ) (d : Tables) → UsersDue k u d → users_stage k u d (series k u (user_text d') ++ x) ≡ past d' x
    unfolding users_stage series
    users_there zero u d h =
        let p : d.user ≡ d'.user =
        fun_ext (λ v. cases (lt_or_le v u) (λ l. sym (h.before v l)) (λ l. fun_ext (λ f. h.none v l f ∙ sym (h.after v (omega arith) f)))) in
        λ i. past (record { user = p i; entity = sym h.entities i }) x
    users_there (suc k) u d h =
        let t : List ℕ = series k (suc u) (user_text d') in
        let f : List ℕ = field_lines user_fields 1 (user_words d' u) in
        let c : Tables = with_user u d d' in
        let head = number_line user_key u in
        cases (told u)
        (λ b. ap (λ w. users_stage (suc k) u d ((w ++ t) ++ x)) (user_absent_lem d' u (b present))
        ∙ either_bad (behind head (t ++ x)) _ _ (past d' x)
        (users_later d' u x (omega (arith, h.small)) (over u) k (suc u) (omega arith) (omega (arith, h.small)))
        (users_there k (suc u) d (due_none k u d h b)))
        (λ w. ap (λ y. users_stage (suc k) u d ((y ++ t) ++ x)) (user_present d' u (omega (arith, w.present)))
        ∙ ap (users_stage (suc k) u d) (head_first head f t x)
        ∙ either_got (behind head (head ++ (f ++ (t ++ x)))) _ _ (f ++ (t ++ x)) (past d' x) (behind_there head (f ++ (t ++ x)))
        (onward_there (user_record u d (f ++ (t ++ x))) _ c (t ++ x) (past d' x) (one_user_lem k u d h w (t ++ x))
        (users_there k (suc u) c (due_told k u d h))))
      where
        one_user_lem : (k u : ℕ) (d : Tables) → UsersDue (suc k) u d → UserTold (d'.user u) → (y : List ℕ)
            → user_record u d (field_lines user_fields 1 (user_words d' u) ++ y) ≡ past (with_user u d d') y
        one_user_lem k u d h w y =
            let q : (with_user u d d').user u ≡ d'.user u = with_user_lem u d d' in
            ap (λ (g : UserWord → ℕ). user_record u d (field_lines user_fields 1 (λ j. g (user_word_at j)) ++ y)) (sym q)
            ∙ user_record_there u d (with_user u d d') y (h.none u (omega arith)) (with_entities u d d') (with_other_user u d d') (subst UserTold (sym q) w)
