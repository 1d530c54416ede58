-- The test of secure tables agrees with the statement of rule 4, on tables that are well-formed; what the state check's answer says.
use Rattle.std.specs.Prelude.{Bool, false, true, List, ◌≢◌, ◌⊎◌, ◌≡◌, refl, ◌<◌, ℕ, eqb, length}
use Rattle.std.proofs.Common.{inl, inr, arith}
use Rattle.std.proofs.Math.Path.{subst}
use Rattle.std.proofs.Math.Dec.{T}
use Rattle.model.specs.Basics.Agree.{Agrees, agreement, agrees_T, agrees_and, agrees_as, agrees_eq, agrees_range}
use Rattle.model.specs.Basics.Choice.{pick}
use Rattle.model.specs.BitLaws.{subset_zero}
use Rattle.model.specs.Level.{AtMost, Subset, role_count, subset}
use Rattle.model.specs.State.Agree.{well_formed_agrees, well_formed_bounded}
use Rattle.model.specs.State.Check.{ceiling_test, check, contained_test, judge, labelled_test, roles_test, secure_test, seen_test}
use Rattle.model.specs.State.Check.{well_formed_test}
use Rattle.model.specs.State.ParentLaws.{entity_out_lem, row_room}
use Rattle.model.specs.State.Secure.{Good, Secure, labelled}
use Rattle.model.specs.State.WellFormed.{Holds, WellFormed}
use Rattle.model.specs.Tables.EditLaws.{case}
use Rattle.model.specs.Tables.Kinds.{Screen}
use Rattle.model.specs.Tables.Layout.{Bounded, tables_of, word_count}
use Rattle.model.specs.Tables.LayoutLaws.{bounded}
use Rattle.model.specs.Tables.Words.{Tables, authorised, clearance, current, device, devices, entity_count, kinds, level, maximum}
use Rattle.model.specs.Tables.Words.{place_count, places, sums, used_places, user_count}
use Rattle.model.specs.Request.Refusals as refusal

module _ (d : Tables) (w : WellFormed d) where
  o : Bounded d
  o = well_formed_bounded d w

  contained_agrees : (e : ℕ) → Agrees (contained_test d e) ((c : ℕ) → Holds d e c → AtMost (d.entity c level) (d.entity e level))
  unfolding contained_test
  contained_agrees e = agrees_as {P = (i : ℕ) → i < place_count → i < used_places d e → AtMost (d.entity (places d e i) level) (d.entity e level)}
      (λ f c m. subst (λ (y : ℕ). AtMost (d.entity y level) (d.entity e level)) m.2 (f m.0 (omega (arith, m.1, row_room d w e)) m.1))
      (λ s i h l. s (places d e i) (i, l, refl))
      (search (agreement, agrees_T))

  seen_agrees : (u : ℕ)
      → Agrees (seen_test d u) ((c : ℕ) → devices d u ≢ 0 → Holds d (devices d u) c → AtMost (d.entity c level) (d.user u clearance))
  unfolding seen_test
  seen_agrees u = agrees_as {P = devices d u ≢ 0 → (i : ℕ) → i < place_count → i < used_places d (devices d u) → AtMost
      (d.entity (places d (devices d u) i) level) (d.user u clearance)}
      (λ f c n m. subst (λ (y : ℕ). AtMost (d.entity y level) (d.user u clearance)) m.2
      (f n m.0 (omega (arith, m.1, row_room d w (devices d u))) m.1))
      (λ s n i h l. s (places d (devices d u) i) n (i, l, refl))
      (search (agreement, agrees_T))

  labelled_agrees : (e : ℕ) → Agrees (labelled_test d e) ((i : ℕ) → Screen (kinds d e) → i < used_places d e → T (labelled (sums d e i)))
  unfolding labelled_test
  labelled_agrees e = agrees_as {P = Screen (kinds d e) → (i : ℕ) → i < place_count → i < used_places d e → T (labelled (sums d e i))}
      (λ f i k l. f k i (omega (arith, row_room d w e)) l)
      (λ s k i h l. s i k l)
      (search (agreement, agrees_T))

  roles_agrees : (u : ℕ) → Agrees (roles_test d u) (Subset role_count (d.user u current) (d.user u authorised))
  unfolding roles_test
  roles_agrees u = agrees_T (subset role_count (d.user u current) (d.user u authorised))

  ceiling_agrees : (e : ℕ) → Agrees (ceiling_test d e) (Screen (kinds d e) → AtMost (d.entity e level) (d.entity e maximum))
  unfolding ceiling_test
  ceiling_agrees e = search (agreement, agrees_T)

  -- Rule 4: the test says secure.
  pub secure_agrees : Agrees (secure_test d) (Secure d)
  unfolding secure_test
  secure_agrees = agrees_as
      {P = ((e c : ℕ) → Holds d e c → AtMost (d.entity c level) (d.entity e level))
      × (((u c : ℕ) → devices d u ≢ 0 → Holds d (devices d u) c → AtMost (d.entity c level) (d.user u clearance))
      × (((e i : ℕ) → Screen (kinds d e) → i < used_places d e → T (labelled (sums d e i)))
      × (((u : ℕ) → Subset role_count (d.user u current) (d.user u authorised))
      × ((e : ℕ) → Screen (kinds d e) → AtMost (d.entity e level) (d.entity e maximum)))))}
      (λ z. record { contained = z.0; seen = z.1.0; value_labelled = z.1.1.0; roles = z.1.1.1.0; ceiling = z.1.1.1.1 })
      (λ s. (s.contained, (s.seen, (s.value_labelled, (s.roles, s.ceiling)))))
      (agrees_and (agrees_range entity_count (contained_test d) (λ e. (c : ℕ) → Holds d e c → AtMost (d.entity c level) (d.entity e level)) contained_agrees
      (λ c m. absurd (omega (arith, m.1, entity_out_lem d w 0 (inl refl)))) (λ e q c m. absurd (omega (arith, m.1, entity_out_lem d w e (inr q)))))
      (agrees_and (agrees_range user_count (seen_test d) (λ u. (c : ℕ) → devices d u ≢ 0 → Holds d (devices d u) c → AtMost (d.entity c level)
      (d.user u clearance)) seen_agrees
      (λ c n m. absurd (n (o.user_out 0 (inl refl) device))) (λ u q c n m. absurd (n (o.user_out u (inr q) device))))
      (agrees_and (agrees_range entity_count (labelled_test d)
      (λ e. (i : ℕ) → Screen (kinds d e) → i < used_places d e → T (labelled (sums d e i))) labelled_agrees
      (λ i k l. absurd (omega (arith, entity_out_lem d w 0 (inl refl)))) (λ e q i k l. absurd (omega (arith, entity_out_lem d w e (inr q)))))
      (agrees_and (agrees_range user_count (roles_test d) (λ u. Subset role_count (d.user u current) (d.user u authorised)) roles_agrees
      (no_roles_lem 0 (inl refl)) (λ u q. no_roles_lem u (inr q)))
      (agrees_range entity_count (ceiling_test d) (λ e. Screen (kinds d e) → AtMost (d.entity e level) (d.entity e maximum)) ceiling_agrees
      (λ k. absurd (omega (arith, entity_out_lem d w 0 (inl refl)))) (λ e q k. absurd (omega (arith, entity_out_lem d w e (inr q)))))))))
    where
      no_roles_lem : (u : ℕ) → (u ≡ 0) ⊎ (user_count < u) → Subset role_count (d.user u current) (d.user u authorised)
      no_roles_lem u q = rw (o.user_out u q current) (subset_zero role_count (d.user u authorised))

-- Rule 8.5: the answer 0 says well-formed and secure.
pub judge_agrees : (d : Tables) → Bounded d → Agrees (eqb (judge d) refusal.accepted) (Good d)
unfolding judge
judge_agrees d o = go (well_formed_test d) (secure_test d) (well_formed_agrees d o) (λ w. secure_agrees d w)
  where
    go : (a b : Bool) → Agrees a (WellFormed d) → (WellFormed d → Agrees b (Secure d))
        → Agrees (eqb (pick a (pick b refusal.accepted refusal.not_secure) refusal.not_well_formed) refusal.accepted) (Good d)
    go true true f g = record { to = λ t. (f.to tt, (g (f.to tt)).to tt); from = λ z. tt }
    go true false f g = record { to = λ t. absurd t; from = λ z. (g z.0).from z.1 }
    go false b f g = record { to = λ t. absurd t; from = λ z. f.from z.0 }

pub judge_good : (d : Tables) → Bounded d → judge d ≡ refusal.accepted → Good d
judge_good d o e = (judge_agrees d o).to ((agrees_eq (judge d) refusal.accepted).from e)

-- Of words: 2,304 of them, which give well-formed, secure tables.
pub check_agrees : (t : List ℕ) → Agrees (eqb (check t) refusal.accepted) ((length t ≡ word_count) × Good (tables_of t))
unfolding check
check_agrees t = go (eqb (length t) word_count) (agrees_eq (length t) word_count)
  where
    go : (b : Bool) → Agrees b (length t ≡ word_count) → Agrees (eqb (pick b (judge (tables_of t)) 1) 0) ((length t ≡ word_count) × Good (tables_of t))
    go true a =
        record { to = λ z. (a.to tt, (judge_agrees (tables_of t) (bounded t)).to z); from = λ z. (judge_agrees (tables_of t) (bounded t)).from z.1 }
    go false a = record { to = λ z. absurd z; from = λ z. absurd (a.from z.0) }

-- Rule 8.5: 1 for another size, and else what the tables are answered.
pub check_other : (t : List ℕ) → length t ≢ word_count → check t ≡ 1
unfolding check
check_other t n = case (λ (y : ℕ). y ≡ 1) (length t) word_count (judge (tables_of t)) 1 (λ e. absurd (n e)) (λ e. refl)

pub check_tables : (t : List ℕ) → length t ≡ word_count → check t ≡ judge (tables_of t)
unfolding check
check_tables t h = case (λ (y : ℕ). y ≡ judge (tables_of t)) (length t) word_count (judge (tables_of t)) 1 (λ e. refl) (λ e. absurd (e h))
