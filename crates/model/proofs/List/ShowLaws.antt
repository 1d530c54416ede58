-- What the step answers to the list's question: the list's own refusal, and else what the walk asks (rules 10.2, 10.3 and 10.6).
use Rattle.std.specs.Prelude.{Bool, ◌&&◌, ◌||◌, ◌≢◌, ◌≡◌, eqb, length}
use Rattle.std.proofs.Math.Bool.{false, not, true}
use mathlib.Core.List.{List, [], ◌∷◌}
use Rattle.std.proofs.Common.{⊎_elim, ◌∙◌, arith}
use Rattle.std.proofs.Math.Path.{ap, refl, sym}
use Prim.Native.Nat.{◌≤◌, ℕ}
use Rattle.std.proofs.Math.Dec.{leb}
use Rattle.model.specs.Basics.Agree.{Agrees, agrees_and, agrees_eq, agrees_le, agrees_not, agrees_or}
use Rattle.model.specs.Basics.Choice.{Same, it, other, pick, same}
use Rattle.model.specs.Basics.Fails.{fails_agreed}
use Rattle.model.specs.Basics.TestLaws.{fails_false, pick_false, pick_same, pick_true}
use Rattle.model.specs.Level.{at_most}
use Rattle.model.proofs.List.AdmittedLaws.{barred_admitted, barred_range}
use Rattle.model.proofs.List.AnswerLaws.{show_answer}
use Rattle.model.specs.List.Further.{asks, further, rungs}
use Rattle.model.specs.List.Listing.{Opens, barred, opens, showing}
use Rattle.model.specs.List.Walk.{arrives, reached}
use Rattle.model.specs.List.Ways.{showable, ways}
use Rattle.model.specs.Request.Asked.{asked}
use Rattle.model.proofs.Request.ConditionLaws.{thing_agrees}
use Rattle.model.specs.Request.Conditions.{is_entity, level_of, show_no_room}
use Rattle.model.specs.Request.Ladder.{bars, permits}
use Rattle.model.specs.Request.Operations.{number_of, to_show}
use Rattle.model.specs.Request.Reference.{basis, follow, passed, place_test, present_test, resolve, standing}
use Rattle.model.specs.Request.Step.{answer_of}
use Rattle.model.specs.Request.Words.{name_count, request_of}
use Rattle.model.specs.State.WellFormed.{WellFormed}
use Rattle.model.specs.Tables.Layout.{tables_of}
use Rattle.model.specs.Tables.Words.{Tables, absent_kind, clearance, devices, entity_count, kinds, level, mark, used, used_places}
use Rattle.model.specs.Request.Refusals as refusal

-- Rule 10.3: the test of a reference is its statement.
pub opens_agrees : (t : List ℕ) (u : ℕ) (r : List ℕ) → Agrees (opens t u r) (Opens t u r)
unfolding opens
opens_agrees t u r = agrees_or (agrees_eq (answer_of t (showing u r)) refusal.accepted) (agrees_eq (answer_of t (showing u r)) refusal.no_room)

-- Rule 10.2: where the list is refused, the step gives the same refusal, whatever reference of one to four names is asked for.
pub barred_answer : (t : List ℕ) (u : ℕ) (r : List ℕ) → 1 ≤ length r → length r ≤ name_count → barred t u ≢ refusal.accepted
    → answer_of t (showing u r) ≡ barred t u
barred_answer t u r low high h = show_answer t u r low high
    ∙ pick_false (eqb (barred t u) refusal.accepted) (further (tables_of t) u r) (barred t u) ((agrees_not (agrees_eq (barred t u) refusal.accepted)).from h)

-- So no reference opens then.
pub barred_opens : (t : List ℕ) (u : ℕ) (r : List ℕ) → 1 ≤ length r → length r ≤ name_count → barred t u ≢ refusal.accepted → opens t u r ≡ false
barred_opens t u r low high h =
    let e = sym (barred_answer t u r low high h) in
    fails_false (opens t u r) ((fails_agreed (opens_agrees t u r)).from (⊎_elim (λ z. h (e ∙ z)) (λ z. omega (arith, barred_range t u, e ∙ z))))

-- no name is one of none
no_way : (p : ℕ) → (leb 1 p && leb p 0) ≡ false
no_way p = fails_false (leb 1 p && leb p 0) ((fails_agreed (agrees_and (agrees_le 1 p) (agrees_le p 0))).from (λ z. omega (arith, z.0, z.1)))

-- The step opens what passes rungs 7 to 10 and 13.
pub opens_asks : (t : List ℕ) (u : ℕ) (r : List ℕ) → 1 ≤ length r → length r ≤ name_count → barred t u ≡ refusal.accepted
    → opens t u r ≡ asks (tables_of t) u (resolve (tables_of t) r) (bars (tables_of t) ((tables_of t).user u clearance) (basis (tables_of t) r))
unfolding opens further
opens_asks t u r low high h = ap (λ (a : ℕ). eqb a refusal.accepted || eqb a refusal.no_room)
    (show_answer t u r low high ∙ pick_true (eqb (barred t u) refusal.accepted) (further (tables_of t) u r) (barred t u)
    ((agrees_eq (barred t u) refusal.accepted).from h))
    ∙ go (eqb e 0) (permits d u (number_of to_show) 1 e) (bars d (d.user u clearance) (basis d r)) (is_entity d e)
    (at_most (level_of d e) (d.user u clearance)) (at_most (level_of d e) (level_of d (devices d u))) (show_no_room d (asked d (request_of (showing u r))))
  where
    d : Tables
    d = tables_of t

    e : ℕ
    e = resolve (tables_of t) r

    go : (z g c k a b f : Bool) → (eqb (rungs z (not g) c (not k) (not a || not b) f) refusal.accepted
        || eqb (rungs z (not g) c (not k) (not a || not b) f) refusal.no_room)
        ≡ (not z && (g && (not c && (k && (a && b)))))
    go true g c k a b f = refl
    go false false c k a b f = refl
    go false true true k a b f = refl
    go false true false false a b f = refl
    go false true false true false b f = refl
    go false true false true true false f = refl
    go false true false true true true true = refl
    go false true false true true true false = refl

module _ (d : Tables) (w : WellFormed d) (u : ℕ) where
  -- What is not there is not shown, and nothing is found through it.
  no_entity : (e : ℕ) → kinds d e ≡ absent_kind → is_entity d e ≡ false
  no_entity e z = fails_false (is_entity d e) ((fails_agreed (thing_agrees d e)).from (λ h. omega (arith, h.0)))

  nowhere : kinds d 0 ≡ absent_kind
  nowhere = go (eqb (kinds d 0) absent_kind) (same (kinds d 0) absent_kind)
    where
      go : (b : Bool) → Same (kinds d 0) absent_kind b → kinds d 0 ≡ absent_kind
      go true (it e) = e
      go false (other n) = absurd (omega (arith, (w.entity_numbers 0 n).0))

  absent_arrives : (e : ℕ) (ps : List ℕ) → kinds d e ≡ absent_kind → arrives (ways d u) (standing d) (showable d u) e ps ≡ false
  unfolding arrives ways showable
  absent_arrives e [] z = none (is_entity d e) _ (no_entity e z)
    where
      none : (k c : Bool) → k ≡ false → (k && c) ≡ false
      none k c h = ap (λ (b : Bool). b && c) h
  absent_arrives e (p ∷ ps) z = ap (λ (n : ℕ). (leb 1 p && leb p n) && arrives (ways d u) (standing d) (showable d u) (standing d e p) ps)
      (ap (pick (bars d (d.user u clearance) (e ∷ [])) 0) ((w.entities e).absent z used) ∙ pick_same (bars d (d.user u clearance) (e ∷ [])) 0)
      ∙ ap (λ (b : Bool). b && arrives (ways d u) (standing d) (showable d u) (standing d e p) ps) (no_way p)

  -- At the end of a way that is open the ladder asks what the walk does;
  asks_end : (e : ℕ) → asks d u e false ≡ showable d u e
  unfolding showable
  asks_end e = go (eqb e 0) (permits d u (number_of to_show) 1 e) (is_entity d e) (at_most (level_of d e) (d.user u clearance))
      (at_most (level_of d e) (level_of d (devices d u))) (same e 0) refl
    where
      go : (z g k a b : Bool) → Same e 0 z → is_entity d e ≡ k → (not z && (g && (true && (k && (a && b))))) ≡ (k && (a && (b && g)))
      go true g k a b (it q) i = ap (λ (x : Bool). x && (a && (b && g))) (sym (no_entity e (ap (kinds d) q ∙ nowhere)) ∙ i)
      go false true true true true s i = refl
      go false true true true false s i = refl
      go false true true false b s i = refl
      go false true false a b s i = refl
      go false false true true true s i = refl
      go false false true true false s i = refl
      go false false true false b s i = refl
      go false false false a b s i = refl

  -- of one that is barred it passes nothing.
  asks_barred : (e : ℕ) → asks d u e true ≡ false
  asks_barred e = go (eqb e 0) (permits d u (number_of to_show) 1 e)
    where
      go : (z g : Bool) → (not z && (g && false)) ≡ false
      go true g = refl
      go false true = refl
      go false false = refl

  -- So name by name, from an entity that is there on,
  follow_asks : (e : ℕ) (ps : List ℕ)
      → asks d u (follow d e ps) (bars d (d.user u clearance) (passed d e ps)) ≡ arrives (ways d u) (standing d) (showable d u) e ps
  unfolding follow passed bars arrives ways place_test
  follow_asks e [] = asks_end e
  follow_asks e (p ∷ ps) =
      go (not (eqb (d.entity e mark) 0) && not (at_most (d.entity e level) (d.user u clearance))) (follow_asks (standing d e p) ps)
    where
      x : ℕ
      x = follow d (standing d e p) ps

      c : Bool
      c = bars d (d.user u clearance) (passed d (standing d e p) ps)

      m : Bool
      m = arrives (ways d u) (standing d) (showable d u) (standing d e p) ps

      step : (b : Bool) → asks d u x c ≡ m → asks d u (elim b [ true ↦ x | false ↦ 0 ]) c ≡ (b && m)
      step true ih = ih
      step false ih = refl

      go : (b : Bool) → asks d u x c ≡ m
          → asks d u (elim (leb 1 p && leb p (used_places d e)) [ true ↦ x | false ↦ 0 ]) (elim b [ true ↦ true | false ↦ c ])
          ≡ ((leb 1 p && leb p (pick (elim b [ true ↦ true | false ↦ false ]) 0 (used_places d e))) && m)
      go true ih = asks_barred (elim (leb 1 p && leb p (used_places d e)) [ true ↦ x | false ↦ 0 ]) ∙ sym (ap (λ (b : Bool). b && m) (no_way p))
      go false ih = step (leb 1 p && leb p (used_places d e)) ih

  -- and of a whole reference.
  resolve_asks : (r : List ℕ)
      → asks d u (resolve d r) (bars d (d.user u clearance) (basis d r)) ≡ reached (ways d u) (standing d) (showable d u) entity_count r
  unfolding resolve basis reached present_test
  resolve_asks [] = refl
  resolve_asks (e ∷ ps) = go (leb 1 e && leb e entity_count) (eqb (kinds d e) absent_kind) (same (kinds d e) absent_kind)
    where
      go : (b k : Bool) → Same (kinds d e) absent_kind k
          → asks d u (elim (b && not k) [ true ↦ follow d e ps | false ↦ 0 ]) (bars d (d.user u clearance) (passed d e ps))
          ≡ (b && arrives (ways d u) (standing d) (showable d u) e ps)
      go true true (it z) = sym (absent_arrives e ps z)
      go true false s = follow_asks e ps
      go false k s = refl

-- Rules 10.3 and 10.6: where the list is not refused, a reference of one to four names opens exactly if the walk reaches it.
pub shown_reached : (t : List ℕ) (u : ℕ) (r : List ℕ) → 1 ≤ length r → length r ≤ name_count → barred t u ≡ refusal.accepted
    → opens t u r ≡ reached (ways (tables_of t) u) (standing (tables_of t)) (showable (tables_of t) u) entity_count r
shown_reached t u r low high h = opens_asks t u r low high h ∙ resolve_asks (tables_of t) (barred_admitted t u h).good.0 u r
