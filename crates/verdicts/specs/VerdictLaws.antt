-- The verdicts are what the walk of a user asks of the tables, entity by entity and all together.
use Rattle.std.specs.Prelude.{Bool, ◌&&◌, not, List, [], ◌∷◌, ◌≡◌, ltb, length, set}
use Rattle.std.proofs.Math.Bool.{false, true}
use Rattle.std.proofs.Common.{◌∙◌, length-set, get_or-set_other, get_or-set_same}
use Rattle.std.proofs.Math.Path.{ap, refl, sym}
use Prim.Native.Nat.{◌+◌, ◌<◌, ◌≤◌, pred, suc, zero, ℕ}
use native.Mathlib.Omega.{arith}
use Rattle.std.proofs.Math.Dec.{eqb, leb}
use Rattle.std.proofs.Math.ListN.{get_or-eq_default, get_or}
use borrow.Author.Tests.{leb-false, leb-true}
use Rattle.model.specs.Basics.TestLaws.{only}
use Rattle.model.specs.List.Admitted.{Admitted}
use Rattle.verdicts.specs.Verdicts.{Guided, Judged, leads, listed, no_verdict, verdict}
use Rattle.verdicts.specs.declared.Verdict.{Verdict}
use Rattle.model.specs.Basics.Choice.{Below, Same, below, it, other, over, pick, same, under}
use Rattle.model.specs.Level.{at_most}
use Rattle.model.proofs.List.ListingLaws.{ways_used}
use Rattle.model.specs.List.Walk.{walk}
use Rattle.model.specs.List.Ways.{found, showable, ways}
use Rattle.model.specs.Request.Conditions.{is_entity}
use Rattle.model.specs.Request.Ladder.{bars}
use Rattle.model.specs.Request.Reference.{standing}
use Rattle.model.specs.Request.Words.{name_count}
use Rattle.model.specs.Tables.Layout.{tables_of}
use Rattle.model.specs.Tables.Words.{Tables, absent_kind, clearance, used, used_places, entity_count, kinds, level, mark, place_count, places}
use Rattle.reference.specs.WayLaws.{well_formed_ranged}
use Rattle.reference.specs.Ways.{bar}

-- ---- how a verdict is made

bars_one : (d : Tables) (l e : ℕ) → bars d l (e ∷ []) ≡ bar d l e
unfolding bars bar
bars_one d l e = only (not (eqb (d.entity e mark) 0) && not (at_most (d.entity e level) l))

-- a verdict is made of whether the way on is shut, how many places are used, and whether the entity may be shown
pub verdict_made : (d : Tables) (u e l : ℕ) (shut : Bool) (n : ℕ) (shown : Bool) → l ≡ d.user u clearance → shut ≡ bar d l e
    → n ≡ used_places d e → shown ≡ showable d u e → record { ways = pick shut 0 n; shown = shown } ≡ verdict d u e
unfolding verdict ways
verdict_made d u e l shut n shown c s p w = rw (s, p, w, c, bars_one d (d.user u clearance) e)

-- ---- what a verdict tells

-- where a place leads on, all that are used do
ways_all : (d : Tables) (u e : ℕ) → 1 ≤ ways d u e → ways d u e ≡ used_places d e
unfolding ways
ways_all d u e = go (bars d (d.user u clearance) (e ∷ []))
  where
    go : (b : Bool) → 1 ≤ pick b 0 (used_places d e) → pick b 0 (used_places d e) ≡ used_places d e
    go true h = absurd (omega arith)
    go false h = refl

module _ (d : Tables) (u e : ℕ) (x : Verdict) (h : x ≡ verdict d u e) where
  told_ways : x.ways ≡ ways d u e
  unfolding verdict
  told_ways = ap (λ (v : Verdict). v.ways) h

  told_showable : x.shown ≡ showable d u e
  unfolding verdict
  told_showable = ap (λ (v : Verdict). v.shown) h

-- a place that leads on holds an entity, and is one of eight
module _ (t : List ℕ) (v : List Verdict) (g : Guided t v) (e n p : ℕ) (q : n ≡ leads v e) (l : p < n) where
  guided_used : p < used_places (tables_of t) e
  guided_used = omega (arith, g.used e)

  pub guided_place : p < place_count
  guided_place = omega (arith, guided_used, g.ranged.room e)

  pub guided_next : (c : ℕ) → c ≡ places (tables_of t) e p → (1 ≤ c) × (c ≤ entity_count)
  guided_next c h = (omega (arith, g.ranged.low e p guided_used), omega (arith, g.ranged.high e p guided_used))

-- where some places of an entity lead on, any place of it holds an entity or nothing
pub guided_held : (t : List ℕ) (v : List Verdict) → Guided t v → (e : ℕ) → 1 ≤ leads v e → (p c : ℕ) → c ≡ places (tables_of t) e p → c ≤ entity_count
guided_held t v g e w p c h = go (ltb p (leads v e)) (below p (leads v e))
  where
    go : (b : Bool) → Below p (leads v e) b → c ≤ entity_count
    go true (under l) = (guided_next t v g e (leads v e) p refl l c h).1
    go false (over l) = omega (arith, g.rest e w p l)

-- ---- the verdicts on all

pub judged_none : (d : Tables) (u : ℕ) (v : List Verdict) → length v ≡ suc entity_count → get_or v 0 no_verdict ≡ no_verdict → Judged d u 0 v
judged_none d u v h z = record { size = h; first = z; told = λ e a b. absurd (omega arith) }

pub judged_more : (d : Tables) (u i : ℕ) (x : Verdict) (v : List Verdict) → i < entity_count → Judged d u i v
    → x ≡ verdict d u (i + 1) → Judged d u (i + 1) (set v (i + 1) x)
judged_more d u i x v l j h = record {
  size = length-set v (i + 1) x ∙ j.size;
  first = get_or-set_other v (i + 1) 0 x no_verdict (λ q. omega arith) ∙ j.first;
  told = λ e a b. go e a b (eqb e (i + 1)) (same e (i + 1));
}
  where
    go : (e : ℕ) → 1 ≤ e → e ≤ i + 1 → (b : Bool) → Same e (i + 1) b → get_or (set v (i + 1) x) e no_verdict ≡ verdict d u e
    go e a b true (it q) = let k : i + 1 < length v = omega (arith, j.size) in rw q (get_or-set_same v (i + 1) x no_verdict k ∙ h)
    go e a b false (other q) = get_or-set_other v (i + 1) e x no_verdict q ∙ j.told e a (omega arith)

module _ (t : List ℕ) (u : ℕ) (v : List Verdict) (a : Admitted t u) (j : Judged (tables_of t) u entity_count v) where
  d : Tables
  d = tables_of t

  -- an entity that is none has no place, and is not shown
  none_verdict : (e : ℕ) → kinds d e ≡ absent_kind → verdict d u e ≡ no_verdict
  unfolding d verdict showable is_entity
  none_verdict e z =
      let w : used_places (tables_of t) e ≡ 0 = (a.good.0.entities e).absent z used in
      let n : ways (tables_of t) u e ≡ 0 = omega (arith, ways_used (tables_of t) u e) in
      rw (n, z) refl

  -- what is at any number is the verdict, also where there is no entity
  held_verdict : (e : ℕ) → get_or v e no_verdict ≡ verdict d u e
  unfolding d
  held_verdict e = go (eqb (kinds (tables_of t) e) absent_kind) (same (kinds (tables_of t) e) absent_kind)
    where
      far : (e : ℕ) → (1 ≤ e → e ≤ entity_count → get_or v e no_verdict ≡ verdict (tables_of t) u e) → verdict (tables_of t) u e ≡ no_verdict
          → get_or v e no_verdict ≡ verdict (tables_of t) u e
      far zero h z = j.first ∙ sym z
      far (suc e) h z = near (leb (suc e) entity_count) refl
        where
          near : (b : Bool) → leb (suc e) entity_count ≡ b → get_or v (suc e) no_verdict ≡ verdict (tables_of t) u (suc e)
          near true q = h (omega arith) (leb-true (suc e) entity_count q)
          near false q = get_or-eq_default v no_verdict (omega (arith, j.size, leb-false (suc e) entity_count q)) ∙ sym z

      go : (b : Bool) → Same (kinds (tables_of t) e) absent_kind b → get_or v e no_verdict ≡ verdict (tables_of t) u e
      go true (it z) = far e (λ p q. j.told e p q) (none_verdict e z)
      go false (other z) = let r = a.good.0.entity_numbers e z in j.told e r.0 r.1

  pub judged_guided : Guided t v
  unfolding d leads
  judged_guided = record {
    whole = a.whole;
    ranged = well_formed_ranged (tables_of t) a.good.0;
    size = j.size;
    used = λ e. omega (arith, told_ways (tables_of t) u e (get_or v e no_verdict) (held_verdict e), ways_used (tables_of t) u e);
    rest = λ e w i l.
        let q : (get_or v e no_verdict).ways ≡ ways (tables_of t) u e = told_ways (tables_of t) u e (get_or v e no_verdict) (held_verdict e) in
        (a.good.0.entities e).filled.packed.rest i (omega (arith, q, ways_all (tables_of t) u e (omega (arith, q))));
  }

  -- the walk by the verdicts is the walk of the user
  pub judged_found : walk (leads v) (standing (tables_of t)) (listed v) (pred name_count) entity_count ≡ found (tables_of t) u
  unfolding d leads listed found
  judged_found i = walk (λ e. told_ways (tables_of t) u e (get_or v e no_verdict) (held_verdict e) i) (standing (tables_of t))
      (λ e. told_showable (tables_of t) u e (get_or v e no_verdict) (held_verdict e) i) (pred name_count) entity_count
