-- The resolver's ways: where it ends, where a name leads nowhere, and where it goes on.
use Rattle.std.specs.Prelude.{Bool, ◌&&◌, ◌≢◌, ◌≡◌, eqb, drop, get_or}
use Rattle.std.proofs.Math.Bool.{false, not, true}
use mathlib.Core.List.{List, [], ◌∷◌}
use Rattle.std.proofs.Common.{◌∙◌, subst, sym}
use Rattle.std.proofs.Math.Path.{ap, refl}
use Prim.Native.Nat.{◌-◌, ◌<◌, ◌≤◌, pred, suc, zero, ℕ}
use native.Mathlib.Omega.{arith}
use Rattle.std.proofs.Math.Dec.{eqb-suc-zero}
use Rattle.std.proofs.Math.ListN.{length, take}
use Rattle.std.proofs.Math.Seq.{take_all}
use Rattle.laws.specs.Bools.{fails}
use Rattle.tables.specs.declared.Entity.{Entity}
use Rattle.model.specs.Basics.Choice.{pick}
use Rattle.model.specs.Basics.TestLaws.{holds_true}
use Rattle.model.specs.Level.{at_most}
use Rattle.model.specs.Request.Ladder.{bars}
use Rattle.model.specs.Request.Reference.{Present, basis, follow, passed, place_test, present_test, resolve, standing}
use Rattle.model.proofs.Request.ReferenceLaws.{place_agrees, present_agrees}
use Rattle.model.specs.Request.Refusals as refusal
use Rattle.model.specs.State.WellFormed.{WellFormed}
use Rattle.model.specs.Tables.Words.{Tables, used_places, entity_count, level, mark, places}
use Rattle.reference.specs.Ways.{Ranged, bar, found, leading, onward, refusal_of}
use Rattle.reference.specs.declared.Found.TheVariants.{At, Nowhere}

-- well-formed tables are ranged
pub well_formed_ranged : (d : Tables) → WellFormed d → Ranged d
well_formed_ranged d w = record { room = λ e. (w.entities e).filled.packed.room; low = λ e i h. (inside e i h).0; high = λ e i h. (inside e i h).1 }
  where
    inside : (e i : ℕ) → i < used_places d e → (1 ≤ places d e i) × (places d e i ≤ entity_count)
    inside e i h =
        let k = w.links.contents e (places d e i) (i, h, refl) in
        w.entity_numbers (places d e i) (λ q. omega (arith, k))

-- an entity that was found is what the answer says
pub leading_at : (e : Entity) (o : Bool) → 1 ≤ e.0 → At e o ≡ leading e.0 o
leading_at e o h = go e.0 refl h
  where
    go : (n : ℕ) → e.0 ≡ n → 1 ≤ n → At e o ≡ leading n o
    go zero q h = absurd (omega arith)
    go (suc n) q h = ap (λ (m : ℕ). At (record { 0 = m }) o) q

-- one name is read, or leads nowhere
follow_yes : (d : Tables) (e p : ℕ) (ps : List ℕ) → place_test d e p ≡ true → follow d e (p ∷ ps) ≡ follow d (standing d e p) ps
unfolding follow
follow_yes d e p ps h = subst (λ (b : Bool). elim b [ true ↦ follow d (standing d e p) ps | false ↦ 0 ] ≡ follow d (standing d e p) ps) (sym h) refl

follow_no : (d : Tables) (e p : ℕ) (ps : List ℕ) → place_test d e p ≡ false → follow d e (p ∷ ps) ≡ 0
unfolding follow
follow_no d e p ps h = subst (λ (b : Bool). ◌≡◌ {A = ℕ} (elim b [ true ↦ follow d (standing d e p) ps | false ↦ 0 ]) 0) (sym h) refl

resolve_yes : (d : Tables) (e : ℕ) (ps : List ℕ) → present_test d e ≡ true → resolve d (e ∷ ps) ≡ follow d e ps
unfolding resolve
resolve_yes d e ps h = subst (λ (b : Bool). elim b [ true ↦ follow d e ps | false ↦ 0 ] ≡ follow d e ps) (sym h) refl

resolve_no : (d : Tables) (e : ℕ) (ps : List ℕ) → present_test d e ≡ false → resolve d (e ∷ ps) ≡ 0
unfolding resolve
resolve_no d e ps h = subst (λ (b : Bool). ◌≡◌ {A = ℕ} (elim b [ true ↦ follow d e ps | false ↦ 0 ]) 0) (sym h) refl

module _ (d : Tables) (l : ℕ) where
  -- no names are left
  pub follow_end : (e : Entity) (o : Bool) (ns : List ℕ) → 1 ≤ e.0 → length ns ≡ 0 → At e o ≡ onward d l e.0 o ns
  unfolding follow passed bars
  follow_end e o [] h z = go o (leading_at e o h)
    where
      go : (b : Bool) → At e o ≡ leading e.0 b → At e o ≡ leading e.0 (b && true)
      go true q = q
      go false q = q
  follow_end e o (p ∷ ps) h z = absurd (omega arith)

  -- the next name is no used place
  pub follow_stop : (e : ℕ) (o : Bool) (ns : List ℕ) → length ns ≢ 0 → ((1 ≤ get_or ns 0 0) × (get_or ns 0 0 ≤ used_places d e) → ⊥) → Nowhere ≡ onward d l e
      o ns
  follow_stop e o [] n h = absurd (n refl)
  follow_stop e o (p ∷ ps) n h = rw (follow_no d e p ps (fails (place_test d e p) (λ t. h ((place_agrees d e p).to t))))

  -- one more entity on the way, and whether it is a bar
  bars_more : (e : ℕ) (es : List ℕ) (o : Bool) → ((o && not (bar d l e)) && not (bars d l es)) ≡ (o && not (bars d l (e ∷ es)))
  unfolding bars bar
  bars_more e es o = go o (not (eqb (d.entity e mark) 0) && not (at_most (d.entity e level) l)) (bars d l es)
    where
      go : (o b c : Bool) → ((o && not b) && not c) ≡ (o && not (elim b [ true ↦ true | false ↦ c ]))
      go true true c = refl
      go true false c = refl
      go false b c = refl

  -- the next name is a used place, and the rest is read from there
  pub follow_on : (e c : ℕ) (o : Bool) (ns : List ℕ) → length ns ≢ 0 → 1 ≤ get_or ns 0 0 → get_or ns 0 0 ≤ used_places d e → c ≡ places d e (get_or ns 0 0 - 1)
      → onward d l c (o && not (bar d l e)) (take (length ns - 1) (drop 1 ns)) ≡ onward d l e o ns
  unfolding passed
  follow_on e c o [] n a b q = absurd (n refl)
  follow_on e c o (p ∷ ps) n a b q =
      let m : p - 1 ≡ pred p = omega arith in
      let f : take (length (p ∷ ps) - 1) ps ≡ ps = take_all (length (p ∷ ps) - 1) ps (omega arith) in
      let z : c ≡ standing d e p = q ∙ ap (places d e) m in
      rw (follow_yes d e p ps (holds_true (place_test d e p) ((place_agrees d e p).from (a, b))), f, z)
      (ap (leading (follow d (standing d e p) ps)) (bars_more e (passed d (standing d e p) ps) o))

  -- ---- a whole reference
  -- the first name is no entity that is there
  pub resolve_stop : (ns : List ℕ) → 1 ≤ length ns → (Present d (get_or ns 0 0) → ⊥) → Nowhere ≡ found d l ns
  resolve_stop [] n h = absurd (omega arith)
  resolve_stop (e ∷ ps) n h = rw (resolve_no d e ps (fails (present_test d e) (λ t. h ((present_agrees d e).to t))))

  -- the first name is an entity that is there, and the rest is read from it
  pub resolve_on : (e : ℕ) (ns : List ℕ) → e ≡ get_or ns 0 0 → 1 ≤ length ns → Present d e → onward d l e true (take (length ns - 1) (drop 1 ns)) ≡ found d l ns
  unfolding basis
  resolve_on e [] q n h = absurd (omega arith)
  resolve_on e (p ∷ ps) q n h =
      let f : take (length (p ∷ ps) - 1) ps ≡ ps = take_all (length (p ∷ ps) - 1) ps (omega arith) in
      rw (resolve_yes d p ps (holds_true (present_test d p) ((present_agrees d p).from (rw q at h))), q, f)

  -- where there is one name only, that is all
  pub resolve_one : (e : Entity) (ns : List ℕ) → e.0 ≡ get_or ns 0 0 → length ns ≡ 1 → Present d e.0 → At e true ≡ found d l ns
  unfolding follow passed bars
  resolve_one e ns q n h =
      let z : length (take (length ns - 1) (drop 1 ns)) ≡ 0 = rw n in
      follow_end e true (take (length ns - 1) (drop 1 ns)) h.low z ∙ resolve_on e.0 ns q (omega arith) h

  -- Rule 7.7: the resolver's answer means that there is no such name exactly where the reference leads nowhere.
  pub found_refusal : (ns : List ℕ) → refusal_of (found d l ns) ≡ pick (eqb (resolve d ns) 0) refusal.no_such_name refusal.accepted
  found_refusal ns = go (resolve d ns) (not (bars d l (basis d ns)))
    where
      go : (x : ℕ) (o : Bool) → refusal_of (leading x o) ≡ pick (eqb x 0) refusal.no_such_name refusal.accepted
      go zero o = refl
      go (suc x) o = rw (eqb-suc-zero x)
