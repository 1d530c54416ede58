-- What the list of holders says while it is filled and when it is whole, where every entity is in order by itself; and what one that is says of its places.
use Rattle.std.specs.Prelude.{Bool, ◌&&◌, false, true, List, ◌≢◌, ◌⊎◌, ◌≡◌, T, eqb, ltb, get_or, set}
use Rattle.std.proofs.Common.{inl, inr, ◌∙◌, sym, arith, length-set, get_or-set_other, get_or-set_same}
use Rattle.std.proofs.Math.Path.{ap, fun_ext}
use Prim.Native.Nat.{◌*◌, ◌+◌, ◌-◌, ◌<◌, ◌≤◌, suc, zero, ℕ}
use Rattle.laws.specs.Bools.{fails}
use Rattle.model.specs.Basics.Agree.{Agrees, every_at}
use Rattle.model.specs.Basics.Choice.{Below, Same, below, it, other, over, same, under}
use Rattle.model.specs.Basics.TestLaws.{T-l, T-r, holds_true, is_true}
use Rattle.model.specs.Basics.Tests.{every}
use Rattle.model.specs.State.Agree.{eights}
use Rattle.model.specs.State.AgreeLinks.{one_agrees, parent_holds, parent_top}
use Rattle.model.specs.State.AgreeRecords.{entity_agrees}
use Rattle.model.specs.State.Check.{loop_test, one_test, parent}
use Rattle.model.specs.State.Climb.{up}
use Rattle.model.specs.State.Tests.{entity_test}
use Rattle.model.specs.State.WellFormed.{InTables}
use Rattle.model.specs.Tables.Layout.{Bounded}
use Rattle.model.specs.Tables.Rows.{Packed}
use Rattle.model.specs.Tables.Words.{Tables, container_kind, used, used_places, device, devices, entity_count, kind, kinds, place, place_count, places}
use Rattle.state.specs.EntityLaws.{contents_agrees}
use Rattle.state.specs.Holders.{Filled, Low, Slot, slot_count}
use Rattle.state.specs.Jumps.{all_end}
use Rattle.state.specs.Passes.{all_own, contents_at, idle_at, own_test, tree_test}

-- there is no slot between n and m
filled_more : (d : Tables) (n m : ℕ) (h : List ℕ) → Filled d n h → n ≤ m
    → ((c i x : ℕ) → Slot d c i x → n ≤ (c - 1) * place_count + i → (c - 1) * place_count + i < m → ⊥) → Filled d m h
filled_more d n m h f l g = record {
  size = f.size;
  sound = λ x k. let r = f.sound x k in (r.0, r.1, omega (arith, r.2));
  whole = λ c i x s k. go c i x s k (ltb ((c - 1) * place_count + i) n) (below ((c - 1) * place_count + i) n);
}
  where
    go : (c i x : ℕ) → Slot d c i x → (c - 1) * place_count + i < m → (b : Bool) → Below ((c - 1) * place_count + i) n b → get_or h x 0 ≡ c
    go c i x s k true (under q) = f.whole c i x s q
    go c i x s k false (over q) = absurd (g c i x s q k)

-- the slot that the loop is at, over the values read
pub slot_at : (d : Tables) (c i x k n : ℕ) → 1 ≤ c → k ≡ kinds d c → k ≡ container_kind → n ≡ used_places d c → i < n → x ≡ places d c i → Slot d c i x
slot_at d c i x k n l ke k2 ne h xe = record { low = l; box = sym ke ∙ k2; used = omega arith; at = sym xe }

-- ---- an entity that is in order by itself

module _ (d : Tables) (o : Bounded d) (e : ℕ) (w : T (own_test d e)) where
  -- its places are packed
  own_packed : Packed (places d e) (used_places d e)
  unfolding own_test
  own_packed = ((entity_agrees (d.entity e) (eights d o e)).to (T-l (entity_test (d.entity e)) (contents_at d e && idle_at d e) w)).filled.packed

  -- no more places are used than there are
  pub packed_room : (n : ℕ) → n ≡ used_places d e → n ≤ place_count
  packed_room n q = omega (arith, own_packed.room)

  -- what stands in them are entities
  own_content : (i : ℕ) → i < used_places d e → (1 ≤ places d e i) × (places d e i ≤ entity_count)
  unfolding own_test
  own_content i h =
      let c = (contents_agrees d o e).to (T-l (contents_at d e) (idle_at d e) (T-r (entity_test (d.entity e)) (contents_at d e && idle_at d e) w))
      i (omega (arith, own_packed.room)) h in
      let b : ¬ (entity_count < places d e i) = λ q. omega (arith, o.entity_out (places d e i) (inr q) kind, c.0) in
      (own_packed.used i h, omega arith)

  -- the same, over the values read
  pub packed_entity : (i x n : ℕ) → n ≡ used_places d e → i < n → x ≡ places d e i → (1 ≤ x) × (x ≤ entity_count)
  packed_entity i x n ne h xe = rw xe (own_content i (omega arith))

-- ---- where every entity is in order by itself

module _ (d : Tables) (o : Bounded d) (w : all_own d ≡ true) where
  -- entity e is in order
  pub own_at : (e : ℕ) → 1 ≤ e → e ≤ entity_count → T (own_test d e)
  own_at zero l h = absurd (omega arith)
  own_at (suc e) l h = every_at entity_count (λ e. own_test d (suc e)) (is_true (every entity_count (λ e. own_test d (suc e))) w) e (omega arith)

  -- what is no entity has no places
  nothing_out : (e : ℕ) → (e ≡ 0) ⊎ (entity_count < e) → Packed (places d e) (used_places d e)
  nothing_out e q = record {
    room = omega (arith, o.entity_out e q used);
    used = λ i h. omega (arith, o.entity_out e q used);
    rest = λ i h. o.entity_out e q (place i);
    distinct = λ i j h l z. omega (arith, o.entity_out e q used);
  }

  -- the places of every entity are packed
  packed : (e : ℕ) → Packed (places d e) (used_places d e)
  packed e = go (ltb 0 e) (below 0 e) (ltb entity_count e) (below entity_count e)
    where
      go : (a : Bool) → Below 0 e a → (b : Bool) → Below entity_count e b → Packed (places d e) (used_places d e)
      go true (under h) true (under l) = nothing_out e (inr l)
      go true (under h) false (over l) = own_packed d o e (own_at e h l)
      go false (over h) b l = nothing_out e (inl (omega arith))

  -- the number of an entity that has a place
  number : (e i : ℕ) → i < used_places d e → (1 ≤ e) × (e ≤ entity_count)
  number e i h =
      let a : e ≢ 0 = λ q. omega (arith, o.entity_out e (inl q) used) in
      let b : ¬ (entity_count < e) = λ q. omega (arith, o.entity_out e (inr q) used) in
      (omega arith, omega arith)

  -- what stands in places are entities
  content : (e i : ℕ) → i < used_places d e → (1 ≤ places d e i) × (places d e i ≤ entity_count)
  content e i h = let n = number e i h in own_content d o e (own_at e n.0 n.1) i h

  -- the numbers of a slot
  slot_in : (c i x : ℕ) → Slot d c i x → (c ≤ entity_count) × (i < place_count)
  slot_in c i x s = ((number c i s.used).1, omega (arith, s.used, (packed c).room))

  -- what stands in a slot is an entity
  slot_entity : (c i x : ℕ) → Slot d c i x → (1 ≤ x) × (x ≤ entity_count)
  slot_entity c i x s = rw (← s.at) (content c i s.used)

  -- no container
  pub filled_skip : (c k : ℕ) (h : List ℕ) → 1 ≤ c → k ≡ kinds d c → k ≢ container_kind → Filled d ((c - 1) * place_count) h → Filled d (c * place_count) h
  filled_skip c k h l ke q f = filled_more d ((c - 1) * place_count) (c * place_count) h f (omega arith)
      (λ a i x s m n. let e : a ≡ c = omega (arith, slot_in a i x s, s.low) in q (ke ∙ ap (kinds d) (sym e) ∙ s.box))

  -- the end of a container
  pub filled_rest : (c i n : ℕ) (h : List ℕ) → 1 ≤ c → n ≡ used_places d c → i ≤ n → n ≤ i → Filled d ((c - 1) * place_count + i) h → Filled d
      (c * place_count) h
  filled_rest c i n h l ne a b f = filled_more d ((c - 1) * place_count + i) (c * place_count) h f (omega (arith, (packed c).room))
      (λ z j x s m k.
      let e : z ≡ c = omega (arith, slot_in z j x s, s.low) in
      let u : j < used_places d c = rw e at s.used in omega arith)

  -- the next slot is noted
  pub filled_put : (c i x : ℕ) (h : List ℕ) → Slot d c i x → get_or h x 0 ≡ 0 → Filled d ((c - 1) * place_count + i) h
      → Filled d ((c - 1) * place_count + (i + 1)) (set h x c)
  filled_put c i x h s z f = record {
    size = length-set h x c ∙ f.size;
    sound = λ y l. sound y l (eqb y x) (same y x);
    whole = λ a p y t l. whole a p y t l (eqb y x) (same y x) (ltb ((a - 1) * place_count + p) ((c - 1) * place_count + i))
        (below ((a - 1) * place_count + p) ((c - 1) * place_count + i));
  }
    where
      here : get_or (set h x c) x 0 ≡ c
      here = get_or-set_same h x c 0 (omega (arith, f.size, slot_entity c i x s))

      sound : (y : ℕ) → 1 ≤ get_or (set h x c) y 0 → (b : Bool) → Same y x b
          → (p : ℕ) × Slot d (get_or (set h x c) y 0) p y × ((get_or (set h x c) y 0 - 1) * place_count + p < (c - 1) * place_count + (i + 1))
      sound y l true (it e) = rw (e, here) (i, s, omega arith)
      sound y l false (other e) =
          let q : get_or (set h x c) y 0 ≡ get_or h y 0 = get_or-set_other h x y c 0 e in
          let r = f.sound y (omega arith) in rw q (r.0, r.1, omega (arith, r.2))

      whole : (a p y : ℕ) → Slot d a p y → (a - 1) * place_count + p < (c - 1) * place_count + (i + 1) → (b : Bool) → Same y x b
          → (m : Bool) → Below ((a - 1) * place_count + p) ((c - 1) * place_count + i) m → get_or (set h x c) y 0 ≡ a
      whole a p y t l true (it e) true (under k) = absurd (omega (arith, f.whole a p y t k, ap (λ (v : ℕ). get_or h v 0) e, t.low))
      whole a p y t l true (it e) false (over k) =
          let q : c ≡ a = omega (arith, slot_in a p y t, slot_in c i x s, t.low, s.low) in rw e (here ∙ q)
      whole a p y t l false (other e) true (under k) = get_or-set_other h x y c 0 e ∙ f.whole a p y t k
      whole a p y t l false (other e) false (over k) =
          let ac : a ≡ c = omega (arith, slot_in a p y t, slot_in c i x s, t.low, s.low) in
          let pi : p ≡ i = omega (arith, slot_in a p y t, slot_in c i x s, t.low, s.low) in
          absurd (e (sym t.at ∙ rw (ac, pi) s.at))

  -- ---- one container at most

  -- who stands in a slot stands in that container
  box : (c i x : ℕ) → Slot d c i x → InTables d c x
  box c i x s = (s.box, (i, s.used, s.at))

  -- the test of rule 3.13 says that nothing stands in two containers
  one : Agrees (one_test (kinds d) (used_places d) (places d) (devices d)) ((x a b : ℕ) → InTables d a x → InTables d b x → a ≡ b)
  one = one_agrees (kinds d) (used_places d) (places d) (devices d) (λ e q. (o.entity_out e q kind, o.entity_out e q used))
      (λ u q. o.user_out u q device) (λ e. (packed e).room)

  -- something that is noted already stands in two
  pub held_twice : (c i x : ℕ) (h : List ℕ) → Slot d c i x → get_or h x 0 ≢ 0 → Filled d ((c - 1) * place_count + i) h
      → one_test (kinds d) (used_places d) (places d) (devices d) ≡ false
  held_twice c i x h s z f = fails (one_test (kinds d) (used_places d) (places d) (devices d)) (λ t.
      let r = f.sound x (omega arith) in
      again (get_or h x 0) r.0 r.1 r.2 (one.to t x (get_or h x 0) c (box (get_or h x 0) r.0 x r.1) (box c i x s)))
    where
      again : (v p : ℕ) → Slot d v p x → (v - 1) * place_count + p < (c - 1) * place_count + i → v ≡ c → ⊥
      again v p t l e =
          let u : p < used_places d c = rw e at t.used in
          let q : places d c p ≡ x = rw e at t.at in
          omega (arith, (packed c).distinct p i u s.used (q ∙ sym s.at))

  -- ---- the whole list

  -- who stands in a container stands in one of its slots
  slot_of : (c x : ℕ) → (m : InTables d c x) → Slot d c m.1.0 x
  slot_of c x m = record { low = (number c m.1.0 m.1.1).0; box = m.0; used = m.1.1; at = m.1.2 }

  module _ (h : List ℕ) (f : Filled d slot_count h) where
    -- the whole list tells the container of everything
    whole_at : (c x : ℕ) → InTables d c x → get_or h x 0 ≡ c
    whole_at c x m = let s = slot_of c x m in f.whole c m.1.0 x s (omega (arith, slot_in c m.1.0 x s))

    -- then nothing stands in two
    filled_one : one_test (kinds d) (used_places d) (places d) (devices d) ≡ true
    filled_one = holds_true (one_test (kinds d) (used_places d) (places d) (devices d)) (one.from (λ x a b p q. sym (whole_at a x p) ∙ whole_at b x q))

    -- and the list is the model's `parent`
    filled_at : (x : ℕ) → get_or h x 0 ≡ parent (kinds d) (used_places d) (places d) x
    filled_at x = go (eqb (parent (kinds d) (used_places d) (places d) x) 0) (same (parent (kinds d) (used_places d) (places d) x) 0)
      where
        go : (b : Bool) → Same (parent (kinds d) (used_places d) (places d) x) 0 b → get_or h x 0 ≡ parent (kinds d) (used_places d) (places d) x
        go true (it e) =
            let z : ¬ (1 ≤ get_or h x 0) = λ l. let r = f.sound x l in
            parent_top (kinds d) (used_places d) (places d) (devices d) (λ e q. (o.entity_out e q kind, o.entity_out e q used)) (λ u q. o.user_out u q device)
            (λ e. (packed e).room) x e (get_or h x 0) (box (get_or h x 0) r.0 x r.1) in
            omega arith
        go false (other e) = whole_at (parent (kinds d) (used_places d) (places d) x) x
            (parent_holds (kinds d) (used_places d) (places d) (devices d) (λ e q. (o.entity_out e q kind, o.entity_out e q used))
            (λ u q. o.user_out u q device)
            (λ e. (packed e).room) x e)

    -- so that climbing the list decides the model's test
    filled_loop : all_end h ≡ loop_test (kinds d) (used_places d) (places d) (devices d)
    unfolding loop_test
    filled_loop = ap (λ (g : ℕ → ℕ). every entity_count (λ e. up g (suc entity_count) (suc e))) (fun_ext filled_at)

  -- the list tells numbers of entities only
  pub filled_low : (n : ℕ) (h : List ℕ) → Filled d n h → Low h
  filled_low n h f = (f.size, λ x. go x (ltb 0 (get_or h x 0)) (below 0 (get_or h x 0)))
    where
      go : (x : ℕ) (b : Bool) → Below 0 (get_or h x 0) b → get_or h x 0 ≤ entity_count
      go x true (under l) = let r = f.sound x l in (slot_in (get_or h x 0) r.0 x r.1).0
      go x false (over l) = omega arith

  -- and nothing of 0, which is no entity
  pub filled_top : (n : ℕ) (h : List ℕ) → Filled d n h → get_or h 0 0 ≡ 0
  filled_top n h f =
      let z : ¬ (1 ≤ get_or h 0 0) = λ l. let r = f.sound 0 l in omega (arith, slot_entity (get_or h 0 0) r.0 0 r.1) in
      omega arith

  -- the list is whole: what is left to ask is that every way up ends
  pub tree_ends : (h : List ℕ) → Filled d slot_count h → (b : Bool) → b ≡ all_end h → b ≡ tree_test d
  tree_ends h f b be = rw (filled_one h f) (be ∙ filled_loop h f)
