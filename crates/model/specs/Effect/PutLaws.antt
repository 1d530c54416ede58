-- The two moves that places are changed by, put last and leave, keep tables well-formed and secure.
use Rattle.std.specs.Prelude.{Bool, false, true, ◌≢◌, ◌⊎◌, ◌≡◌, ◌<◌, ◌≤◌, suc, ℕ, T, eqb}
use Rattle.std.proofs.Common.{inl, inr, ◌∙◌, ap, sym, arith, eqb→eq}
use Rattle.model.specs.Basics.Choice.{Same, it, other, pick, same}
use Rattle.model.specs.Effect.Places.{leave, leaving, put, putting}
use Rattle.model.specs.Level.{AtMost}
use Rattle.model.specs.State.Depth.{Within}
use Rattle.model.specs.State.LinksLaws.{attach, grown, shrink}
use Rattle.model.specs.State.Secure.{Secure, labelled}
use Rattle.model.specs.State.WellFormed.{EntityOk, Filled, Holds, InTables, Thing, WellFormed}
use Rattle.model.specs.Tables.EditLaws.{all, case, each}
use Rattle.model.specs.Tables.Edits.{written}
use Rattle.model.specs.Tables.Kinds.{Screen, Terminal}
use Rattle.model.specs.Tables.RowLaws.{append_packed, without_fewer, without_member, without_packed}
use Rattle.model.specs.Tables.Rows.{Member, left, replace, without}
use Rattle.model.specs.Tables.Words.{Tables, clearance, container_kind, devices, kinds, level, place_count, places, sum_most, sums}
use Rattle.model.specs.Tables.Words.{used_places}

-- e is put last in c, with the sum s
put_filled : (k n e s : ℕ) (at sum : ℕ → ℕ) → (container_kind ≤ k) → n < place_count → 1 ≤ e → ((i : ℕ) → i < n → at i ≢ e)
    → (Screen k → (1 ≤ s) × (s ≤ sum_most)) → ((¬ Screen k) → s ≡ 0) → Filled k n at sum → Filled k (suc n) (replace n e at) (replace n s sum)
put_filled k n e s at sum hk fits he new on off f = record {
  packed = append_packed at n e f.packed fits he new;
  object_empty = λ q. absurd (omega arith);
  sums = λ q i l. case (λ (y : ℕ). (1 ≤ y) × (y ≤ sum_most)) i n s (sum i) (λ z. on q) (λ z. f.sums q i (omega arith));
  no_sums = λ q i. case (λ (y : ℕ). y ≡ 0) i n s (sum i) (λ z. off q) (λ z. f.no_sums q i);
  rest_sums = λ i l. case (λ (y : ℕ). y ≡ 0) i n s (sum i) (λ z. absurd (omega arith)) (λ z. f.rest_sums i (omega arith));
}

-- what the request's conditions give: c has room, and takes e
pub record Takes (d : Tables) (c e s : ℕ) : Type 0 where
  pub thing : Thing d e
  pub holder : container_kind ≤ kinds d c
  pub room : used_places d c < place_count
  pub new : (i : ℕ) → i < used_places d c → places d c i ≢ e
  pub free : kinds d c ≡ container_kind → (b : ℕ) → InTables d b e → ⊥
  pub apart : Within (InTables d) c e → ⊥
  pub on_it : Terminal (kinds d c) → (u : ℕ) × (devices d u ≡ c)
  pub sum_on : Screen (kinds d c) → (1 ≤ s) × (s ≤ sum_most)
  pub sum_off : (¬ Screen (kinds d c)) → s ≡ 0

module _ (d : Tables) (w : WellFormed d) (c e s : ℕ) (t : Takes d c e s) where
  put_ok : EntityOk (d.entity c) → EntityOk (written (putting c e s d) (d.entity c))
  put_ok o =
      let n = w.entity_numbers e (omega (arith, t.thing)) in
      let f = put_filled (kinds d c) (used_places d c) e s (places d c) (sums d c) t.holder t.room n.0 t.new t.sum_on t.sum_off o.filled in
      let h = t.holder in
      search arith

  pub put_well_formed : WellFormed (put c e s d)
  put_well_formed = record {
    user_numbers = w.user_numbers;
    entity_numbers = w.entity_numbers;
    users = w.users;
    entities = each EntityOk (putting c e s d) c d.entity w.entities (put_ok (w.entities c));
    links = attach (kinds d) (used_places d) (places d) (devices d) w.links c e t.thing t.free t.apart t.on_it;
  }

  put_grown : (x a : ℕ) → Holds (put c e s d) x a → Holds d x a ⊎ ((x ≡ c) × (a ≡ e))
  put_grown x a h = grown (kinds d) (used_places d) (places d) (devices d) w.links c e x a h

  pub put_secure : Secure d → AtMost (d.entity e level) (d.entity c level)
      → ((u : ℕ) → devices d u ≡ c → AtMost (d.entity e level) (d.user u clearance)) → (Screen (kinds d c) → T (labelled s))
      → Secure (put c e s d)
  put_secure o low clear label = record {
    contained = λ x a h. in_it x a (put_grown x a h);
    seen = λ u a on h. on_it_lem u a on (put_grown (devices d u) a h);
    value_labelled = λ x i k l. shows x i k (eqb x c) (same x c) l;
    roles = o.roles;
    ceiling = o.ceiling;
  }
    where
      in_it : (x a : ℕ) → Holds d x a ⊎ ((x ≡ c) × (a ≡ e)) → AtMost (d.entity a level) (d.entity x level)
      in_it x a (inl h) = o.contained x a h
      in_it x a (inr q) = rw (q.0, q.1) low

      on_it_lem : (u a : ℕ) → devices d u ≢ 0 → Holds d (devices d u) a ⊎ ((devices d u ≡ c) × (a ≡ e)) → AtMost (d.entity a level) (d.user u clearance)
      on_it_lem u a on (inl h) = o.seen u a on h
      on_it_lem u a on (inr q) = rw q.1 (clear u q.0)

      shows : (x i : ℕ) → Screen (kinds d x) → (b : Bool) → Same x c b → i < pick b (suc (used_places d c)) (used_places d x)
          → T (labelled (pick b (replace (used_places d c) s (sums d c) i) (sums d x i)))
      shows x i k true (it q) l = case (λ (y : ℕ). T (labelled y)) i (used_places d c) s (sums d c i) (λ z. label (ap (kinds d) (sym q) ∙ k))
          (λ z. o.value_labelled c i (ap (kinds d) (sym q) ∙ k) (omega arith))
      shows x i k false (other q) l = o.value_labelled x i k l

-- e leaves its container
leave_filled : (k n e : ℕ) (at sum : ℕ → ℕ) → k ≡ container_kind → Filled k n at sum → Filled k (left e at n) (without e at n) sum
leave_filled k n e at sum h f = record {
  packed = without_packed e at n f.packed;
  object_empty = λ q. absurd (omega arith);
  sums = λ q. absurd (omega arith);
  no_sums = f.no_sums;
  rest_sums = λ i l. f.no_sums (omega arith) i;
}

module _ (d : Tables) (w : WellFormed d) (e : ℕ) where
  leave_ok : (x : ℕ) → kinds d x ≡ container_kind → EntityOk (d.entity x) → EntityOk (written (leaving e d x) (d.entity x))
  leave_ok x h o = let f = leave_filled (kinds d x) (used_places d x) e (places d x) (sums d x) h o.filled in search arith

  -- what is still there, and that e is in no container
  pub stayed : (x c : ℕ) → Holds (leave e d) x c → Holds d x c × (kinds d x ≡ container_kind → c ≢ e)
  stayed x c = go (eqb (kinds d x) container_kind) (same (kinds d x) container_kind)
    where
      go : (b : Bool) → Same (kinds d x) container_kind b
          → Member (λ i. pick b (without e (places d x) (used_places d x) i) (places d x i))
          (pick b (left e (places d x) (used_places d x)) (used_places d x)) c
          → Holds d x c × (kinds d x ≡ container_kind → c ≢ e)
      go true (it q) m = let y = without_member e (places d x) (used_places d x) (w.entities x).filled.packed c m in (y.0, λ z. y.1)
      go false (other q) m = (m, λ z. absurd (q z))

  pub fewer_there : (x : ℕ) → used_places (leave e d) x ≤ used_places d x
  fewer_there x = case (λ (y : ℕ). y ≤ used_places d x) (kinds d x) container_kind (left e (places d x) (used_places d x)) (used_places d x)
      (λ q. without_fewer e (places d x) (used_places d x) (w.entities x).filled.packed) (λ q. omega arith)

  pub leave_well_formed : WellFormed (leave e d)
  leave_well_formed = record {
    user_numbers = w.user_numbers;
    entity_numbers = w.entity_numbers;
    users = w.users;
    entities = all EntityOk (λ x. eqb (kinds d x) container_kind) (leaving e d) d.entity w.entities
        (λ x t. leave_ok x (eqb→eq (kinds d x) container_kind t) (w.entities x));
    links = shrink (kinds d) (used_places d) (places d) (devices d) w.links (used_places (leave e d)) (places (leave e d))
        (λ x c h. (stayed x c h).0) fewer_there;
  }

  pub leave_secure : Secure d → Secure (leave e d)
  leave_secure o = record {
    contained = λ x c h. o.contained x c (stayed x c h).0;
    seen = λ u c on h. o.seen u c on (stayed (devices d u) c h).0;
    value_labelled = λ x i k l. o.value_labelled x i k (omega (arith, fewer_there x));
    roles = o.roles;
    ceiling = o.ceiling;
  }
