-- Create, delete and move keep tables well-formed and secure.
use Rattle.std.specs.Prelude.{Bool, false, true, ◌≢◌, ◌⊎◌, ◌≡◌, refl, ◌<◌, ◌≤◌, suc, ℕ, T, eqb}
use Rattle.std.proofs.Common.{inl, inr, ap, subst, not-suc-le-zero, arith}
use Rattle.model.specs.Basics.Choice.{Same, it, other, pick, same}
use Rattle.model.specs.Effect.Places.{bearing, create, delete, draft_sort, erase, fresh, leave, move, object_sort, sort_kind, sort_type}
use Rattle.model.specs.Effect.Places.{vacant}
use Rattle.model.specs.Effect.PutLaws.{Takes, fewer_there, leave_secure, leave_well_formed, put_secure, put_well_formed, stayed}
use Rattle.model.specs.Level.{AtMost, level_count}
use Rattle.model.specs.State.Agree.{zero_ok}
use Rattle.model.specs.State.Depth.{Within}
use Rattle.model.specs.State.DepthLaws.{fewer, holds_one}
use Rattle.model.specs.State.LinksLaws.{appear, still, vanish}
use Rattle.model.specs.State.Secure.{Secure, labelled}
use Rattle.model.specs.State.WellFormed.{EntityOk, Holds, In, InTables, Thing, WellFormed}
use Rattle.model.specs.Tables.EditLaws.{case, each}
use Rattle.model.specs.Tables.Edits.{blank, written}
use Rattle.model.specs.Tables.Kinds.{Screen}
use Rattle.model.specs.Tables.RowLaws.{sought}
use Rattle.model.specs.Tables.Rows.{Sought, seek}
use Rattle.model.specs.Tables.Words.{EntityWord, Tables, absent_kind, clearance, container_kind, devices, draft_type, entity_count, kinds}
use Rattle.model.specs.Tables.Words.{level, mark, maximum, object_kind, place_count, places, plain_type, releaser, shown, sums, used}
use Rattle.model.specs.Tables.Words.{used_places, value}

-- the level of e changes, and e neither holds anything nor is held
module _ (d : Tables) (s : Secure d) (e l : ℕ) (nothing : (c : ℕ) → Holds d e c → ⊥) (nowhere : (x : ℕ) → Holds d x e → ⊥) where
  contained_by : (x c : ℕ) → Holds d x c → AtMost (pick (eqb c e) l (d.entity c level)) (pick (eqb x e) l (d.entity x level))
  contained_by x c h =
      case (λ (y : ℕ). AtMost y (pick (eqb x e) l (d.entity x level))) c e l (d.entity c level) (λ q. absurd (nowhere x (subst (Holds d x) q h)))
      (λ q. case (AtMost (d.entity c level)) x e l (d.entity x level)
      (λ r. absurd (nothing c (subst (λ (y : ℕ). Holds d y c) r h))) (λ r. s.contained x c h))

  seen_by : (u c : ℕ) → devices d u ≢ 0 → Holds d (devices d u) c → AtMost (pick (eqb c e) l (d.entity c level)) (d.user u clearance)
  seen_by u c on h = case (λ (y : ℕ). AtMost y (d.user u clearance)) c e l (d.entity c level)
      (λ q. absurd (nowhere (devices d u) (subst (Holds d (devices d u)) q h))) (λ q. s.seen u c on h)

-- a record at an absent number
module _ (d : Tables) (w : WellFormed d) (e c k t l : ℕ) (gone : kinds d e ≡ 0) (range : (1 ≤ e) × (e ≤ entity_count))
    (sort : (object_kind ≤ k) × (k ≤ container_kind))
    (draft : (t ≡ 0) ⊎ ((k ≡ container_kind) × (t ≡ 1))) (lev : l < level_count) where
  zero_here : (f : EntityWord) → d.entity e f ≡ 0
  zero_here = (w.entities e).absent gone

  born_ok : EntityOk (d.entity e) → EntityOk (written (bearing c k t l d) (d.entity e))
  born_ok o =
      let a = zero_here mark in
      let b = zero_here value in
      let f = zero_here releaser in
      let g = zero_here maximum in
      let h = zero_here used in
      let z : (i : ℕ) → d.entity e (shown i) ≡ 0 = λ i. zero_here (shown i) in
      let acc = (w.entities c).access in
      let ty : (t ≤ 1) × (t ≢ 0 → k ≡ container_kind) = typing draft in
      search (arith, z)
    where
      typing : (t ≡ 0) ⊎ ((k ≡ container_kind) × (t ≡ 1)) → (t ≤ 1) × (t ≢ 0 → k ≡ container_kind)
      typing (inl q) = (omega arith, λ z. absurd (z q))
      typing (inr q) = (omega arith, λ z. q.0)

  nothing : (x : ℕ) → Holds d e x → ⊥
  nothing x h = omega (arith, h.1, zero_here used)

  nowhere : (x : ℕ) → Holds d x e → ⊥
  nowhere x h = omega (arith, w.links.contents x e h)

  pub fresh_well_formed : WellFormed (fresh e c k t l d)
  fresh_well_formed = record {
    user_numbers = w.user_numbers;
    entity_numbers = λ x. case (λ (y : ℕ). y ≢ 0 → (1 ≤ x) × (x ≤ entity_count)) x e k (kinds d x) (λ q z. rw q range) (λ q. w.entity_numbers x);
    users = w.users;
    entities = each EntityOk (bearing c k t l d) e d.entity w.entities (born_ok (w.entities e));
    links = appear (kinds d) (used_places d) (places d) (devices d) w.links e k gone (zero_here used) sort;
  }

  pub fresh_secure : Secure d → Secure (fresh e c k t l d)
  fresh_secure s = record {
    contained = contained_by d s e l nothing nowhere;
    seen = seen_by d s e l nothing nowhere;
    value_labelled = λ x i h. s.value_labelled x i (same_kind x h);
    roles = s.roles;
    ceiling = λ x h. case (λ (y : ℕ). AtMost y (d.entity x maximum)) x e l (d.entity x level)
        (λ q. absurd (omega (arith, ap (kinds d) q, same_kind x h))) (λ q. s.ceiling x (same_kind x h));
  }
    where
      same_kind : (x : ℕ) → Screen (kinds (fresh e c k t l d) x) → Screen (kinds d x)
      same_kind x = case (λ (y : ℕ). Screen y → Screen (kinds d x)) x e k (kinds d x) (λ q z. absurd (omega arith)) (λ q z. z)

-- a record is zeroed
module _ (d : Tables) (w : WellFormed d) (e : ℕ) (thing : kinds d e ≤ container_kind) (empty : used_places d e ≡ 0) (nowhere : (x : ℕ) → Holds d x e → ⊥) where
  pub erase_well_formed : WellFormed (erase e d)
  erase_well_formed = record {
    user_numbers = w.user_numbers;
    entity_numbers = λ x. case (λ (y : ℕ). y ≢ 0 → (1 ≤ x) × (x ≤ entity_count)) x e 0 (kinds d x) (λ q z. absurd (z refl)) (λ q. w.entity_numbers x);
    users = w.users;
    entities = each EntityOk (blank) e d.entity w.entities zero_ok;
    links = vanish (kinds d) (used_places d) (places d) (devices d) w.links e nowhere thing;
  }

  pub erase_secure : Secure d → Secure (erase e d)
  erase_secure s = record {
    contained = λ x c h. contained_by d s e 0 (λ y m. omega (arith, m.1)) nowhere x c (there x c h);
    seen = λ u c on h. seen_by d s e 0 (λ y m. omega (arith, m.1)) nowhere u c on (there (devices d u) c h);
    value_labelled = λ x i. shows x i (eqb x e);
    roles = s.roles;
    ceiling = λ x. top x (eqb x e);
  }
    where
      there : (x c : ℕ) → Holds (erase e d) x c → Holds d x c
      there x c h = still (kinds d) (used_places d) (places d) (devices d) w.links e nowhere thing x c h

      shows : (x i : ℕ) (b : Bool) → Screen (pick b 0 (kinds d x)) → i < pick b 0 (used_places d x) → T (labelled (pick b 0 (sums d x i)))
      shows x i true h l = absurd (not-suc-le-zero l)
      shows x i false h l = s.value_labelled x i h l

      top : (x : ℕ) (b : Bool) → Screen (pick b 0 (kinds d x)) → AtMost (pick b 0 (d.entity x level)) (pick b 0 (d.entity x maximum))
      top x true h = absurd (let z : Screen absent_kind = h in omega arith)
      top x false h = s.ceiling x h

-- 2 delete: an entity with no contents, on no device
module _ (d : Tables) (w : WellFormed d) (s : Secure d) (e : ℕ) (thing : kinds d e ≤ container_kind) (empty : used_places d e ≡ 0)
    (unseen : (x : ℕ) → Screen (kinds d x) → Holds d x e → ⊥) where
  nowhere_now : (x : ℕ) → Holds (leave e d) x e → ⊥
  nowhere_now x h =
      let m = stayed d w e x e h in
      let unshown : (¬ Screen (kinds d x)) = λ q. unseen x q m.0 in
      let not2 : kinds d x ≢ container_kind = λ q. m.1 q refl in
      let not1 : kinds d x ≢ 1 = λ q. omega (arith, (w.entities x).filled.object_empty q, m.0.1) in
      let not0 : kinds d x ≢ 0 = λ q. omega (arith, (w.entities x).absent q used, m.0.1) in
      omega (arith, (w.entities x).shape.kind_in)

  empty_now : used_places (leave e d) e ≡ 0
  empty_now = omega (arith, fewer_there d w e e)

  pub delete_well_formed : WellFormed (delete e d)
  delete_well_formed = erase_well_formed (leave e d) (leave_well_formed d w e) e thing empty_now nowhere_now

  pub delete_secure : Secure (delete e d)
  delete_secure = erase_secure (leave e d) (leave_well_formed d w e) e thing empty_now nowhere_now (leave_secure d w e s)

-- no user is on a container
on_none : (d : Tables) → WellFormed d → (c u : ℕ) → kinds d c ≡ container_kind → devices d u ≡ c → ⊥
on_none d w c u h q =
    let n = w.entity_numbers c (omega arith) in
    omega (arith, w.links.device_is u (omega arith), ap (kinds d) q)

-- 3 move
module _ (d : Tables) (w : WellFormed d) (s : Secure d) (e c : ℕ) (thing : Thing d e) (box : kinds d c ≡ container_kind)
    (room : used_places (leave e d) c < place_count)
    (apart : Within (InTables d) c e → ⊥) (low : AtMost (d.entity e level) (d.entity c level)) where
  Inner : ℕ → ℕ → Type 0
  Inner = In (kinds (leave e d)) (used_places (leave e d)) (places (leave e d))

  apart_now : Within Inner c e → ⊥
  unfolding Inner
  apart_now (inl q) = apart (inl q)
  apart_now (inr p) = apart (inr (fewer (λ b a h. (h.0, (stayed d w e b a h.1).0)) p))

  takes : Takes (leave e d) c e 0
  unfolding Inner
  takes = record {
    thing = thing;
    holder = omega arith;
    room = room;
    new = λ i l q. (stayed d w e c e (i, l, q)).1 box refl;
    free = λ q b h. (stayed d w e b e h.1).1 h.0 refl;
    apart = apart_now;
    on_it = λ q. absurd (omega arith);
    sum_on = λ q. absurd (omega arith);
    sum_off = λ q. refl;
  }

  pub move_well_formed : WellFormed (move e c d)
  move_well_formed = put_well_formed (leave e d) (leave_well_formed d w e) c e 0 takes

  pub move_secure : Secure (move e c d)
  move_secure =
      put_secure (leave e d) (leave_well_formed d w e) c e 0 takes (leave_secure d w e s) low (λ u q. absurd (on_none d w c u box q))
      (λ q. absurd (omega arith))

-- 1 create
module _ (d : Tables) (w : WellFormed d) (s : Secure d) (e c k t l : ℕ) (gone : kinds d e ≡ 0) (range : (1 ≤ e) × (e ≤ entity_count))
    (sort : (object_kind ≤ k) × (k ≤ container_kind)) (draft : (t ≡ 0) ⊎ ((k ≡ container_kind) × (t ≡ 1))) (lev : l < level_count)
    (box : kinds d c ≡ container_kind) (room : used_places d c < place_count) (low : AtMost l (d.entity c level)) where
  abbrev with_it : Tables
  with_it = fresh e c k t l d

  apart_c : c ≢ e
  apart_c q = omega (arith, ap (kinds d) q)

  box_now : kinds with_it c ≡ container_kind
  box_now = case (λ (y : ℕ). y ≡ container_kind) c e k (kinds d c) (λ q. absurd (apart_c q)) (λ q. box)

  level_c : d.entity c level ≡ with_it.entity c level
  level_c = case (λ (y : ℕ). d.entity c level ≡ y) c e l (d.entity c level) (λ q. absurd (apart_c q)) (λ q. refl)

  level_e : l ≡ with_it.entity e level
  level_e = case (λ (y : ℕ). l ≡ y) e e l (d.entity e level) (λ q. refl) (λ q. absurd (q refl))

  separate : Within (In (kinds with_it) (used_places with_it) (places with_it)) c e → ⊥
  separate (inl q) = apart_c q
  separate (inr p) = let x = holds_one p in nothing d w e c k t l gone range sort draft lev x.0 x.1.1

  takes_new : Takes with_it c e 0
  takes_new = record {
    thing = case (λ (y : ℕ). (object_kind ≤ y) × (y ≤ container_kind)) e e k (kinds d e) (λ q. sort) (λ q. absurd (q refl));
    holder = omega (arith, box_now);
    room = room;
    new = λ i h q. nowhere d w e c k t l gone range sort draft lev c (i, h, q);
    free = λ q b h. nowhere d w e c k t l gone range sort draft lev b h.1;
    apart = separate;
    on_it = λ q. absurd (omega (arith, box_now));
    sum_on = λ q. absurd (omega (arith, box_now));
    sum_off = λ q. refl;
  }

  new_well_formed : WellFormed with_it
  new_well_formed = fresh_well_formed d w e c k t l gone range sort draft lev

  pub create_well_formed : WellFormed (create e c k t l d)
  create_well_formed = put_well_formed with_it new_well_formed c e 0 takes_new

  pub create_secure : Secure (create e c k t l d)
  create_secure = put_secure with_it new_well_formed c e 0 takes_new (fresh_secure d w e c k t l gone range sort draft lev s)
      (rw (← level_e, ← level_c) low) (λ u q. absurd (on_none with_it new_well_formed c u box_now q)) (λ q. absurd (omega (arith, box_now)))

-- the lowest absent number is absent
pub vacant_absent : (d : Tables) → vacant d ≤ entity_count → kinds d (vacant d) ≡ absent_kind
vacant_absent d h = go (sought 0 (λ i. kinds d (suc i)) entity_count)
  where
    go : Sought 0 (λ i. kinds d (suc i)) entity_count (seek 0 (λ i. kinds d (suc i)) entity_count) → kinds d (vacant d) ≡ 0
    go (inl s) = s.1
    go (inr s) = absurd (omega (arith, s.0))

-- the sort of a new entity gives its kind and type
pub sort_kind_lem : (s : ℕ) → (object_kind ≤ sort_kind s) × (sort_kind s ≤ container_kind)
sort_kind_lem s = go (eqb s object_sort)
  where
    go : (b : Bool) → (object_kind ≤ pick b object_kind container_kind) × (pick b object_kind container_kind ≤ container_kind)
    go true = search arith
    go false = search arith

pub sort_type_lem : (s : ℕ) → (sort_type s ≡ plain_type) ⊎ ((sort_kind s ≡ container_kind) × (sort_type s ≡ draft_type))
sort_type_lem s = go (eqb s draft_sort) (eqb s object_sort) (same s draft_sort) (same s object_sort)
  where
    go : (x y : Bool) → Same s draft_sort x → Same s object_sort y → (pick x draft_type plain_type ≡ plain_type)
        ⊎ ((pick y object_kind container_kind ≡ container_kind) × (pick x draft_type plain_type ≡ draft_type))
    go true true (it e) (it f) = absurd (omega arith)
    go true false (it e) (other f) = inr (refl, refl)
    go false true (other e) (it f) = inl refl
    go false false (other e) (other f) = inl refl
