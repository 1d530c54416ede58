-- Every accepted request obeys Definitions 5 to 11, in well-formed tables, whatever its operation.
use Rattle.std.specs.Prelude.{Bool, false, true, ◌≢◌, ◌⊎◌, ◌≡◌, eqb}
use Rattle.std.proofs.Common.{inl, inr, ◌∙◌, ap, sym, arith}
use Rattle.std.proofs.Math.Path.{refl}
use Prim.Native.Nat.{ℕ}
use Rattle.model.specs.Basics.Choice.{Same, it, other, pick, same}
use Rattle.model.specs.Effect.Places.{create, delete, fresh, leave, sort_kind, sort_type, vacant}
use Rattle.model.proofs.Effect.PlacesLaws.{sort_kind_lem, vacant_absent}
use Rattle.model.specs.Request.Allowed.{Accepted, Allowed, MayCopy, MayShow}
use Rattle.model.specs.Request.Asked.{Asked, asked, own}
use Rattle.model.specs.Request.Conditions.{level_of}
use Rattle.model.specs.Request.Operations.{Op, row_of, to_acknowledge, to_authorised, to_clear, to_clearance, to_copy, to_create, to_current}
use Rattle.model.specs.Request.Operations.{to_delete, to_device_level, to_edit, to_grant, to_level, to_login, to_logout, to_mark, to_maximum}
use Rattle.model.specs.Request.Operations.{to_move, to_release, to_revoke, to_show}
use Rattle.model.specs.Request.Words.{Request}
use Rattle.model.specs.State.WellFormed.{WellFormed}
use Rattle.model.specs.Tables.EditLaws.{case}
use Rattle.model.specs.Tables.Words.{Tables, absent_kind, container_kind, devices, kinds, maximum, released_type, releaser, type}
use Rattle.model.proofs.Theorem.DefinitionLaws.{both_there}
use Rattle.model.specs.Theorem.Definitions.{Both, Flows, NamedOpenly, Obeys, ReleaseSecure, Released, ShowsId, TranslationSecure}
use Rattle.model.proofs.Theorem.LawfulSame.{Changes, downgrade_one, downgrade_same, erased, ids_same, release_same, sames, set_current_lem}
use Rattle.model.proofs.Theorem.LawfulSame.{set_officer, set_same, unborn}
use Rattle.model.specs.Theorem.LawfulScreen.{screen_kept}
use Rattle.model.specs.Theorem.LawfulShow.{clear_ids, erase_ids, fresh_ids, leave_ids, put_ids, show_ids, show_named}
use Rattle.model.specs.Theorem.Statements.{Ids}

-- The flows of rule 9.6 go upward in every operation that is allowed: copy and show are the only ones that have any.
pub flows_upward : (o : Op) (s : Asked) (d d' : Tables) → Allowed o s d → Flows o s d d'
flows_upward o s d d' h =
    record { copied = λ e b c. (copy_allowed e).low; screen = λ e. (show_allowed e).on; shown = λ e b c. (show_allowed e).low }
  where
    copy_allowed : o ≡ to_copy → MayCopy s d
    copy_allowed e = rw e at h

    show_allowed : o ≡ to_show → MayShow s d
    show_allowed e = rw e at h

module _ (d : Tables) (q : Request) where
  -- what an accepted request by an operation changes, by rules 9.8 to 9.11
  abbrev ChangedBy : Op → Type 0
  ChangedBy o = Accepted o d q → Changes d q ((row_of o).effect (asked d q) d)

  -- Rules 9.8 to 9.11 of create: the new entity was absent.
  create_changes : ChangedBy to_create
  create_changes a = record {
    ids = ids_same q d new (λ v x m. fresh_ids e c k t l d (λ z. omega (arith, sort_kind_lem s.a)) v x (put_ids c e 0 (fresh e c k t l d) box v x m));
    setting = search sames;
    downgrade = downgrade_same q d new (λ x b. unborn e d x (level_of d x) l gone (both_there d new x b).0);
    release = release_same q d new (λ x b. unborn e d x (d.entity x type) t gone (both_there d new x b).0) (λ x b. refl);
  }
    where
      s : Asked
      s = asked d q

      e : ℕ
      e = vacant d

      c : ℕ
      c = s.first

      k : ℕ
      k = sort_kind s.a

      t : ℕ
      t = sort_type s.a

      l : ℕ
      l = s.b

      new : Tables
      new = create e c k t l d

      gone : kinds d e ≡ absent_kind
      gone = vacant_absent d a.allowed.number

      box : kinds (fresh e c k t l d) c ≡ container_kind
      box = unborn e d c (kinds d c) k gone (omega (arith, a.allowed.box)) ∙ a.allowed.box

  -- Rules 9.8 to 9.11 of delete: the deleted entity is absent afterwards.
  delete_changes : ChangedBy to_delete
  delete_changes a = record {
    ids = ids_same q d new (λ v x m. leave_ids e d v x (erase_ids e (leave e d) v x m));
    setting = set_same q d new (λ x b. gone x (d.entity x maximum) b) (λ x. refl) (λ x. refl) (λ x. refl);
    downgrade = downgrade_same q d new (λ x b. gone x (level_of d x) b);
    release = release_same q d new (λ x b. gone x (d.entity x type) b) (λ x b. gone x (d.entity x releaser) b);
  }
    where
      e : ℕ
      e = (asked d q).first

      new : Tables
      new = delete e d

      gone : (x n : ℕ) → Both d new x → pick (eqb x e) 0 n ≡ n
      gone x n b = erased e (leave e d) x n (both_there d new x b).1

  -- Rules 9.8 to 9.11 of move: a place in a container is on no device.
  move_changes : ChangedBy to_move
  move_changes a =
      let i : (v x : ℕ) → ShowsId ((row_of to_move).effect (asked d q) d) v x → ShowsId d v x
      =
      λ v x m. leave_ids (asked d q).first d v x (put_ids (asked d q).second (asked d q).first 0 (leave (asked d q).first d) a.allowed.box v x m) in
      search sames

  -- Rules 9.8 to 9.11 of level: the downgrader alone lets it drop.
  level_changes : ChangedBy to_level
  unfolding asked
  level_changes a =
      let f = downgrade_one q d ((row_of to_level).effect (asked d q) d) (asked d q).first q.a (λ x. refl) (λ l o. a.allowed.downgrade l) in
      search sames

  -- Rules 9.8 to 9.11 of device level: the downgrader alone lets it drop, but that of the own device.
  device_level_changes : ChangedBy to_device_level
  unfolding asked
  device_level_changes a =
      let f = downgrade_one q d ((row_of to_device_level).effect (asked d q) d) (asked d q).first q.a (λ x. refl) a.allowed.downgrade in
      search sames

  -- the requester's device, by the request
  own_is : own d (asked d q) ≡ devices d q.user
  unfolding asked
  own_is = refl

  -- Rules 9.8 to 9.11 of show: the entity shown is named openly.
  show_changes : ChangedBy to_show
  show_changes a =
      let i = show_ids (own d (asked d q)) (asked d q).first (asked d q).a d q own_is (show_named d q a) in
      search sames

  -- Rules 9.8 to 9.11 of clear: an empty screen shows no ID.
  clear_changes : ChangedBy to_clear
  clear_changes a = let i = clear_ids (own d (asked d q)) d in search sames

  -- Rules 9.8 to 9.11 of logout: the current roles are the requester's.
  logout_changes : ChangedBy to_logout
  unfolding asked
  logout_changes a =
      let i = clear_ids (own d (asked d q)) d in
      let n = set_current_lem q d ((row_of to_logout).effect (asked d q) d) q.user 0 (λ x b. refl) (λ x. refl) (λ x. refl) (λ x. refl) (λ z. absurd (z refl)) in
      search sames

  -- Rules 9.8 to 9.11 of current roles: the requester's, or another's by the officer.
  current_changes : ChangedBy to_current
  unfolding asked
  current_changes a =
      let n = set_current_lem q d ((row_of to_current).effect (asked d q) d) q.a q.b (λ x b. refl) (λ x. refl) (λ x. refl) (λ x. refl) a.allowed.officer in
      search sames

  -- Rules 9.8 to 9.11 of clearance: set by the officer.
  clearance_changes : ChangedBy to_clearance
  unfolding asked
  clearance_changes a = let n = set_officer q d ((row_of to_clearance).effect (asked d q) d) a.allowed.officer in search sames

  -- Rules 9.8 to 9.11 of authorised roles: set by the officer.
  authorised_changes : ChangedBy to_authorised
  unfolding asked
  authorised_changes a = let n = set_officer q d ((row_of to_authorised).effect (asked d q) d) a.allowed.officer in search sames

  -- Rules 9.8 to 9.11 of maximum: set by the officer.
  maximum_changes : ChangedBy to_maximum
  unfolding asked
  maximum_changes a = let n = set_officer q d ((row_of to_maximum).effect (asked d q) d) a.allowed.officer in search sames

  -- Rules 9.8 to 9.11 of release: the operand was a draft, so nothing that was released changes.
  release_changes : ChangedBy to_release
  unfolding asked
  release_changes a =
      let n : ReleaseSecure d q ((row_of to_release).effect (asked d q) d) = record {
        stays = λ x b t. kept x t (eqb x e) (same x e);
        becomes = λ x b t k. made x t (eqb x e) (same x e) k;
      } in
      search sames
    where
      e : ℕ
      e = (asked d q).first

      kept : (x : ℕ) → d.entity x type ≡ released_type → (b : Bool) → Same x e b
          → (pick b released_type (d.entity x type) ≡ released_type) × (pick b q.user (d.entity x releaser) ≡ d.entity x releaser)
      kept x t true (it r) = absurd (omega (arith, a.allowed.draft, ap (λ (y : ℕ). d.entity y type) r))
      kept x t false (other r) = (t, refl)

      made : (x : ℕ) → d.entity x type ≢ released_type → (b : Bool) → Same x e b
          → pick b released_type (d.entity x type) ≡ released_type → Released d q ((row_of to_release).effect (asked d q) d) x
      made x t true (it r) k = record {
        releaser = case (λ (y : ℕ). y ≡ q.user) x e q.user (d.entity x releaser) (λ z. refl) (λ z. absurd (z r));
        asks = a.meant;
        operand = sym r;
        role = a.allowed.releaser;
        draft = ap (λ (y : ℕ). d.entity y type) r ∙ a.allowed.draft;
      }
      made x t false (other r) k = absurd (t k)

  -- Rules 9.8 to 9.11 of every operation.
  changes : (o : Op) → ChangedBy o
  changes to_create a = create_changes a
  changes to_delete a = delete_changes a
  changes to_move a = move_changes a
  changes to_edit a = search sames
  changes to_copy a = search sames
  changes to_level a = level_changes a
  changes to_mark a = search sames
  changes to_grant a = search sames
  changes to_revoke a = search sames
  changes to_show a = show_changes a
  changes to_clear a = clear_changes a
  changes to_login a = search sames
  changes to_logout a = logout_changes a
  changes to_current a = current_changes a
  changes to_clearance a = clearance_changes a
  changes to_authorised a = authorised_changes a
  changes to_maximum a = maximum_changes a
  changes to_device_level a = device_level_changes a
  changes to_release a = release_changes a
  changes to_acknowledge a = search sames

-- Rule 9.8 of every device, not the requester's alone: no device at all newly shows an ID that an accepted request does not name openly.
pub ids_lawful : (o : Op) (d : Tables) → WellFormed d → (q : Request) → Accepted o d q → Ids d q ((row_of o).effect (asked d q) d)
ids_lawful o d w q a = (changes d q o a).ids

-- Rule 9.8 on the requester's device, where the paper asks it.
translation_lawful : (d d' : Tables) (q : Request) → Ids d q d' → ((x : ℕ) → ShowsId d (devices d' q.user) x → ShowsId d (devices d q.user) x)
    → TranslationSecure d q d'
translation_lawful d d' q f kept x b h = go (f (devices d' q.user) x b h)
  where
    go : ShowsId d (devices d' q.user) x ⊎ ((devices d' q.user ≡ devices d q.user) × NamedOpenly d q x)
        → ShowsId d (devices d q.user) x ⊎ NamedOpenly d q x
    go (inl z) = inl (kept x z)
    go (inr z) = inr z.1

-- Rules 9.5 to 9.11: every accepted request obeys all seven definitions.
pub lawful : (o : Op) (d : Tables) → WellFormed d → (q : Request) → Accepted o d q → Obeys d q ((row_of o).effect (asked d q) d)
lawful o d w q a = record {
  access = inr (o, a.meant, a.permitted);
  copy = inr (o, a.meant, flows_upward o (asked d q) d ((row_of o).effect (asked d q) d) a.allowed);
  ccr = inr (o, a.meant, a.cleared);
  translation = translation_lawful d ((row_of o).effect (asked d q) d) q (ids_lawful o d w q a) (screen_kept o d w q a);
  setting = (changes d q o a).setting;
  downgrade = (changes d q o a).downgrade;
  release = (changes d q o a).release;
}
