-- Nothing becomes released but by a release of that very draft, nothing released is deleted or undone, and users and devices are those of the start;
-- of any request and any answer, on tables, on words, and over any list of requests.
use Rattle.std.specs.Prelude.{Bool, false, true, List, [], ◌∷◌, ◌≢◌, ◌⊎◌, ◌≡◌, refl, ℕ, eqb}
use mathlib.Core.Logic.Iff as Iff
use Rattle.std.proofs.Common.{inl, inr, ◌∙◌, ap, subst, sym, arith}
use Rattle.model.specs.Basics.Agree.{agrees_eq}
use Rattle.model.specs.Basics.Choice.{Same, it, other, same}
use Rattle.model.specs.Basics.TestLaws.{is_false, is_true}
use Rattle.model.specs.Effect.Places.{sort_kind, sort_type, vacant}
use Rattle.model.proofs.Effect.PlacesLaws.{sort_type_lem, vacant_absent}
use Rattle.model.specs.Request.After.{after, effect}
use Rattle.model.proofs.Request.AfterLaws.{after_each, effect_by}
use Rattle.model.specs.Request.Allowed.{Accepted}
use Rattle.model.specs.Request.Asked.{asked}
use Rattle.model.specs.Request.Ladder.{answer}
use Rattle.model.proofs.Request.OperationLaws.{names_found}
use Rattle.model.specs.Request.Operations.{Op, row_of, to_acknowledge, to_authorised, to_clear, to_clearance, to_copy, to_create, to_current}
use Rattle.model.specs.Request.Operations.{to_delete, to_device_level, to_edit, to_grant, to_level, to_login, to_logout, to_mark, to_maximum}
use Rattle.model.specs.Request.Operations.{to_move, to_release, to_revoke, to_show}
use Rattle.model.specs.Request.Step.{after_of, sized}
use Rattle.model.specs.Request.Words.{Request, request_of}
use Rattle.model.specs.State.AgreeSecure.{check_agrees}
use Rattle.model.specs.State.Check.{check}
use Rattle.model.specs.State.WellFormed.{WellFormed}
use Rattle.model.specs.Tables.EditLaws.{case, elsewhere}
use Rattle.model.specs.Tables.Layout.{tables_of}
use Rattle.model.specs.Tables.Words.{Tables, absent_kind, container_kind, draft_type, kinds, plain_type, released_type, releaser, type}
use Rattle.model.proofs.Theorem.Acceptance.{accepted}
use Rattle.model.specs.Theorem.Beyond.{OnlyReleased, ReleasedStays, SameDevices, SameUsers, StillReleased}
use Rattle.model.proofs.Theorem.Changed.{devices_stay, users_stay}
use Rattle.model.specs.Theorem.Definitions.{Released}
use Rattle.model.proofs.Theorem.Lawful.{lawful}
use Rattle.model.specs.Theorem.Statements.{after_words}
use Rattle.model.proofs.Theorem.Steps.{after_of_tables, check_kept, unsized}
use Rattle.model.specs.Request.Refusals as refusal

-- A new entity is plain or a draft, whatever its sort.
unreleased : (s : ℕ) → sort_type s ≢ released_type
unreleased s h = go (sort_type_lem s)
  where
    go : (sort_type s ≡ plain_type) ⊎ ((sort_kind s ≡ container_kind) × (sort_type s ≡ draft_type)) → ⊥
    go (inl z) = omega (arith, h)
    go (inr z) = omega (arith, h, z.1)

-- what is released before and after, of the number x
record KeptAt (d : Tables) (q : Request) (d' : Tables) (x : ℕ) : Type 0 where
  only : d'.entity x type ≡ released_type → (d.entity x type ≡ released_type) ⊎ Released d q d' x
  stays : d.entity x type ≡ released_type → StillReleased d d' x

module _ (d : Tables) (w : WellFormed d) (q : Request) where
  -- What is released is there.
  released_there : (x : ℕ) → d.entity x type ≡ released_type → kinds d x ≢ absent_kind
  released_there x t k = omega (arith, (w.entities x).absent k type)

  -- A number whose kind, type and releaser are as they were.
  as_it_was : (d' : Tables) (x : ℕ) → kinds d' x ≡ kinds d x → d'.entity x type ≡ d.entity x type → d'.entity x releaser ≡ d.entity x releaser
      → KeptAt d q d' x
  as_it_was d' x k t r = record {
    only = λ h. inl (sym t ∙ h);
    stays = λ h. record { there = λ z. released_there x h (sym k ∙ z); released = t ∙ h; releaser = r };
  }

  -- A number that is released neither before nor after.
  neither : (d' : Tables) (x : ℕ) → d.entity x type ≢ released_type → d'.entity x type ≢ released_type → KeptAt d q d' x
  neither d' x n m = record { only = λ h. absurd (m h); stays = λ h. absurd (n h) }

  -- Create: the new entity is plain or a draft, and its number was absent.
  create_keeps : Accepted to_create d q → (x : ℕ) → KeptAt d q ((row_of to_create).effect (asked d q) d) x
  create_keeps a x = go (eqb x (vacant d)) (same x (vacant d))
    where
      new : Tables
      new = (row_of to_create).effect (asked d q) d

      none_before : x ≡ vacant d → d.entity x type ≢ released_type
      none_before r h = released_there x h (ap (kinds d) r ∙ vacant_absent d a.allowed.number)

      none_after : x ≡ vacant d → new.entity x type ≢ released_type
      none_after r = case (λ (y : ℕ). y ≢ released_type) x (vacant d) (sort_type (asked d q).a) (d.entity x type)
          (λ z. unreleased (asked d q).a) (λ z. absurd (z r))

      go : (b : Bool) → Same x (vacant d) b → KeptAt d q new x
      go true (it r) = neither new x (none_before r) (none_after r)
      go false (other n) = as_it_was new x (elsewhere x (vacant d) _ (kinds d x) n) (elsewhere x (vacant d) _ (d.entity x type) n) refl

  -- Delete: what is deleted was not released, and is not there afterwards.
  delete_keeps : Accepted to_delete d q → (x : ℕ) → KeptAt d q ((row_of to_delete).effect (asked d q) d) x
  delete_keeps a x = go (eqb x e) (same x e)
    where
      e : ℕ
      e = (asked d q).first

      new : Tables
      new = (row_of to_delete).effect (asked d q) d

      none_after : x ≡ e → new.entity x type ≢ released_type
      none_after r = case (λ (y : ℕ). y ≢ released_type) x e plain_type (d.entity x type) (λ z h. omega (arith, h)) (λ z. absurd (z r))

      go : (b : Bool) → Same x e b → KeptAt d q new x
      go true (it r) = neither new x (λ h. a.allowed.kept (sym (ap (λ (y : ℕ). d.entity y type) r) ∙ h)) (none_after r)
      go false (other n) =
          as_it_was new x (elsewhere x e 0 (kinds d x) n) (elsewhere x e 0 (d.entity x type) n) (elsewhere x e 0 (d.entity x releaser) n)

  -- Release: the operand is there before and after, so Definition 11 speaks of it.
  release_keeps : Accepted to_release d q → (x : ℕ) → KeptAt d q ((row_of to_release).effect (asked d q) d) x
  release_keeps a x = go (eqb x e) (same x e)
    where
      e : ℕ
      e = (asked d q).first

      new : Tables
      new = (row_of to_release).effect (asked d q) d

      there : x ≡ e → kinds d x ≢ absent_kind
      there r = let k = ap (kinds d) r ∙ a.allowed.box in λ z. omega (arith, z)

      draft_before : x ≡ e → d.entity x type ≢ released_type
      draft_before r = let t = ap (λ (y : ℕ). d.entity y type) r ∙ a.allowed.draft in λ z. omega (arith, z)

      becomes : x ≡ e → new.entity x type ≡ released_type → Released d q new x
      becomes r h = (lawful to_release d w q a).release.becomes x (there r, there r) (draft_before r) h

      go : (b : Bool) → Same x e b → KeptAt d q new x
      go true (it r) = record { only = λ h. inr (becomes r h); stays = λ h. absurd (draft_before r h) }
      go false (other n) = as_it_was new x refl (elsewhere x e released_type (d.entity x type) n) (elsewhere x e _ (d.entity x releaser) n)

  -- Every operation.
  effect_keeps : (o : Op) → Accepted o d q → (x : ℕ) → KeptAt d q ((row_of o).effect (asked d q) d) x
  effect_keeps to_create a x = create_keeps a x
  effect_keeps to_delete a x = delete_keeps a x
  effect_keeps to_move a x = as_it_was ((row_of to_move).effect (asked d q) d) x refl refl refl
  effect_keeps to_edit a x = as_it_was ((row_of to_edit).effect (asked d q) d) x refl refl refl
  effect_keeps to_copy a x = as_it_was ((row_of to_copy).effect (asked d q) d) x refl refl refl
  effect_keeps to_level a x = as_it_was ((row_of to_level).effect (asked d q) d) x refl refl refl
  effect_keeps to_mark a x = as_it_was ((row_of to_mark).effect (asked d q) d) x refl refl refl
  effect_keeps to_grant a x = as_it_was ((row_of to_grant).effect (asked d q) d) x refl refl refl
  effect_keeps to_revoke a x = as_it_was ((row_of to_revoke).effect (asked d q) d) x refl refl refl
  effect_keeps to_show a x = as_it_was ((row_of to_show).effect (asked d q) d) x refl refl refl
  effect_keeps to_clear a x = as_it_was ((row_of to_clear).effect (asked d q) d) x refl refl refl
  effect_keeps to_login a x = as_it_was ((row_of to_login).effect (asked d q) d) x refl refl refl
  effect_keeps to_logout a x = as_it_was ((row_of to_logout).effect (asked d q) d) x refl refl refl
  effect_keeps to_current a x = as_it_was ((row_of to_current).effect (asked d q) d) x refl refl refl
  effect_keeps to_clearance a x = as_it_was ((row_of to_clearance).effect (asked d q) d) x refl refl refl
  effect_keeps to_authorised a x = as_it_was ((row_of to_authorised).effect (asked d q) d) x refl refl refl
  effect_keeps to_maximum a x = as_it_was ((row_of to_maximum).effect (asked d q) d) x refl refl refl
  effect_keeps to_device_level a x = as_it_was ((row_of to_device_level).effect (asked d q) d) x refl refl refl
  effect_keeps to_release a x = release_keeps a x
  effect_keeps to_acknowledge a x = as_it_was ((row_of to_acknowledge).effect (asked d q) d) x refl refl refl

  -- Every request, whatever its answer.
  request_keeps : (x : ℕ) → KeptAt d q (after d q) x
  request_keeps x = after_each d q (λ (d' : Tables). KeptAt d q d' x) settled (λ l h. as_it_was d x refl refl refl) (λ h. as_it_was _ x refl refl refl)
    where
      settled : answer d q ≡ refusal.accepted → KeptAt d q (effect d q) x
      settled e = let a = accepted d q e w in rw (effect_by d q a.0 (names_found q a.0 a.1.meant.named)) (effect_keeps a.0 a.1 x)

-- Rule 6.19: no request makes anything released but by a release of that very draft, not even what it creates.
pub only_released_lem : (d : Tables) → WellFormed d → (q : Request) → OnlyReleased d q (after d q)
only_released_lem d w q x h = (request_keeps d w q x).only h

-- Rules 6.2 and 6.19: no request deletes what is released, makes it a draft again or gives it another releaser.
pub released_stays : (d : Tables) → WellFormed d → (q : Request) → ReleasedStays d (after d q)
released_stays d w q x h = (request_keeps d w q x).stays h

-- What holds of every request on well-formed tables, and of tables that stay as they are, holds of words, whatever their number.
on_words : (P : Tables → Request → Tables → Type 0) → ((d : Tables) → WellFormed d → (q : Request) → P d q d)
    → ((d : Tables) → WellFormed d → (q : Request) → P d q (after d q))
    → (t q : List ℕ) → check t ≡ refusal.accepted → P (tables_of t) (request_of q) (tables_of (after_of t q))
on_words P still step t q e = go (sized t q) refl
  where
    good : WellFormed (tables_of t)
    good = ((check_agrees t).to ((agrees_eq (check t) refusal.accepted).from e)).1.0

    go : (b : Bool) → sized t q ≡ b → P (tables_of t) (request_of q) (tables_of (after_of t q))
    go true z = subst (P (tables_of t) (request_of q)) (sym (after_of_tables t q (is_true (sized t q) z))) (step (tables_of t) good (request_of q))
    go false z =
        subst (P (tables_of t) (request_of q)) (sym (ap tables_of (unsized t q (is_false (sized t q) z)).1)) (still (tables_of t) good (request_of q))

-- What holds of every step, goes on from step to step and holds where nothing happens, holds over a list of requests.
over_words : (P : Tables → Tables → Type 0) → ((d : Tables) → WellFormed d → P d d) → ((d e f : Tables) → P d e → P e f → P d f)
    → ((t q : List ℕ) → check t ≡ refusal.accepted → P (tables_of t) (tables_of (after_of t q)))
    → (t : List ℕ) (qs : List (List ℕ)) → check t ≡ refusal.accepted → P (tables_of t) (tables_of (after_words t qs))
unfolding after_words
over_words P still join step t [] e = still (tables_of t) ((check_agrees t).to ((agrees_eq (check t) refusal.accepted).from e)).1.0
over_words P still join step t (q ∷ qs) e = join (tables_of t) (tables_of (after_of t q)) (tables_of (after_words (after_of t q) qs)) (step t q e)
    (over_words P still join step (after_of t q) qs (check_kept t q e))

-- What is released in well-formed tables is there, in those same tables.
pub released_now : (d : Tables) → WellFormed d → ReleasedStays d d
released_now d w x h = record { there = released_there d w (request_of []) x h; released = h; releaser = refl }

-- Once released, still released one request later and so two.
pub released_joined : (d e f : Tables) → ReleasedStays d e → ReleasedStays e f → ReleasedStays d f
released_joined d e f a b x h =
    let c = b x (a x h).released in record { there = c.there; released = c.released; releaser = c.releaser ∙ (a x h).releaser }

-- Of words, in a state that the check accepts, and of requests of any length.
pub words_only_released : (t q : List ℕ) → check t ≡ refusal.accepted → OnlyReleased (tables_of t) (request_of q) (tables_of (after_of t q))
words_only_released = on_words OnlyReleased (λ d w q x h. inl h) only_released_lem

pub words_released_stay : (t q : List ℕ) → check t ≡ refusal.accepted → ReleasedStays (tables_of t) (tables_of (after_of t q))
words_released_stay = on_words (λ d q d'. ReleasedStays d d') (λ d w q. released_now d w) released_stays

pub words_users_stay : (t q : List ℕ) → check t ≡ refusal.accepted → SameUsers (tables_of t) (tables_of (after_of t q))
words_users_stay = on_words (λ d q d'. SameUsers d d') (λ d w q u. refl) users_stay

pub words_devices_stay : (t q : List ℕ) → check t ≡ refusal.accepted → SameDevices (tables_of t) (tables_of (after_of t q))
words_devices_stay = on_words (λ d q d'. SameDevices d d') (λ d w q x. Iff.rfl) devices_stay

-- Over any list of requests: once released, released for ever, with the same releaser.
pub released_forever : (t : List ℕ) (qs : List (List ℕ)) → check t ≡ refusal.accepted → ReleasedStays (tables_of t) (tables_of (after_words t qs))
released_forever = over_words ReleasedStays released_now released_joined words_released_stay

-- The users are those of the start.
pub users_forever : (t : List ℕ) (qs : List (List ℕ)) → check t ≡ refusal.accepted → SameUsers (tables_of t) (tables_of (after_words t qs))
users_forever = over_words SameUsers (λ d w u. refl) (λ d e f a b u. b u ∙ a u) words_users_stay

-- The devices are those of the start.
pub devices_forever : (t : List ℕ) (qs : List (List ℕ)) → check t ≡ refusal.accepted → SameDevices (tables_of t) (tables_of (after_words t qs))
devices_forever = over_words SameDevices (λ d w x. Iff.rfl) (λ d e f a b x. Iff.trans (b x) (a x)) words_devices_stay
