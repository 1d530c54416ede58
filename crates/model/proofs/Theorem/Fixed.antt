-- What no accepted operation changes: who the users are, which entities are devices, and, but for acknowledge, the notices.
use mathlib.Core.Logic.Iff as Iff
use Rattle.std.specs.Prelude.{◌↔◌, ◌≢◌, ◌≡◌, refl, ℕ}
use Rattle.std.proofs.Common.{ap, arith}
use Rattle.model.specs.Effect.Places.{sort_kind, vacant}
use Rattle.model.proofs.Effect.PlacesLaws.{sort_kind_lem, vacant_absent}
use Rattle.model.specs.Request.Allowed.{Allowed}
use Rattle.model.specs.Request.Asked.{Asked}
use Rattle.model.specs.Request.Operations.{Op, row_of, to_acknowledge, to_authorised, to_clear, to_clearance, to_copy, to_create, to_current}
use Rattle.model.specs.Request.Operations.{to_delete, to_device_level, to_edit, to_grant, to_level, to_login, to_logout, to_mark, to_maximum}
use Rattle.model.specs.Request.Operations.{to_move, to_release, to_revoke, to_show}
use Rattle.model.specs.State.WellFormed.{WellFormed}
use Rattle.model.specs.Tables.EditLaws.{case}
use Rattle.model.specs.Tables.Words.{Tables, device_kind, kinds, present}
use Rattle.model.specs.Theorem.Statements.{SameNotice}

-- Every user that was there is there, and no other (rule 8.4).
pub users_fixed : (o : Op) (d : Tables) → WellFormed d → (s : Asked) → Allowed o s d → (u : ℕ)
    → ((row_of o).effect s d).user u present ≡ d.user u present
users_fixed to_create d w s a u = refl
users_fixed to_delete d w s a u = refl
users_fixed to_move d w s a u = refl
users_fixed to_edit d w s a u = refl
users_fixed to_copy d w s a u = refl
users_fixed to_level d w s a u = refl
users_fixed to_mark d w s a u = refl
users_fixed to_grant d w s a u = refl
users_fixed to_revoke d w s a u = refl
users_fixed to_show d w s a u = refl
users_fixed to_clear d w s a u = refl
users_fixed to_login d w s a u = refl
users_fixed to_logout d w s a u = refl
users_fixed to_current d w s a u = refl
users_fixed to_clearance d w s a u = refl
users_fixed to_authorised d w s a u = refl
users_fixed to_maximum d w s a u = refl
users_fixed to_device_level d w s a u = refl
users_fixed to_release d w s a u = refl
users_fixed to_acknowledge d w s a u = refl

-- Every device stays a device, and nothing else becomes one (rule 8.4).
pub devices_fixed : (o : Op) (d : Tables) → WellFormed d → (s : Asked) → Allowed o s d → (x : ℕ)
    → (kinds ((row_of o).effect s d) x ≡ device_kind) ↔ (kinds d x ≡ device_kind)
devices_fixed to_create d w s a x = case (λ (k : ℕ). (k ≡ device_kind) ↔ (kinds d x ≡ device_kind)) x (vacant d) (sort_kind s.a) (kinds d x)
    (λ q. (λ h. absurd (omega (arith, h, sort_kind_lem s.a)), λ h. absurd (omega (arith, h, ap (kinds d) q, vacant_absent d a.number))))
    (λ q. Iff.rfl)
devices_fixed to_delete d w s a x = case (λ (k : ℕ). (k ≡ device_kind) ↔ (kinds d x ≡ device_kind)) x s.first 0 (kinds d x)
    (λ q. (λ h. absurd (omega (arith, h)), λ h. absurd (omega (arith, h, ap (kinds d) q, a.thing))))
    (λ q. Iff.rfl)
devices_fixed to_move d w s a x = Iff.rfl
devices_fixed to_edit d w s a x = Iff.rfl
devices_fixed to_copy d w s a x = Iff.rfl
devices_fixed to_level d w s a x = Iff.rfl
devices_fixed to_mark d w s a x = Iff.rfl
devices_fixed to_grant d w s a x = Iff.rfl
devices_fixed to_revoke d w s a x = Iff.rfl
devices_fixed to_show d w s a x = Iff.rfl
devices_fixed to_clear d w s a x = Iff.rfl
devices_fixed to_login d w s a x = Iff.rfl
devices_fixed to_logout d w s a x = Iff.rfl
devices_fixed to_current d w s a x = Iff.rfl
devices_fixed to_clearance d w s a x = Iff.rfl
devices_fixed to_authorised d w s a x = Iff.rfl
devices_fixed to_maximum d w s a x = Iff.rfl
devices_fixed to_device_level d w s a x = Iff.rfl
devices_fixed to_release d w s a x = Iff.rfl
devices_fixed to_acknowledge d w s a x = Iff.rfl

-- Rule 8.3: every operation but acknowledge leaves the notice of every user.
pub notices_left : (o : Op) (d : Tables) → WellFormed d → (s : Asked) → Allowed o s d → o ≢ to_acknowledge → (u : ℕ)
    → SameNotice d ((row_of o).effect s d) u
notices_left to_create d w s a n u = (refl, refl, refl)
notices_left to_delete d w s a n u = (refl, refl, refl)
notices_left to_move d w s a n u = (refl, refl, refl)
notices_left to_edit d w s a n u = (refl, refl, refl)
notices_left to_copy d w s a n u = (refl, refl, refl)
notices_left to_level d w s a n u = (refl, refl, refl)
notices_left to_mark d w s a n u = (refl, refl, refl)
notices_left to_grant d w s a n u = (refl, refl, refl)
notices_left to_revoke d w s a n u = (refl, refl, refl)
notices_left to_show d w s a n u = (refl, refl, refl)
notices_left to_clear d w s a n u = (refl, refl, refl)
notices_left to_login d w s a n u = (refl, refl, refl)
notices_left to_logout d w s a n u = (refl, refl, refl)
notices_left to_current d w s a n u = (refl, refl, refl)
notices_left to_clearance d w s a n u = (refl, refl, refl)
notices_left to_authorised d w s a n u = (refl, refl, refl)
notices_left to_maximum d w s a n u = (refl, refl, refl)
notices_left to_device_level d w s a n u = (refl, refl, refl)
notices_left to_release d w s a n u = (refl, refl, refl)
notices_left to_acknowledge d w s a n u = absurd (n refl)
