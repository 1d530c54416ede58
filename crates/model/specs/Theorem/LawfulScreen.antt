-- Rule 9.8: the screen that a requester has after an accepted request shows, before it, nothing that the requester's screen did not show:
-- it is the same device, or one that was idle, or none.
use Rattle.std.specs.Prelude.{◌≢◌, ℕ, eqb}
use Rattle.std.proofs.Common.{arith}
use Rattle.model.specs.Basics.Choice.{pick}
use Rattle.model.specs.Request.Allowed.{Accepted}
use Rattle.model.specs.Request.Asked.{asked}
use Rattle.model.specs.Request.Conditions.{free}
use Rattle.model.specs.Request.Operations.{Op, row_of, to_acknowledge, to_authorised, to_clear, to_clearance, to_copy, to_create, to_current}
use Rattle.model.specs.Request.Operations.{to_delete, to_device_level, to_edit, to_grant, to_level, to_login, to_logout, to_mark, to_maximum}
use Rattle.model.specs.Request.Operations.{to_move, to_release, to_revoke, to_show}
use Rattle.model.specs.Request.Words.{Request}
use Rattle.model.specs.State.WellFormed.{WellFormed}
use Rattle.model.specs.Tables.EditLaws.{case}
use Rattle.model.specs.Tables.Kinds.{Terminal}
use Rattle.model.specs.Tables.Words.{Tables, devices, kinds}
use Rattle.model.specs.Theorem.Definitions.{ShowsId}

module _ (d : Tables) (w : WellFormed d) (u x : ℕ) where
  -- an idle device shows nothing
  idle_shows : (v : ℕ) → Terminal (kinds d v) → ((y : ℕ) → devices d y ≢ v) → ShowsId d v x → ⊥
  idle_shows v k free h = omega (arith, h.1.1, w.links.idle v k free)

  -- there is no device 0
  none_shows : ShowsId d 0 x → ⊥
  none_shows h = omega (arith, w.entity_numbers 0 (λ z. omega (arith, h.0)))

  -- the device of u, where it was set to v
  device_set : (v : ℕ) → (ShowsId d v x → ⊥) → ShowsId d (pick (eqb u u) v (devices d u)) x → ShowsId d (devices d u) x
  device_set v f = case (λ (y : ℕ). ShowsId d y x → ShowsId d (devices d u) x) u u v (devices d u) (λ q h. absurd (f h)) (λ q h. h)

pub screen_kept : (o : Op) (d : Tables) → WellFormed d → (q : Request) → Accepted o d q → (x : ℕ)
    → ShowsId d (devices ((row_of o).effect (asked d q) d) q.user) x → ShowsId d (devices d q.user) x
unfolding asked
screen_kept to_create d w q a x h = h
screen_kept to_delete d w q a x h = h
screen_kept to_move d w q a x h = h
screen_kept to_edit d w q a x h = h
screen_kept to_copy d w q a x h = h
screen_kept to_level d w q a x h = h
screen_kept to_mark d w q a x h = h
screen_kept to_grant d w q a x h = h
screen_kept to_revoke d w q a x h = h
screen_kept to_show d w q a x h = h
screen_kept to_clear d w q a x h = h
screen_kept to_login d w q a x h =
    device_set d w q.user x (asked d q).first (idle_shows d w q.user x (asked d q).first a.allowed.terminal a.allowed.free) h
screen_kept to_logout d w q a x h = device_set d w q.user x 0 (none_shows d w q.user x) h
screen_kept to_current d w q a x h = h
screen_kept to_clearance d w q a x h = h
screen_kept to_authorised d w q a x h = h
screen_kept to_maximum d w q a x h = h
screen_kept to_device_level d w q a x h = h
screen_kept to_release d w q a x h = h
screen_kept to_acknowledge d w q a x h = h
