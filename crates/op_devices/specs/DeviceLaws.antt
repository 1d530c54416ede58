-- The requester and the device that it is on; requests to clear and to log out.
use Rattle.std.specs.Prelude.{Bool, ◌&&◌, List, ◌≢◌, ◌≡◌, refl, ℕ}
use Rattle.std.proofs.Math.Bool.{false, not}
use Rattle.std.proofs.Common.{◌∙◌, ap, arith}
use Rattle.std.proofs.Math.Path.{sym}
use Rattle.std.proofs.Math.Dec.{eqb}
use borrow.Author.Tests.{eqb-false}
use Rattle.ladder.specs.Contract.{Judged, Taking}
use Rattle.ladder.specs.JudgeLaws.{accepted, free, kinds_none, skip, user_is_lem}
use Rattle.model.specs.Basics.Tests.{every}
use Rattle.model.specs.Effect.Screens.{clear}
use Rattle.model.specs.Request.Ladder.{applies, ladder, never, not_logged_on, rung_at}
use Rattle.model.specs.Request.LadderLaws.{of_op_some}
use Rattle.model.specs.Request.Operations.{Op, open_logged_off, to_clear, to_logout}
use Rattle.model.specs.Request.Words.{request_of}
use Rattle.model.specs.State.Agree.{device_range}
use Rattle.model.specs.Tables.Edits.{on_user, user_word}
use Rattle.model.specs.Tables.Layout.{tables_of}
use Rattle.model.specs.Tables.Words.{Tables, current, device, devices}
use Rattle.op_devices.specs.WipeLaws.{off_stores}
use Rattle.tables.specs.Singles.{EntityIn}
use Rattle.model.specs.Request.Refusals as refusal

module _ (o : Op) (t q : List ℕ) (u : ℕ) (k : Taking o t q u) where
  -- Rule 7.6: the requester of an operation that wants a device is on one
  pub on_device_lem : open_logged_off o ≡ false → devices (tables_of t) u ≢ 0
  unfolding applies rung_at never ladder not_logged_on
  on_device_lem wants = eqb-false (devices (tables_of t) u) 0 test
    where
      asks : (not (open_logged_off o) && eqb (devices (tables_of t) (request_of q).user) 0) ≡ false
      asks = sym (of_op_some (request_of q) o k.named (λ p. not (open_logged_off p) && eqb (devices (tables_of t) (request_of q).user) 0))
          ∙ k.climbed.passed refusal.not_logged_on (omega arith)

      test : eqb (devices (tables_of t) u) 0 ≡ false
      test = ap (λ (x : ℕ). eqb (devices (tables_of t) x) 0) (sym k.climbed.user)
          ∙ ap (λ (b : Bool). not b && eqb (devices (tables_of t) (request_of q).user) 0) (sym wants) ∙ asks

  -- and its number is one of the sixty-four
  pub device_in : open_logged_off o ≡ false → (v : ℕ) → v ≡ devices (tables_of t) u → EntityIn t v
  device_in wants v h =
      let n = device_range (tables_of t) k.climbed.ready.good.0 u (on_device_lem wants) in
      rw h (k.climbed.ready.whole, n.0, n.1)

module _ (t q : List ℕ) (u v : ℕ) (n : List ℕ) where
  -- Rule 6.11.
  pub clear_done : Taking to_clear t q u → v ≡ devices (tables_of t) u → tables_of n ≡ clear v (tables_of t) → Judged t q refusal.accepted n
  unfolding every free
  clear_done k h e = accepted k n (skip k 6 refusal.wrong_kind (omega arith) (omega arith) (kinds_none k refl) tt)
      (e ∙ rw (h, user_is_lem k))

  -- Rule 6.13.
  pub logout_done : Taking to_logout t q u → v ≡ devices (tables_of t) u → (a b : Tables) → a ≡ clear v (tables_of t) → b ≡ on_user u (user_word device 0) a
      → tables_of n ≡ on_user u (user_word current 0) b → Judged t q refusal.accepted n
  unfolding every free
  logout_done k h a b x y e = accepted k n (skip k 6 refusal.wrong_kind (omega arith) (omega arith) (kinds_none k refl) tt)
      (e ∙ rw (y, off_stores a u, x, h, user_is_lem k))
