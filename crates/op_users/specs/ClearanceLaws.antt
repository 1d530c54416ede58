-- Rule 6.15: a clearance keeps the tables secure exactly where all that its user is shown is at most that.
use Rattle.std.specs.Prelude.{Bool, ◌≢◌, ◌≡◌, ◌≤◌, ℕ}
use Rattle.std.proofs.Math.Bool.{true}
use Rattle.std.proofs.Common.{◌∙◌, arith}
use Rattle.std.proofs.Math.Path.{refl, sym}
use Rattle.model.specs.Basics.TestLaws.{holds_true}
use Rattle.model.specs.Basics.Tests.{every}
use Rattle.model.specs.Effect.Words.{set_clearance}
use Rattle.model.specs.Level.{role_count, subset}
use Rattle.model.specs.State.Check.{secure_test}
use Rattle.model.specs.State.Secure.{Good}
use Rattle.model.specs.Tables.Words.{Tables, authorised, clearance, used_places, current, devices}
use Rattle.model.specs.Tables.Words.{user_count}
use Rattle.rows.specs.Rows.{place_at_most}
use Rattle.secure.specs.ReachLaws.{clearance_own, here, used}
use Rattle.secure.specs.SecureLaws.{user_off, user_on_lem}

module _ (d : Tables) (g : Good d) where
  module _ (u a : ℕ) (low : 1 ≤ u) (high : u ≤ user_count) where
    -- everybody's roles are authorised
    roles_kept : true ≡ subset role_count (d.user u current) (d.user u authorised)
    roles_kept = sym (holds_true (subset role_count (d.user u current) (d.user u authorised)) (g.1.roles u))

    -- a user who is on nothing may have any clearance
    pub clearance_off : (v : ℕ) → v ≡ devices d u → v ≡ 0 → true ≡ secure_test (set_clearance u a d)
    clearance_off v ve z = user_off (set_clearance u a d) u (d.user u current) (d.user u authorised) true refl refl roles_kept refl v ve
        (omega (arith, z)) ∙ sym (clearance_own d g u a low high)

    -- else all that the device v shows, n entities, is at most that
    pub clearance_on : (v n : ℕ) (b : Bool) → v ≡ devices d u → v ≢ 0 → n ≡ used_places d v → b ≡ every n (place_at_most d v a)
        → b ≡ secure_test (set_clearance u a d)
    unfolding place_at_most
    clearance_on v n b ve z ne be = user_on_lem (set_clearance u a d) u (d.user u current) (d.user u authorised) true refl refl roles_kept refl v ve
        (omega (arith, z)) b a (used_places d v) n (sym (here u a (d.user u clearance))) refl (ne ∙ used d g v) be ∙ sym (clearance_own d g u a low high)
