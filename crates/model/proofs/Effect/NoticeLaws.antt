-- A notice keeps tables well-formed and secure (rule 8.2).
use Rattle.std.specs.Prelude.{Bool, false, true, ◌≢◌, ◌≡◌, refl, ◌≤◌, ℕ, eqb, ltb}
use Rattle.std.proofs.Common.{inr, arith}
use Rattle.model.specs.Basics.Choice.{Below, Same, below, it, other, over, same, under}
use Rattle.model.specs.Effect.Notice.{notice, noticing}
use Rattle.model.specs.State.Secure.{Secure}
use Rattle.model.specs.State.WellFormed.{UserOk, WellFormed}
use Rattle.model.specs.Tables.EditLaws.{each}
use Rattle.model.specs.Tables.Edits.{written}
use Rattle.model.specs.Tables.Words.{Tables, first_noticed, held, last_noticed, missed, missed_most, operation_count, present}

module _ (d : Tables) (w : WellFormed d) (s : Secure d) (u r o : ℕ) (p : d.user u present ≢ 0) (hr : (first_noticed ≤ r) × (r ≤ last_noticed))
    (ho : o ≤ operation_count) where
  -- A notice goes on being one, whichever words it takes anew.
  notice_next : UserOk (d.user u) → UserOk (written (noticing u r o d) (d.user u))
  notice_next a = go (eqb (d.user u held) 0) (ltb (d.user u missed) missed_most) refl refl (same (d.user u held) 0) (below (d.user u missed) missed_most)
    where
      go : (x y : Bool) → eqb (d.user u held) 0 ≡ x → ltb (d.user u missed) missed_most ≡ y → Same (d.user u held) 0 x
          → Below (d.user u missed) missed_most y → UserOk (written (noticing u r o d) (d.user u))
      go true true e f (it q) (under l) = rw (e, f) (search (arith, inr))
      go true false e f (it q) (over l) = absurd (omega (arith, a.notice.none.0 q))
      go false true e f (other q) (under l) = rw (e, f) (search (arith, inr))
      go false false e f (other q) (over l) = rw (e, f) (search (arith, inr))

  pub notice_well_formed : WellFormed (notice u r o d)
  notice_well_formed = let n = each UserOk (noticing u r o d) u d.user w.users (notice_next (w.users u)) in search

  pub notice_secure : Secure (notice u r o d)
  notice_secure = search
