-- Climbing the ladder: a rung that does not apply is passed, the first that applies is the answer, and past the last the request is
-- accepted.
use Rattle.std.specs.Prelude.{Bool, ◌≡◌, eqb, ltb, length}
use Rattle.std.proofs.Math.Bool.{false, true}
use mathlib.Core.List.{List, [], ◌∷◌}
use Rattle.std.proofs.Common.{◌∙◌, ap, arith}
use Rattle.std.proofs.Math.Path.{refl}
use Prim.Native.Nat.{◌≤◌, suc, zero, ℕ}
use Rattle.ladder.specs.Contract.{Passed}
use Rattle.model.specs.Basics.Choice.{Below, Same, below, it, other, over, same, under}
use Rattle.model.specs.Basics.Fails.{fails_no}
use Rattle.model.specs.Request.Ladder.{Rung, answer, applies, ladder, never, not_secure, not_well_formed, rung_at}
use Rattle.model.specs.Request.LadderLaws.{answer_is, answer_unique}
use Rattle.model.proofs.Request.RungLaws.{not_secure_fails, not_well_formed_fails}
use Rattle.model.specs.Request.Refusals as refusal
use Rattle.model.specs.Request.Words.{Request}
use Rattle.model.specs.State.Agree.{well_formed_bounded}
use Rattle.model.specs.State.Secure.{Good}
use Rattle.model.specs.Tables.Words.{Tables}

module _ (d : Tables) (q : Request) where
  -- one rung more is passed
  pub passed_more : (n : ℕ) → Passed n d q → applies (suc n) d q ≡ false → Passed (suc n) d q
  passed_more n p e k h = go (eqb k (suc n)) (same k (suc n))
    where
      go : (b : Bool) → Same k (suc n) b → applies k d q ≡ false
      go true (it z) = ap (λ (m : ℕ). applies m d q) z ∙ e
      go false (other z) = p k (omega arith)

  -- the next rung applies: it is the answer
  pub passed_hit : (n : ℕ) → Passed n d q → applies (suc n) d q ≡ true → suc n ≡ answer d q
  passed_hit n p e = answer_unique d q (suc n) (answer d q)
      (record { below = λ k h. p k (omega arith); applied = λ z. e; accepted = λ z. absurd (omega arith) }) (answer_is d q)

  -- there is no rung past the last
  beyond : (k : ℕ) (rs : List Rung) → length rs ≤ k → rung_at k rs d q ≡ false
  unfolding rung_at never
  beyond k [] h = refl
  beyond zero (r ∷ rs) h = absurd (omega arith)
  beyond (suc k) (r ∷ rs) h = beyond k rs (omega arith)

  -- all rungs are passed: the request is accepted
  pub passed_all : Passed refusal.not_acknowledged d q → refusal.accepted ≡ answer d q
  unfolding applies ladder
  passed_all p = answer_unique d q 0 (answer d q) (record {
    below = λ k h. absurd (omega arith);
    applied = λ z. absurd
        (z refl);
    accepted = λ z. all;
  }) (answer_is d q)
    where
      all : (n : ℕ) → applies n d q ≡ false
      all n = go (ltb n (suc refusal.not_acknowledged)) (below n (suc refusal.not_acknowledged))
        where
          go : (b : Bool) → Below n (suc refusal.not_acknowledged) b → applies n d q ≡ false
          go true (under h) = p n (omega arith)
          go false (over h) = beyond n (never ∷ never ∷ ladder) h

  -- a lower goal on the ladder
  pub passed_lower : (m n : ℕ) → m ≤ n → Passed n d q → Passed m d q
  passed_lower m n h p k l = p k (omega arith)

  -- Rules 7.2 and 7.3: good tables pass the first rungs.
  pub good_passed : Good d → Passed refusal.not_secure d q
  unfolding applies rung_at never ladder
  good_passed g zero h = refl
  good_passed g (suc zero) h = refl
  good_passed g (suc (suc zero)) h = fails_no (not_well_formed d q) (not_well_formed_fails d q (well_formed_bounded d g.0)) g.0
  good_passed g (suc (suc (suc zero))) h = fails_no (not_secure d q) (not_secure_fails d q g.0) g.1
  good_passed g (suc (suc (suc (suc k)))) h = absurd (omega arith)
