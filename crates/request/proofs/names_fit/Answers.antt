use Rattle.std.proofs.Common.{◌+◌, ◌≡◌, ◌≤◌, List, get_or, ℕ}
use Rattle.model.specs.Request.Ladder.{names_fit}
use Rattle.model.specs.Request.Words.{reference_at}
use Rattle.request.specs.FitLaws.{before, fit_first, fit_names, fit_other, fit_start, fit_zero}
use Rattle.request.proofs.names_fit.Goals as goal

-- the last word is zero, or the last two or three, and those before are left
module _ (q : List ℕ) (k : ℕ) (h3 : get_or q k 0 ≤ 3) (z3 : get_or q (k + 4) 0 ≡ 0) where
  three : names_fit (reference_at q k) ≡ before q k 3
  three = fit_zero q k 3 h3 z3 (fit_start q k)

  module _ (h2 : get_or q k 0 ≤ 2) (z2 : get_or q (k + 3) 0 ≡ 0) where
    two : names_fit (reference_at q k) ≡ before q k 2
    two = fit_zero q k 2 h2 z2 three

    one : get_or q k 0 ≤ 1 → get_or q (k + 2) 0 ≡ 0 → names_fit (reference_at q k) ≡ before q k 1
    one h1 z1 = fit_zero q k 1 h1 z1 two

pub returns-then-n-gt-THREE : goal.returns-then-n-gt-THREE
returns-then-n-gt-THREE c =
    fit_names c.args.q.now c.args.k 4 c.if-n-gt-THREE.true
    (fit_start c.args.q.now c.args.k)

pub returns-then-q-k-ne0 : goal.returns-then-q-k-ne0
returns-then-q-k-ne0 c =
    fit_other c.args.q.now c.args.k 3 c.if-n-gt-THREE.false c.if-q-k-ne0.true (fit_start c.args.q.now c.args.k)

pub returns-then-n-gt-TWO : goal.returns-then-n-gt-TWO
returns-then-n-gt-TWO c =
    fit_names c.args.q.now c.args.k 3 c.if-n-gt-TWO.true (three _ _ c.if-n-gt-THREE.false c.if-q-k-ne0.false)

pub returns-then-q-k-ne0-2 : goal.returns-then-q-k-ne0-2
returns-then-q-k-ne0-2 c =
    fit_other c.args.q.now c.args.k 2 c.if-n-gt-TWO.false c.if-q-k-ne0-2.true (three _ _ c.if-n-gt-THREE.false c.if-q-k-ne0.false)

pub returns-then-n-gt1 : goal.returns-then-n-gt1
returns-then-n-gt1 c =
    fit_names c.args.q.now c.args.k 2 c.if-n-gt1.true (two _ _ c.if-n-gt-THREE.false c.if-q-k-ne0.false c.if-n-gt-TWO.false c.if-q-k-ne0-2.false)

pub returns-then-q-k-ne0-3 : goal.returns-then-q-k-ne0-3
returns-then-q-k-ne0-3 c =
    fit_other c.args.q.now c.args.k 1 c.if-n-gt1.false c.if-q-k-ne0-3.true
    (two _ _ c.if-n-gt-THREE.false c.if-q-k-ne0.false c.if-n-gt-TWO.false c.if-q-k-ne0-2.false)

pub returns-then-n-gt0 : goal.returns-then-n-gt0
returns-then-n-gt0 c =
    fit_names c.args.q.now c.args.k 1 c.if-n-gt0.true (one _ _ c.if-n-gt-THREE.false c.if-q-k-ne0.false c.if-n-gt-TWO.false c.if-q-k-ne0-2.false
    c.if-n-gt1.false c.if-q-k-ne0-3.false)

pub returns : goal.returns
returns c =
    fit_first c.args.q.now c.args.k c.if-n-gt0.false (one _ _ c.if-n-gt-THREE.false c.if-q-k-ne0.false c.if-n-gt-TWO.false c.if-q-k-ne0-2.false
    c.if-n-gt1.false c.if-q-k-ne0-3.false)
