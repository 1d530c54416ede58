use Rattle.std.proofs.Common.{◌+◌, ◌≤◌, arith, min, ◌∙◌}
use Rattle.disclosure.specs.TallyLaws.{inside_few, inside_first, inside_none, places_all, tally_place}
use Rattle.verdicts.specs.VerdictLaws.{guided_held}
use Rattle.verdicts.specs.Verdicts.{leads}
use Rattle.disclosure.proofs.tally.tally_places.Goals as goal
use Rattle.disclosure.proofs.tally.tally_places.Goals.{Else-v-e-eq0}

-- where some place leads on
lead : (c : Else-v-e-eq0) → 1 ≤ leads c.args.v.now c.args.e.0
unfolding leads
lead c = omega arith

pub returns-then-v-e-eq0 : goal.returns-then-v-e-eq0
unfolding leads
returns-then-v-e-eq0 c =
    inside_none c.args.t.now c.args.v.now c.args.k c.args.e.0 c.if-v-e-eq0.true

pub loop-p-init : goal.loop-p-init
loop-p-init c =
    (omega arith, inside_first c.args.t.now c.args.v.now c.args.k c.args.e.0)

pub place-c-requires : goal.place-c-requires
place-c-requires c =
    ((c.requires.0.whole, c.requires.3, c.requires.4), c.loop-p-test.true)

pub overflow_add-s : goal.overflow_add-s
overflow_add-s c =
    omega (
      arith,
      c.requires.2,
      guided_held c.args.t.now c.args.v.now c.requires.0 c.args.e.0
          (lead (goal.at.overflow_add-s c).Else-v-e-eq0) _ _ c.place-c.ensures,
    )

pub offset_bounds-b-k : goal.offset_bounds-b-k
offset_bounds-b-k c =
    omega (
      arith,
      c.requires.2,
      guided_held c.args.t.now c.args.v.now c.requires.0 c.args.e.0
          (lead (goal.at.offset_bounds-b-k c).Else-v-e-eq0) _ _ c.place-c.ensures,
    )

pub bounds-b-k : goal.bounds-b-k
bounds-b-k c =
    omega (
      arith,
      c.requires.2,
      guided_held c.args.t.now c.args.v.now c.requires.0 c.args.e.0
          (lead (goal.at.bounds-b-k c).Else-v-e-eq0) _ _ c.place-c.ensures,
    )

pub overflow_add-s-in-loop-p : goal.overflow_add-s-in-loop-p
overflow_add-s-in-loop-p c =
    omega (
      arith,
      tally_place c.args.t.now c.args.v.now c.args.b.now _ c.requires.1 c.requires.0 c.args.k
          c.args.e.0 c.loop-p.p _ _ (lead (goal.at.overflow_add-s-in-loop-p c).Else-v-e-eq0)
          (omega arith) c.place-c.ensures c.loop-p.invariant.1,
      inside_few c.args.t.now c.args.v.now c.requires.0
          c.args.k c.args.e.0 (min (c.loop-p.p + 1) (leads c.args.v.now c.args.e.0)) c.requires.2 (omega arith),
    )

pub loop-p-preserved : goal.loop-p-preserved
loop-p-preserved c = (
  omega (arith, c.loop-p-test.true),
  tally_place c.args.t.now c.args.v.now c.args.b.now _
      c.requires.1 c.requires.0 c.args.k c.args.e.0 c.loop-p.p _ _
      (lead (goal.at.loop-p-preserved c).Else-v-e-eq0) (omega arith)
      c.place-c.ensures c.loop-p.invariant.1,
)

pub returns : goal.returns
returns c =
    c.loop-p.invariant.1 ∙ places_all c.args.t.now c.args.v.now c.requires.0 c.args.k c.args.e.0 _
    (omega (arith, c.loop-p-test.false))
