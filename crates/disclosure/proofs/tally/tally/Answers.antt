use Rattle.std.proofs.Common.{◌*◌, ◌+◌, ◌-◌, arith, ◌∙◌}
use Rattle.disclosure.specs.Tallied.{row_words}
use Rattle.disclosure.specs.TallyLaws.{tallied_less, tally_last, tally_more, under_few}
use Rattle.verdicts.specs.Verdicts.{listed}
use Rattle.disclosure.proofs.tally.tally.Goals as goal

pub returns-then-k-eq0 : goal.returns-then-k-eq0
unfolding listed
returns-then-k-eq0 c = c.from-shown.ensures ∙ tally_last c.args.t.now c.args.v.now c.args.k c.args.e.0 c.if-k-eq0.true

pub tally_places-requires : goal.tally_places-requires
tally_places-requires c = (
  c.requires.0,
  tallied_less c.args.t.now c.args.v.now c.args.b.now ((c.args.k - 1 + 1) * row_words) _
      (omega (arith, c.if-k-eq0.false)) c.requires.1,
  omega (arith, c.requires.2),
  c.requires.3,
  c.requires.4,
)

pub overflow_add-result : goal.overflow_add-result
unfolding listed
overflow_add-result c =
    omega (
      arith,
      c.from-shown.ensures,
      tally_more c.args.t.now c.args.v.now c.args.k c.args.e.0 _ c.if-k-eq0.false
          c.tally_places.ensures,
      under_few c.args.t.now c.args.v.now c.requires.0 c.args.k c.args.e.0 c.requires.2,
    )

pub returns : goal.returns
unfolding listed
returns c =
    rw c.from-shown.ensures (tally_more c.args.t.now c.args.v.now c.args.k c.args.e.0 _ c.if-k-eq0.false c.tally_places.ensures)
