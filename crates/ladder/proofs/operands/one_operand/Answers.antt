use Rattle.std.proofs.Common.{arith, lit≤, sym, ◌∙◌}
use Rattle.reference.specs.WayLaws.{well_formed_ranged}
use Rattle.ladder.specs.NameLaws.{first_in, operation_in_lem}
use Rattle.ladder.specs.OperandLaws.{first_is, found_in, one_barred, one_fine, one_nowhere, one_shut}
use Rattle.request.specs.NameLaws.{names_some}
use Rattle.ladder.proofs.operands.one_operand.Goals as goal

pub first_names-requires : goal.first_names-requires
first_names-requires c = (
  c.requires.0.ready.request,
  (first_in _ _ _ _ c.requires.0 (lit≤ tt) 0
      c.requires.2).1,
)

pub resolve-requires : goal.resolve-requires
resolve-requires c = (
  c.requires.0.ready.whole,
  well_formed_ranged _ c.requires.0.ready.good.0,
  let z = first_in _ _ _ _ c.requires.0 (lit≤ tt) 0 c.requires.2 in rw
      c.first_names.ensures (names_some _ z.0 z.1),
)

pub returns-in_default-clause-answer : goal.returns-in_default-clause-answer
returns-in_default-clause-answer c =
    one_nowhere _ _ _ _ _ c.requires.0.user c.requires.1 c.clearance-l.ensures c.requires.2 _ c.first_names.ensures _
    c.resolve.ensures c.in_default.is

pub is_permitted-requires : goal.is_permitted-requires
is_permitted-requires c =
    let z = found_in _ _ _ c.in-At.e c.in-At.clear c.requires.0.ready.good.0
    (sym c.resolve.ensures ∙ c.in-At.is) in (
      (c.requires.0.ready.whole, z.0, z.1),
      (c.requires.0.ready.whole, c.requires.0.low, c.requires.0.high),
      omega
          (arith, operation_in_lem _ _ _ _ c.requires.0 (lit≤ tt) 0 c.requires.2, c.requires.1),
      lit≤ tt,
    )

pub returns-then-not-is_permitted-clause-answer : goal.returns-then-not-is_permitted-clause-answer
returns-then-not-is_permitted-clause-answer c =
    one_shut _ _ _ _ _ c.requires.0.user c.requires.1 c.clearance-l.ensures c.requires.2 _ c.first_names.ensures _ c.resolve.ensures
    c.in-At.e c.in-At.clear c.in-At.is _
    c.is_permitted.ensures c.if-not-is_permitted.true

pub returns-then-not-clear-clause-answer : goal.returns-then-not-clear-clause-answer
returns-then-not-clear-clause-answer c =
    one_barred _ _ _ _ _ c.requires.0.user c.requires.1 c.clearance-l.ensures c.requires.2 _ c.first_names.ensures _
    c.resolve.ensures c.in-At.e c.in-At.clear c.in-At.is _ c.is_permitted.ensures
    c.if-not-is_permitted.false c.if-not-clear.true

pub returns-clause-answer : goal.returns-clause-answer
returns-clause-answer c =
    (one_fine _ _ _ _ _ c.requires.0.user c.requires.1 c.clearance-l.ensures c.requires.2 _ c.first_names.ensures _ c.resolve.ensures
    c.in-At.e c.in-At.clear c.in-At.is _ c.is_permitted.ensures c.if-not-is_permitted.false
    c.if-not-clear.false).0

pub returns-clause-operand : goal.returns-clause-operand
returns-clause-operand c = first_is _ _ _ _ _ c.resolve.ensures c.in-At.e c.in-At.clear c.in-At.is c.first_names.ensures
