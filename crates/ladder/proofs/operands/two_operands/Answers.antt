use Rattle.std.proofs.Common.{arith, lit≤, sym, ◌∙◌}
use Rattle.reference.specs.WayLaws.{well_formed_ranged}
use Rattle.ladder.specs.NameLaws.{first_in, operation_in_lem, second_in}
use Rattle.ladder.specs.OperandLaws.{first_is, found_in, second_is, two_barred, two_fine, two_nowhere, two_nowhere₂, two_shut, two_shut₂}
use Rattle.request.specs.NameLaws.{names_some}
use Rattle.ladder.proofs.operands.two_operands.Goals as goal

pub first_names-requires : goal.first_names-requires
first_names-requires c = (
  c.requires.0.ready.request,
  (first_in _ _ _ _ c.requires.0 (lit≤ tt) 1
      c.requires.2).1,
)

pub resolve-requires : goal.resolve-requires
resolve-requires c = (
  c.requires.0.ready.whole,
  well_formed_ranged _ c.requires.0.ready.good.0,
  let z = first_in _ _ _ _ c.requires.0 (lit≤ tt) 1 c.requires.2 in rw
      c.first_names.ensures (names_some _ z.0 z.1),
)

pub returns-in_default-clause-answer : goal.returns-in_default-clause-answer
returns-in_default-clause-answer c =
    two_nowhere _ _ _ _ _ c.requires.0.user c.requires.1 c.clearance-l.ensures c.requires.2 _ c.first_names.ensures _
    c.resolve.ensures c.in_default.is

pub second_names-requires : goal.second_names-requires
second_names-requires c =
    (c.requires.0.ready.request, (second_in _ _ _ _ c.requires.0 (lit≤ tt) 0 c.requires.2).1)

pub resolve-requires-2 : goal.resolve-requires-2
resolve-requires-2 c = (
  c.requires.0.ready.whole,
  well_formed_ranged _ c.requires.0.ready.good.0,
  let z = second_in _ _ _ _ c.requires.0 (lit≤ tt) 0 c.requires.2 in rw
      c.second_names.ensures (names_some _ z.0 z.1),
)

pub returns-in_default-resolve-clause-answer : goal.returns-in_default-resolve-clause-answer
returns-in_default-resolve-clause-answer c =
    two_nowhere₂ _ _ _ _ _ c.requires.0.user c.requires.1 c.clearance-l.ensures c.requires.2 _ c.first_names.ensures _
    c.resolve.ensures c.in-At.e c.in-At.clear c.in-At.is _ c.second_names.ensures _
    c.resolve-2.ensures c.in_default-resolve.is

pub is_permitted-requires : goal.is_permitted-requires
is_permitted-requires c =
    let z = found_in _ _ _ c.in-At.e c.in-At.clear c.requires.0.ready.good.0
    (sym c.resolve.ensures ∙ c.in-At.is) in (
      (c.requires.0.ready.whole, z.0, z.1),
      (c.requires.0.ready.whole, c.requires.0.low, c.requires.0.high),
      omega
          (arith, operation_in_lem _ _ _ _ c.requires.0 (lit≤ tt) 1 c.requires.2, c.requires.1),
      lit≤ tt,
    )

pub returns-then-not-is_permitted-clause-answer : goal.returns-then-not-is_permitted-clause-answer
returns-then-not-is_permitted-clause-answer c =
    two_shut _ _ _ _ _ c.requires.0.user c.requires.1 c.clearance-l.ensures c.requires.2 _ c.first_names.ensures _
    c.resolve.ensures c.in-At.e c.in-At.clear c.in-At.is _ c.second_names.ensures _ c.resolve-2.ensures
    c.in-At-resolve.c c.in-At-resolve.free c.in-At-resolve.is _
    c.is_permitted.ensures c.if-not-is_permitted.true

pub is_permitted-requires-2 : goal.is_permitted-requires-2
is_permitted-requires-2 c =
    let z = found_in _ _ _ c.in-At-resolve.c c.in-At-resolve.free c.requires.0.ready.good.0
    (sym c.resolve-2.ensures ∙ c.in-At-resolve.is) in (
      (c.requires.0.ready.whole, z.0, z.1),
      (c.requires.0.ready.whole, c.requires.0.low, c.requires.0.high),
      omega
          (arith, operation_in_lem _ _ _ _ c.requires.0 (lit≤ tt) 1 c.requires.2, c.requires.1),
      lit≤ tt,
    )

pub returns-then-not-is_permitted-2-clause-answer : goal.returns-then-not-is_permitted-2-clause-answer
returns-then-not-is_permitted-2-clause-answer c =
    two_shut₂ _ _ _ _ _ c.requires.0.user c.requires.1 c.clearance-l.ensures c.requires.2 _ c.first_names.ensures _
    c.resolve.ensures c.in-At.e c.in-At.clear c.in-At.is _ c.second_names.ensures _ c.resolve-2.ensures
    c.in-At-resolve.c c.in-At-resolve.free c.in-At-resolve.is _ c.is_permitted.ensures
    c.if-not-is_permitted.false _ c.is_permitted-2.ensures c.if-not-is_permitted-2.true

pub returns-then-not-clear-free-clause-answer : goal.returns-then-not-clear-free-clause-answer
returns-then-not-clear-free-clause-answer c =
    two_barred _ _ _ _ _ c.requires.0.user c.requires.1 c.clearance-l.ensures c.requires.2 _ c.first_names.ensures _
    c.resolve.ensures c.in-At.e c.in-At.clear c.in-At.is _ c.second_names.ensures _ c.resolve-2.ensures
    c.in-At-resolve.c c.in-At-resolve.free c.in-At-resolve.is _ c.is_permitted.ensures c.if-not-is_permitted.false
    _ c.is_permitted-2.ensures c.if-not-is_permitted-2.false c.if-not-clear-free.true

pub returns-clause-answer : goal.returns-clause-answer
returns-clause-answer c =
    (two_fine _ _ _ _ _ c.requires.0.user c.requires.1 c.clearance-l.ensures c.requires.2 _ c.first_names.ensures _
    c.resolve.ensures c.in-At.e c.in-At.clear c.in-At.is _ c.second_names.ensures _ c.resolve-2.ensures
    c.in-At-resolve.c c.in-At-resolve.free c.in-At-resolve.is _ c.is_permitted.ensures c.if-not-is_permitted.false
    _ c.is_permitted-2.ensures c.if-not-is_permitted-2.false c.if-not-clear-free.false).0

pub returns-clause-first : goal.returns-clause-first
returns-clause-first c = first_is _ _ _ _ _ c.resolve.ensures c.in-At.e c.in-At.clear c.in-At.is c.first_names.ensures

pub returns-clause-second : goal.returns-clause-second
returns-clause-second c =
    second_is _ _ _ _ _ c.resolve-2.ensures c.in-At-resolve.c c.in-At-resolve.free c.in-At-resolve.is
    c.second_names.ensures
