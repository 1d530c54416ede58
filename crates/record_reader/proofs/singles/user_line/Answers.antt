use Rattle.std.proofs.Common.{arith, ◌≡◌}
use Rattle.record_reader.specs.FieldLaws.{any_field}
use Rattle.record_reader.proofs.singles.user_line.Goals as goal

pub returns-in-1 : goal.returns-in-1
returns-in-1 c = rw c.in-1.is (any_field c.read_line.ensures)

pub returns-in-2 : goal.returns-in-2
returns-in-2 c = rw c.in-2.is (any_field c.read_line-in-2.ensures)

pub returns-in-3 : goal.returns-in-3
returns-in-3 c = rw c.in-3.is (any_field c.read_line-in-3.ensures)

pub returns-in-4 : goal.returns-in-4
returns-in-4 c = rw c.in-4.is (any_field c.read_line-in-4.ensures)

pub returns-in-5 : goal.returns-in-5
returns-in-5 c = rw c.in-5.is (any_field c.read_line-in-5.ensures)

pub returns-in-6 : goal.returns-in-6
returns-in-6 c = rw c.in-6.is (any_field c.read_line-in-6.ensures)

pub returns-in_default : goal.returns-in_default
returns-in_default c =
    let e : c.args.j ≡ 7 = omega arith in
    rw e (any_field c.read_line-in_default.ensures)
