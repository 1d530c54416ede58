use Rattle.std.proofs.Common.{arith}
use Rattle.lines.specs.OntoLaws.{puts_room, wrote_puts}
use Rattle.script.specs.ReportLaws.{held_line, missed_line, report_lines, report_room}
use Rattle.script.proofs.reports.write_report.Goals as goal

pub write_line-a-requires : goal.write_line-a-requires
write_line-a-requires c =
    let x = report_room c.args.r c.requires in
    omega (arith, x.0)

pub put_line-h-requires : goal.put_line-h-requires
put_line-h-requires c =
    puts_room (held_line c.args.r) c.write_line-a.ensures (report_room c.args.r c.requires).0

pub put_line-requires : goal.put_line-requires
put_line-requires c =
    puts_room (missed_line c.args.r) (wrote_puts c.write_line-a.ensures c.put_line-h.ensures) (report_room c.args.r c.requires).1

pub returns : goal.returns
returns c =
    rw (← report_lines c.args.r) (wrote_puts (wrote_puts c.write_line-a.ensures c.put_line-h.ensures) c.put_line.ensures)
