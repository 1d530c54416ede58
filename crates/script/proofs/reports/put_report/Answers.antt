use Rattle.std.proofs.Common.{rules}
use Rattle.lines.specs.OntoLaws.{puts}
use Rattle.model.proofs.Script.ReportLaws.{report_length}
use Rattle.script.specs.Reported.{from_code}
use Rattle.script.proofs.reports.put_report.Goals as goal

pub overflow_add-result : goal.overflow_add-result
overflow_add-result c = let l = report_length (from_code c.args.r) in search rules

pub returns : goal.returns
returns c = puts c.write_report-n.ensures
