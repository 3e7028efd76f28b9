-- `stream::end_line` meets its contract: the report stands at its place, put back with the part that was lent. Assumes nothing.
use Rattle.report.specs.Report.{line_report}
use native.Mathlib.Omega.{arith}
use Rattle.stream.proofs.Taking.{wrote-part}
use Rattle.stream.proofs.end_line.Goals as goal

pub returns : goal.returns
returns c = record { bound = omega (arith, c.report_line-size.ensures.bound); report = rw c.last_record-start.ensures at (wrote-part c.args.out.now _ (line_report c.args.table.now c.last_record-start.result c.args.number c.args.line.now) c.args.at _ c.report_line-size.ensures.size (omega (arith, c.requires, c.report_line-size.ensures.bound, c.report_line-size.ensures.size)) c.report_line-size.ensures.buffer) }
