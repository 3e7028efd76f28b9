-- `report::report_table` meets its contract: nothing for a table that passes, or the refusal. Assumes nothing.
use Rattle.report.proofs.Reports.{table-passes, table-refused}
use Rattle.report.proofs.report_table.Goals as goal

pub returns-in-Ok : goal.returns-in-Ok
returns-in-Ok c =
    let x = table-passes c.args.table.now c.args.out.now c.check.ensures.answer c.in-Ok.is in
    record { bound = x.0; size = x.1.0; buffer = x.1.1 }

pub returns-in-Err : goal.returns-in-Err
returns-in-Err c =
    let x = table-refused c.args.table.now c.args.out.now _ c.check.ensures.answer c.in-Err.is c.refusal_number.ensures
    c.put_table.ensures.line c.put_table.ensures.bound c.requires in
    record { bound = x.0; size = x.1.0; buffer = x.1.1 }
