-- `stream::take_end` meets its contract: no line is left, or the last one is reported. Assumes nothing.
use native.Mathlib.Omega.{arith}
use Rattle.std.proofs.Common.{rules}
use Rattle.stream.proofs.Taking.{last_none, last_some}
use Rattle.stream.proofs.take_end.Goals as goal

pub returns-then-is_empty : goal.returns-then-is_empty
returns-then-is_empty c =
    let x = last_none c.args.table.now c.args.line.now c.args.ended c.args.out.now (search rules) in
    record { bound = omega arith; size = x.0; buffer = x.1 }

pub returns : goal.returns
returns c =
    let x =
    last_some c.args.table.now c.args.line.now c.args.ended (search rules) c.line_number-number.ensures c.end_line.ensures.report
    (omega (arith, c.end_line.ensures.bound, c.requires.room)) in
    record { bound = omega (arith, c.end_line.ensures.bound); size = x.0; buffer = x.1 }
