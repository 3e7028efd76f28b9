-- `report::report_failure` meets its contract: two texts one after another. Assumes nothing.
use native.Mathlib.Omega.{arith}
use mathlib.Core.Path.{refl}
use Rattle.printing.proofs.Writes.{wrote-length, wrote_then}
use Rattle.report.proofs.Reports.{printed}
use Rattle.printing.proofs.Digits.{length-decimal}
use Rattle.report.proofs.report_failure.Goals as goal

pub put_decimal-requires : goal.put_decimal-requires
put_decimal-requires c =
    omega (
      arith,
      c.requires,
      wrote-length c.put_text-number_at.ensures,
      c.put_text-number_at.ensures.moved,
      length-decimal c.args.number (omega (arith, c.ranges.number)),
    )

pub returns : goal.returns
returns c =
    let x = printed 64 (wrote_then c.put_text-number_at.ensures c.put_decimal.ensures) (omega (
      arith,
      c.put_text-number_at.ensures.moved,
      c.put_decimal.ensures.moved,
      length-decimal c.args.number (omega (arith, c.ranges.number)),
    )) c.requires refl in
    record { bound = x.0; size = x.1.0; buffer = x.1.1 }
