-- `report::put_table` meets its contract: three texts one after another. Assumes nothing.
use native.Mathlib.Omega.{arith}
use Rattle.printing.proofs.Writes.{wrote-length, wrote-3}
use Rattle.printing.proofs.Digits.{length-decimal}
use Rattle.report.proofs.put_table.Goals as goal

pub put_decimal-refusal_end-requires : goal.put_decimal-refusal_end-requires
put_decimal-refusal_end-requires c =
    omega (
      arith,
      c.requires,
      wrote-length c.put_text-refusal_at.ensures,
      c.put_text-refusal_at.ensures.moved,
      length-decimal c.args.refusal (omega (arith, c.ranges.refusal)),
    )

pub put_byte-requires : goal.put_byte-requires
put_byte-requires c =
    omega (
      arith,
      c.requires,
      wrote-length c.put_text-refusal_at.ensures,
      c.put_text-refusal_at.ensures.moved,
      wrote-length c.put_decimal-refusal_end.ensures,
      c.put_decimal-refusal_end.ensures.moved,
      length-decimal c.args.refusal (omega (arith, c.ranges.refusal)),
    )

pub returns : goal.returns
returns c =
    record {
      bound = omega (
        arith,
        c.put_text-refusal_at.ensures.moved,
        c.put_decimal-refusal_end.ensures.moved,
        c.put_byte.ensures.moved,
        length-decimal c.args.refusal (omega (arith, c.ranges.refusal)),
      );
      line = wrote-3 c.put_text-refusal_at.ensures c.put_decimal-refusal_end.ensures c.put_byte.ensures;
    }
