-- `printing::put_decimal` meets its contract: the digits of the tenth, then the last digit. Assumes nothing.
use native.Mathlib.Omega.{arith}
use mathlib.Core.Path.{sym}
use Rattle.printing.proofs.Writes.{wrote-length, wrote_then, wrote_as}
use Rattle.printing.proofs.Digits.{decimal_digit, decimal-digits, length-one, length_more}
use Rattle.printing.proofs.+put_decimal.Goals as goal

pub put_byte-requires : goal.put_byte-requires
put_byte-requires t c = omega (arith, c.requires, length-one c.args.n c.if-n-lt10.true)

pub returns-then-n-lt10 : goal.returns-then-n-lt10
returns-then-n-lt10 t c = wrote_as c.put_byte.ensures (sym (decimal_digit c.args.n c.if-n-lt10.true))

pub put_decimal-next-requires : goal.put_decimal-next-requires
put_decimal-next-requires t c =
    (omega (arith, c.decreases), omega (arith, c.requires, length_more c.args.n c.if-n-lt10.false (omega (arith, c.ranges.n))))

pub put_byte-requires-2 : goal.put_byte-requires-2
put_byte-requires-2 t c =
    omega (arith, c.requires, wrote-length c.put_decimal-next.ensures, c.put_decimal-next.ensures.moved, length_more c.args.n c.if-n-lt10.false (omega (arith, c.ranges.n)))

pub returns : goal.returns
returns t c = wrote_as (wrote_then c.put_decimal-next.ensures c.put_byte-2.ensures) (sym (decimal-digits c.args.n c.if-n-lt10.false (omega (arith, c.ranges.n))))
