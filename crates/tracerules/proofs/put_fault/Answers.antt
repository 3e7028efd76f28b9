-- `tracerules::put_fault` meets its contract: the length, or a text and a number. Assumes nothing.
use native.Mathlib.Omega.{arith}
use Rattle.printing.proofs.Writes.{wrote-length}
use Rattle.printing.proofs.Digits.{length-decimal}
use Rattle.tracerules.proofs.put_fault.Goals as goal

pub put_decimal-requires : goal.put_decimal-requires
put_decimal-requires c = omega (arith, c.requires, wrote-length c.put_text-offset_at.ensures, c.put_text-offset_at.ensures.moved, length-decimal c.stops_at.result (omega (arith, c.stops_at.type_inv)))

pub returns-clause-bound : goal.returns-clause-bound
returns-clause-bound c = omega (arith, c.put_text-offset_at.ensures.moved, c.put_decimal.ensures.moved, length-decimal c.stops_at.result (omega (arith, c.stops_at.type_inv)))
