-- `tracerules::put_refused` meets its contract: four texts one after another. Assumes nothing.
use native.Mathlib.Omega.{arith}
use Rattle.printing.proofs.Writes.{wrote-length, wrote_then, wrote-3}
use Rattle.printing.proofs.Digits.{length-decimal}
use Rattle.tracerules.proofs.put_refused.Goals as goal

pub put_decimal-reason_at-requires : goal.put_decimal-reason_at-requires
put_decimal-reason_at-requires c = omega (arith, c.requires, wrote-length c.put_text-number_at.ensures, c.put_text-number_at.ensures.moved, length-decimal c.args.number (omega (arith, c.ranges.number)))

pub put_reason-reason_end-requires : goal.put_reason-reason_end-requires
put_reason-reason_end-requires c = omega (arith, c.requires, wrote-length c.put_text-number_at.ensures, c.put_text-number_at.ensures.moved, wrote-length c.put_decimal-reason_at.ensures, c.put_decimal-reason_at.ensures.moved, length-decimal c.args.number (omega (arith, c.ranges.number)))

pub put_byte-requires : goal.put_byte-requires
put_byte-requires c = omega (arith, c.requires, wrote-length c.put_text-number_at.ensures, c.put_text-number_at.ensures.moved, wrote-length c.put_decimal-reason_at.ensures, c.put_decimal-reason_at.ensures.moved, length-decimal c.args.number (omega (arith, c.ranges.number)), wrote-length c.put_reason-reason_end.ensures.bytes, c.put_reason-reason_end.ensures.bound)

pub returns : goal.returns
returns c = record { bound = omega (arith, c.put_text-number_at.ensures.moved, c.put_decimal-reason_at.ensures.moved, length-decimal c.args.number (omega (arith, c.ranges.number)), c.put_reason-reason_end.ensures.bound, c.put_byte.ensures.moved); line = wrote_then c.put_text-number_at.ensures (wrote-3 c.put_decimal-reason_at.ensures c.put_reason-reason_end.ensures.bytes c.put_byte.ensures) }
