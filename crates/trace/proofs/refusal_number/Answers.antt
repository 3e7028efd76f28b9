-- `refusal_number` meets its contract. Assumes nothing.
use native.Mathlib.Omega.{arith}
use mathlib.Core.Path.{ap}
use Rattle.table.specs.Answers.{number}
use Rattle.table.proofs.Refusals.{refusal-shown}
use Rattle.trace.proofs.Numbers.{refusal-small}
use Rattle.trace.proofs.refusal_number.Goals as goal

pub overflow_mul-result : goal.overflow_mul-result
overflow_mul-result c = omega (arith, c.number.ensures, refusal-small c.args.why c.requires)

pub overflow_add-result : goal.overflow_add-result
overflow_add-result c = omega (arith, c.number.ensures, c.detail.ensures, refusal-small c.args.why c.requires)

pub returns : goal.returns
returns c = rw (c.number.ensures, c.detail.ensures) (ap number (refusal-shown c.args.why))
