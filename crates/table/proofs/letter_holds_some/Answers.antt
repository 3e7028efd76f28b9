-- `table::letter_holds_some` meets its contract: one law of Letters for each way out. Assumes nothing.
use native.Mathlib.Omega.{arith}
use Rattle.table.proofs.Letters.{other-some, other-from-0, range-some}
use Rattle.table.proofs.letter_holds_some.Goals as goal

pub returns-then-a-gt0 : goal.returns-then-a-gt0
returns-then-a-gt0 c = other-some c.args.kind c.args.a c.args.b (omega arith) (omega arith)

pub returns-else-a-gt0 : goal.returns-else-a-gt0
returns-else-a-gt0 c = other-from-0 c.args.kind c.args.a c.args.b (omega arith) (omega arith)

pub returns : goal.returns
returns c = range-some c.args.kind c.args.a c.args.b (rw c.number.ensures at c.if-kind-number.false) (omega arith)
