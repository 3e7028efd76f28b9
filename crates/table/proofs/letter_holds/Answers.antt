-- `table::letter_holds` meets its contract: one law of Letters for each way out. Assumes nothing.
use native.Mathlib.Omega.{arith}
use Rattle.table.proofs.Letters.{other-below, other-not-below, range-below, range-not-below}
use Rattle.table.proofs.letter_holds.Goals as goal

pub returns-then-c-a : goal.returns-then-c-a
returns-then-c-a c = other-below c.args.kind c.args.a c.args.b c.args.c (omega arith) (omega arith) (omega arith)

pub returns-else-c-a : goal.returns-else-c-a
returns-else-c-a c = other-not-below c.args.kind c.args.a c.args.b c.args.c (omega arith) (omega arith) (omega arith)

pub returns-then-a-c : goal.returns-then-a-c
returns-then-a-c c = range-not-below c.args.kind c.args.a c.args.b c.args.c (omega arith) (rw c.number.ensures at c.if-kind-number.false) (omega arith)

pub returns-else-a-c : goal.returns-else-a-c
returns-else-a-c c = range-below c.args.kind c.args.a c.args.b c.args.c (omega arith) (rw c.number.ensures at c.if-kind-number.false) (omega arith)
