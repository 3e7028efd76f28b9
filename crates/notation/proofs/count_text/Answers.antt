-- `notation::count_text` meets its contract. Assumes nothing.
use native.Mathlib.Omega.{arith}
use Rattle.notation.proofs.Compiling.{counts-over, counts-within}
use Rattle.notation.proofs.count_text.Goals as goal

pub returns-then-text-gt4096 : goal.returns-then-text-gt4096
returns-then-text-gt4096 c = counts-over c.args.text.now (omega arith)

pub returns : goal.returns
returns c = counts-within c.args.text.now _ _ _ (omega arith) c.walk_text.ensures
