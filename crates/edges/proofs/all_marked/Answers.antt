-- `edges::all_marked` meets its contract. Assumes nothing.
use native.Mathlib.Omega.{arith}
use borrow.Author.Tests.{eqb-true, not-false}
use Rattle.std.proofs.Common.{◌*◌, ◌-◌}
use lib.ListN.{length}
use Rattle.edges.proofs.Marks.{byte-unmarked, pair-unmarked}
use Rattle.edges.proofs.all_marked.Goals as goal

pub returns-then-from_mark-eq0 : goal.returns-then-from_mark-eq0
returns-then-from_mark-eq0 c =
    λ z. pair-unmarked _ _ (2 * c.loop-i.i) (omega (arith, c.loop-i-test.true)) _ _ c.from_mark.ensures c.from_mark-in-loop-i.ensures
    c.if-from_mark-eq0.true

pub returns-else-n-eq0 : goal.returns-else-n-eq0
returns-else-n-eq0 c =
    λ z. byte-unmarked _ _ (length c.args.line.now - 1) (omega arith) _ c.from_mark-else-n-eq0.ensures (eqb-true _ 0 (not-false _ z))
