-- `table::check` meets its contract. The loop's invariant is Scan's: the records below k have no fault, and the marks are theirs. Assumes nothing.
use Rattle.table.proofs.Scan.{Scanning}
use Rattle.table.proofs.check.Given as goal

abbrev pub invariant-loop-k : goal.invariant-loop-k
invariant-loop-k l = Scanning l.table l.k l.marks
