-- `marks::next_marked` meets its contract. The loop's invariant: no number from `from` up to word `i` is marked.
-- Assumes nothing.
use Prim.Native.Nat.{◌*◌}
use Rattle.marks.proofs.Laws.{Passed}
use Rattle.marks.proofs.next_marked.Given as goal

abbrev pub invariant-loop-i : goal.invariant-loop-i
invariant-loop-i l = Passed l.words l.from (64 * l.i)
