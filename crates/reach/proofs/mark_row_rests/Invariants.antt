-- The loop of `reach::mark_row_rests`: what the row's marks below `d` lead to is marked.
-- Assumes nothing.
use Prim.Native.Nat.{◌+◌, ◌-◌, ◌≤◌}
use Rattle.marks.specs.Marks.{MarkedAll}
use Rattle.reach.proofs.Marking.{RowBelow}
use Rattle.reach.proofs.mark_row_rests.Given as goal

abbrev pub invariant-loop-d : goal.invariant-loop-d
invariant-loop-d l = record { inside : l.d ≤ l.n + 1; marked : MarkedAll (RowBelow l.d l.m l.work l.row l.n l.of l.to) l.initial.marks l.marks }

abbrev pub decreases-loop-d : goal.decreases-loop-d
decreases-loop-d l = l.n + 1 - l.d
