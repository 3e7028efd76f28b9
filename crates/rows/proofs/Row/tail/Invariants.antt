-- `rows::Row::tail` meets its contract. The loop's invariant: the row has each length from `i` on.
-- Assumes nothing.
use Prim.Native.Nat.{◌≤◌}
use Rattle.rows.specs.Rows.{Tail}
use Rattle.rows.proofs.Row.tail.Given as goal

abbrev pub invariant-loop-i : goal.invariant-loop-i
invariant-loop-i l = record { tail : Tail l.fn.self.m l.work l.fn.self.k l.fn.self.d l.i; within : l.i ≤ l.fn.self.d }
