-- `rows::Row::reach` meets its contract. The loop's invariant: what the contract says, up to the cut `i`.
-- Assumes nothing.
use Prim.Native.Nat.{◌+◌, ◌≤◌, max}
use Rattle.rows.specs.Rows.{Reached}
use Rattle.rows.proofs.Row.reach.Given as goal

abbrev pub invariant-loop-i : goal.invariant-loop-i
invariant-loop-i l = record {
  reached : Reached l.self.m l.work l.self.d l.self.k l.c l.end l.low l.high l.bottom l.top l.i;
  within : l.i ≤ max l.c (l.end + 1);
}
