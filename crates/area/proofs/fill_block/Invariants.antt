-- The loop of `area::fill_block`: the records below `k` are made, and who is woken is marked.
-- Assumes nothing.
use Prim.Native.Nat.{◌≤◌, ◌-◌}
use lib.ListN.{length}
use mathlib.Core.Path.{◌≡◌}
use Rattle.area.specs.Filling.{Progress, Woken}
use Rattle.area.proofs.fill_block.Given as goal

abbrev pub invariant-loop-k : goal.invariant-loop-k
invariant-loop-k l =
    record {
      inside : l.k ≤ l.m;
      size : length l.work ≡ length l.initial.work;
      progress : Progress l.table l.plan.bounds l.rest l.k l.work;
      woken : Woken l.table l.plan.bounds l.rest l.k l.work l.marks;
    }

abbrev pub decreases-loop-k : goal.decreases-loop-k
decreases-loop-k l = l.m - l.k
