-- The loop of `reach::search`: the line can be extended exactly where a mark of a record up to `k` is alive.
-- Assumes nothing.
use Prim.Native.Nat.{◌+◌}
use Rattle.reach.specs.Reaching.{Reaching}
use Rattle.reach.proofs.search.Given as goal

abbrev pub invariant-loop-k : goal.invariant-loop-k
invariant-loop-k l = Reaching l.area.table.now l.area.line.now l.start (l.k + 1) l.marks
