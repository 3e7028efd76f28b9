-- `reach::search` meets its contract.
-- Assumes nothing.
use native.Mathlib.Omega.{arith}
use Rattle.reach.proofs.Searching.{search-at, search-on}
use Rattle.reach.proofs.search.Goals as goal

pub loop-k-preserved : goal.loop-k-preserved
loop-k-preserved c = search-at _ (omega arith) (search-on c.loop-k.invariant c.visit.ensures c.if-visit.false)
