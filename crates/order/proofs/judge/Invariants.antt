-- `order::judge` meets its contract. The loop's invariant: the marks are the names before token i, and no token before it breaks a pair.
-- Assumes nothing.
use Rattle.order.proofs.Walking.{Passed}
use Rattle.order.proofs.judge.Given as goal

abbrev pub invariant-loop-i : goal.invariant-loop-i
invariant-loop-i l = Passed l.tokens l.pairs l.i l.seen
