-- `rows::join` meets its contract. The loop's invariant: the first `i` bytes are joined.
-- Assumes nothing.
use Rattle.rows.specs.Rows.{Written, joined}
use Rattle.rows.proofs.join.Given as goal

abbrev pub invariant-loop-i : goal.invariant-loop-i
invariant-loop-i l = Written (joined l.initial.work l.to l.from) l.to l.i l.initial.work l.work
