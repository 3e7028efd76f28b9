-- The lines ended so far and the bytes left are no more than the bytes at the start. Assumes nothing.
use Rattle.std.proofs.Common.{◌≡◌, ◌+◌, ◌≤◌, length}
use Rattle.tracecut.proofs.run.Given as goal

abbrev pub invariant-loop-left : goal.invariant-loop-left
invariant-loop-left l = (length l.block ≡ 65536) × (length l.out ≡ 65536) × (l.line.ended + l.left ≤ 18446744073709551614)

abbrev pub decreases-loop-left : goal.decreases-loop-left
decreases-loop-left l = l.left
