-- `lines::line_end` meets its contract. The loop's invariant: no byte 10 was passed. Assumes nothing.
use Rattle.std.proofs.Common.{ℕ, ◌≤◌, ◌<◌, ◌≡◌, get_or}
use Rattle.lines.proofs.line_end.Given as goal

abbrev pub invariant-loop-i : goal.invariant-loop-i
invariant-loop-i l = (j : ℕ) → j < l.i → l.from ≤ j → get_or l.block j 0 ≡ 10 → ⊥
