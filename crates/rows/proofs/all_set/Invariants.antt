-- `rows::all_set` meets its contract. The loop's invariant: the bytes up to `i` are set.
-- Assumes nothing.
use Prim.Native.Nat.{ℕ, ◌≤◌, ◌<◌}
use mathlib.Core.Bool.{true}
use mathlib.Core.Path.{◌≡◌}
use Rattle.rows.specs.Rows.{row_set}
use Rattle.rows.proofs.all_set.Given as goal

abbrev pub invariant-loop-i : goal.invariant-loop-i
invariant-loop-i l = (j : ℕ) → l.from ≤ j → j < l.i → row_set l.work l.start j ≡ true
