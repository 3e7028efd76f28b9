-- The loop of `area::fill_bytes`: the area tells the truth of the line from byte `i` on.
-- Assumes nothing.
use lib.ListN.{length, drop}
use mathlib.Core.Path.{◌≡◌}
use Rattle.area.specs.Filling.{FilledFor}
use Rattle.area.proofs.fill_bytes.Given as goal

abbrev pub invariant-loop-i : goal.invariant-loop-i
invariant-loop-i l = record { size : length l.work ≡ length l.initial.work; filled : FilledFor l.table l.plan.bounds (drop l.i l.line) l.work }
