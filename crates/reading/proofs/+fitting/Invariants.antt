-- The record number falls: 3 k for the length of a part by record k, 3 k + 1 for fitting it, 3 c + 2 for iterations by record c, whose loop has the
-- invariant Walking. Assumes nothing.
use Rattle.std.proofs.Common.{◌+◌, ◌-◌, ◌*◌}
use Rattle.reading.proofs.Parts.{Walking}
use Rattle.reading.proofs.+fitting.Given as goal

abbrev pub decreases-fit_element : goal.decreases-fit_element
decreases-fit_element l = 3 * l.k + 1

abbrev pub decreases-fit_iterations : goal.decreases-fit_iterations
decreases-fit_iterations l = 3 * l.c + 2

abbrev pub decreases-part_length : goal.decreases-part_length
decreases-part_length l = 3 * l.k

abbrev pub invariant-fit_iterations-loop : goal.invariant-fit_iterations-loop
invariant-fit_iterations-loop l = Walking l.table l.c l.times l.reading l.initial.next.at (l.times - l.counter) l.next.at l.size
