-- `page::take_lines` meets its contract: the loop's invariant is what holds before each line (Going); the measure is what is left of the page.
-- Assumes nothing.
use Prim.Native.Nat.{◌-◌}
use lib.ListN.{length}
use Rattle.page.specs.Steps.{rules_of}
use Rattle.page.proofs.Going.{Lengths, Going}
use Rattle.page.proofs.take_lines.Given as goal

abbrev pub invariant-loop-at : goal.invariant-loop-at
invariant-loop-at l = record {
  lengths : Lengths (record { work = length l.initial.work; reading = length l.initial.reading; first = length l.initial.first; second = length l.initial.second }) l.work l.reading l.first l.second l.classes;
  going : Going (rules_of l.reader) (record { work = length l.initial.work; reading = length l.initial.reading; first = length l.initial.first; second = length l.initial.second }) l.page l.first l.second l.classes l.prior_start l.prior_end l.at l.number l.size l.count;
}

abbrev pub decreases-loop-at : goal.decreases-loop-at
decreases-loop-at l = length l.page - l.at
