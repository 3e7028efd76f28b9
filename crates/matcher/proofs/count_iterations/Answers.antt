-- `matcher::count_iterations` meets its contract: what is counted and the iterations of what is left are those of the whole part.
-- Assumes nothing.
use native.Mathlib.Omega.{arith}
use Rattle.matcher.proofs.Positions.{star-searched}
use Rattle.matcher.proofs.Iterating.{counting-none, counting_more, counting-end}
use Rattle.matcher.proofs.count_iterations.Goals as goal

pub a_at-record-requires : goal.a_at-record-requires
a_at-record-requires c = c.requires.here.record_inside

pub loop-size-init : goal.loop-size-init
loop-size-init c = counting-none c.requires.here

pub longest_first_part-first-requires : goal.longest_first_part-first-requires
longest_first_part-first-requires c =
    rw c.count-m.ensures.count
    (star-searched c.loop-size.invariant.here c.a_at-record.ensures c.requires.star _ (omega arith)
    (omega (arith, c.loop-size-test.true)) c.requires.area)

pub overflow_sub-left : goal.overflow_sub-left
overflow_sub-left c = omega (arith, c.longest_first_part-first.ensures.found.inside, c.loop-size.invariant.here.size)

pub overflow_sub-size : goal.overflow_sub-size
overflow_sub-size c = omega (arith, c.longest_first_part-first.ensures.found.inside)

pub overflow_add-times : goal.overflow_add-times
overflow_add-times c = omega (arith, c.loop-size.invariant.small)

pub loop-size-smaller : goal.loop-size-smaller
loop-size-smaller c = omega (arith, c.longest_first_part-first.ensures.found.inside, c.longest_first_part-first.ensures.found.above)

pub loop-size-preserved : goal.loop-size-preserved
loop-size-preserved c =
    counting_more c.loop-size.invariant c.a_at-record.ensures c.requires.star
    (omega (arith, c.longest_first_part-first.ensures.found.above)) (rw c.count-m.ensures.count at c.longest_first_part-first.ensures)

pub returns : goal.returns
returns c = counting-end c.loop-size.invariant c.a_at-record.ensures c.requires.star (omega (arith, c.loop-size-test.false))
