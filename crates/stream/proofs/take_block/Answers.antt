-- `stream::take_block` meets its contract: one law of Taking for each step and each way out. Assumes nothing.
use native.Mathlib.Omega.{arith}
use Rattle.std.proofs.Common.{rules}
use Rattle.stream.proofs.Taking.{taking-none, taking-few, taking-passed, taking-ended, taking-took}
use Rattle.stream.proofs.take_block.Goals as goal

pub loop-at-init : goal.loop-at-init
loop-at-init c = taking-none _ _ _ _ _ _ (search rules) (search rules)

pub line_number-number-requires : goal.line_number-number-requires
line_number-number-requires c = omega (arith, taking-few c.loop-at.invariant, c.requires)

pub loop-at-preserved-then-end-block : goal.loop-at-preserved-then-end-block
loop-at-preserved-then-end-block c =
    taking-ended (taking-passed c.loop-at.invariant c.line_end-end.ensures c.keep-line.ensures c.keep-line.auto.line) c.line_end-end.ensures c.if-end-block.true c.line_number-number.ensures (rw c.kept.ensures at c.end_line-written.ensures.report) (omega (arith, c.loop-at.invariant.room, c.end_line-written.auto.out))

pub loop-at-preserved : goal.loop-at-preserved
loop-at-preserved c = taking-passed c.loop-at.invariant c.line_end-end.ensures c.keep-line.ensures c.keep-line.auto.line

pub returns-else-out-written-ge32768 : goal.returns-else-out-written-ge32768
returns-else-out-written-ge32768 c = taking-took c.loop-at.invariant (λ h. omega (arith, c.loop-at.invariant.room))

pub returns-after-loop-at : goal.returns-after-loop-at
returns-after-loop-at c = taking-took c.loop-at.invariant (λ h. absurd (omega arith))
