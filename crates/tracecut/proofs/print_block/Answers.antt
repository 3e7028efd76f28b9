-- `tracecut::print_block` meets its contract. Assumes nothing.
use Rattle.std.proofs.Common.{arith}
use Rattle.stream.proofs.Whole.{took-few}
use Rattle.tracecut.proofs.Moving.{onward}
use Rattle.tracecut.proofs.print_block.Goals as goal

pub returns-in_err-print : goal.returns-in_err-print
returns-in_err-print c = omega (arith, took-few c.take_block-step.ensures, c.take_block-step.ensures.within, c.loop-rest.invariant.1)

pub loop-rest-preserved : goal.loop-rest-preserved
loop-rest-preserved c = (omega arith, onward c.take_block-step.ensures _ c.loop-rest.invariant.1)
