-- A part of the block is taken; the measure is what is left of it. Assumes nothing.
use Rattle.std.proofs.Common.{length, ◌-◌, take}
use Rattle.stream.proofs.Taking.{Taking}
use Rattle.stream.proofs.take_block.Given as goal

abbrev pub invariant-loop-at : goal.invariant-loop-at
invariant-loop-at l =
    Taking l.table (take l.initial.line.kept l.initial.line.bytes) l.initial.line.ended l.block l.initial.out l.line.bytes l.line.kept l.line.ended l.at l.written l.out

abbrev pub decreases-loop-at : goal.decreases-loop-at
decreases-loop-at l = length l.block - l.at
