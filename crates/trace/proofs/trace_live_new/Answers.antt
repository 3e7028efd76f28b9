-- `trace_live_new` meets its contract: the answer is small. Assumes nothing.
use Rattle.live.specs.Calls.{new_says}
use Rattle.trace.proofs.Bounds.{said-small}
use Rattle.trace.proofs.Living.{new-small}
use Rattle.trace.proofs.trace_live_new.Goals as goal

pub number_of-requires : goal.number_of-requires
number_of-requires c =
    said-small (new_says c.args.table.now c.args.start) c.new-made.ensures.answer (new-small c.args.table.now c.args.start)
