-- `trace_live_add` meets its contract: the answer of Add is small. Assumes nothing.
use lib.ListN.{length}
use Rattle.live.specs.Calls.{add_says}
use Rattle.trace.proofs.Bounds.{said-small}
use Rattle.trace.proofs.Living.{add_small}
use Rattle.trace.proofs.trace_live_add.Goals as goal

pub heard_number-requires : goal.heard_number-requires
heard_number-requires c =
    said-small (add_says c.args.line.now c.args.byte (length c.args.work.now)) c.add.ensures.answer
    (add_small c.args.line.now c.args.byte (length c.args.work.now))
