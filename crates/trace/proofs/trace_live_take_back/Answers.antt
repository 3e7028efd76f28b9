-- `trace_live_take_back` meets its contract: the answer of Take back is small. Assumes nothing.
use lib.ListN.{length}
use Rattle.live.specs.Calls.{take_back_says}
use Rattle.trace.proofs.Bounds.{said-small}
use Rattle.trace.proofs.Living.{take-back-small}
use Rattle.trace.proofs.trace_live_take_back.Goals as goal

pub heard_number-requires : goal.heard_number-requires
heard_number-requires c =
    said-small (take_back_says c.args.line.now (length c.args.work.now)) c.take_back.ensures.answer
    (take-back-small c.args.line.now (length c.args.work.now))
