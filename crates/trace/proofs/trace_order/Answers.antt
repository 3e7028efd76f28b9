-- `trace_order` meets its contract: order's verdict has a number. Assumes nothing.
use mathlib.Core.Path.{◌∙◌, ap}
use Rattle.table.specs.Answers.{number}
use Rattle.trace.proofs.Ordering.{order-encodable, says-order}
use Rattle.trace.proofs.trace_order.Goals as goal

pub verdict_number-requires : goal.verdict_number-requires
verdict_number-requires c =
    rw (says-order c.args.tokens.now c.args.pairs.now c.order.ensures) (order-encodable c.args.tokens.now c.args.pairs.now)

pub returns : goal.returns
returns c = c.verdict_number.ensures ∙ ap number (says-order c.args.tokens.now c.args.pairs.now c.order.ensures)
