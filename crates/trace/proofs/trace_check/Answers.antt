-- `trace_check` meets its contract. Assumes nothing.
use mathlib.Core.Path.{◌∙◌, ap}
use Rattle.table.specs.Answers.{number}
use Rattle.trace.proofs.Bounds.{small-checked, said-small}
use Rattle.trace.proofs.trace_check.Goals as goal

pub number_of-requires : goal.number_of-requires
number_of-requires c = said-small _ c.check.ensures.answer (small-checked c.args.table.now)

pub returns : goal.returns
returns c = c.number_of.ensures ∙ ap number c.check.ensures.answer
