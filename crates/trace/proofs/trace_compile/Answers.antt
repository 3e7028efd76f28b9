-- `trace_compile` meets its contract. Assumes nothing.
use mathlib.Core.Path.{◌∙◌, ap}
use Rattle.table.specs.Answers.{number}
use Rattle.trace.proofs.Bounds.{small-compile, said-small}
use Rattle.trace.proofs.trace_compile.Goals as goal

pub number_of-requires : goal.number_of-requires
number_of-requires c = said-small _ c.compile.ensures.answer (small-compile _ _)

pub returns : goal.returns
returns c = record { answer = c.number_of.ensures ∙ ap number c.compile.ensures.answer; buffer = c.compile.ensures.buffer }
