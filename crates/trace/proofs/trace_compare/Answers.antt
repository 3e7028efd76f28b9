-- `trace_compare` meets its contract. Assumes nothing.
use mathlib.Core.Path.{◌∙◌, ap}
use Rattle.table.specs.Answers.{number}
use Rattle.trace.proofs.Bounds.{small-compare, said-small}
use Rattle.trace.proofs.Numbered.{compare-numbered}
use Rattle.trace.proofs.trace_compare.Goals as goal

pub number_of-requires : goal.number_of-requires
number_of-requires c = said-small _ c.compare.ensures.answer (small-compare _ _ _ _)

pub returns : goal.returns
returns c = record { answer = c.number_of.ensures ∙ ap number c.compare.ensures.answer; precedence = λ o. compare-numbered c.number_of.ensures (said-small _ c.compare.ensures.answer (small-compare _ _ _ _)) (c.compare.ensures.precedence o) }
