-- `trace_apart` meets its contract. Assumes nothing.
use native.Mathlib.Omega.{arith}
use mathlib.Core.Path.{sym, ◌∙◌, ap}
use Rattle.table.specs.Answers.{gives, number}
use Rattle.trace.proofs.Numbers.{same_number}
use Rattle.trace.proofs.Bounds.{small-apart, said-small}
use Rattle.trace.proofs.trace_apart.Goals as goal

pub number_of-requires : goal.number_of-requires
number_of-requires c = said-small _ c.apart.ensures.equation (small-apart _ _)

pub returns : goal.returns
returns c = record { answer = c.number_of.ensures ∙ ap number c.apart.ensures.equation; yes = λ y. c.apart.ensures.yes (same_number _ (gives 1) (said-small _ c.apart.ensures.equation (small-apart _ _)) (omega arith) (sym c.number_of.ensures ∙ y)) }
