-- `trace_tokens` meets its contract. Assumes nothing.
use mathlib.Core.Path.{◌∙◌, ap}
use Rattle.table.specs.Answers.{number}
use Rattle.trace.proofs.Bounds.{small-tokens, said-small}
use Rattle.trace.proofs.trace_tokens.Goals as goal

pub number_of-requires : goal.number_of-requires
number_of-requires c = said-small _ c.tokens.ensures.answer (small-tokens _ _ _ _)

pub returns : goal.returns
returns c = record { answer = c.number_of.ensures ∙ ap number c.tokens.ensures.answer; buffer = c.tokens.ensures.buffer }
