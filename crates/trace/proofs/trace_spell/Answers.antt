-- `trace_spell` meets its contract. Assumes nothing.
use mathlib.Core.Path.{◌∙◌, ap}
use Rattle.table.specs.Answers.{number}
use Rattle.trace.proofs.Bounds.{small-spell, said-small}
use Rattle.trace.proofs.trace_spell.Goals as goal

pub number_of-requires : goal.number_of-requires
number_of-requires c = said-small _ c.spell.ensures.answer (small-spell _ _ _ _)

pub returns : goal.returns
returns c = record { answer = c.number_of.ensures ∙ ap number c.spell.ensures.answer; buffer = c.spell.ensures.buffer }
