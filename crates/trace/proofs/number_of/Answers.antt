-- `number_of` meets its contract. Assumes nothing.
use mathlib.Core.Path.{sym, ◌∙◌, ap, subst}
use Rattle.std.specs.Prelude.{ℕ, Result}
use Rattle.table.specs.Answers.{says, number}
use Rattle.table.specs.declared.Refusal.{Refusal}
use Rattle.trace.specs.Numbers.{Small}
use Rattle.trace.proofs.number_of.Goals as goal

pub refusal_number-requires : goal.refusal_number-requires
refusal_number-requires c = subst (λ (r : Result ℕ Refusal). Small (says r)) c.in-Err.is c.requires

pub returns-in-Err : goal.returns-in-Err
returns-in-Err c = c.refusal_number.ensures ∙ ap (λ (r : Result ℕ Refusal). number (says r)) (sym c.in-Err.is)
