-- `notation::take_bar` meets its contract. Assumes nothing.
use mathlib.Core.Path.{refl}
use Rattle.notation.proofs.Showing.{is-not_item}
use Rattle.notation.proofs.Taking.{bar-taken}
use Rattle.notation.proofs.take_bar.Goals as goal

pub returns-clause-took : goal.returns-clause-took
returns-clause-took c =
    λ fs l m i stack entry s.
    bar-taken i _ s (is-not_item _ _ c.eq.ensures c.if-eq.false) (λ t q. c.end_row-count.ensures.shown fs l m t stack entry q) refl
    refl refl refl
