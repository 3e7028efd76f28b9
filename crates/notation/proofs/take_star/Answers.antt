-- `notation::take_star` meets its contract. Assumes nothing.
use mathlib.Core.Path.{refl}
use Rattle.notation.proofs.Showing.{is-not_item}
use Rattle.notation.proofs.Taking.{star-taken}
use Rattle.notation.proofs.take_star.Goals as goal

pub returns-clause-took : goal.returns-clause-took
returns-clause-took c =
    λ fs l m i stack entry s.
    star-taken i s (is-not_item _ _ c.eq.ensures c.if-eq.false) refl refl refl refl (rw (← c.number_byte.ensures) c.store.ensures)
