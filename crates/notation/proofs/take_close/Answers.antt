-- `notation::take_close` meets its contract. Assumes nothing.
use mathlib.Core.Path.{refl}
use native.Mathlib.Omega.{arith}
use Rattle.notation.proofs.Showing.{not-other_item, other_item, no-marks}
use Rattle.notation.proofs.Taking.{close-taken, close-empty}
use Rattle.notation.proofs.take_close.Goals as goal

pub returns-then-ne-clause-took : goal.returns-then-ne-clause-took
returns-then-ne-clause-took c =
    λ fs l m i entry s.
    close-taken fs l m i _ s (omega arith, refl) (other_item _ _ c.ne.ensures c.if-ne.true)
    (λ t q. c.end_row-count.ensures.shown fs l m t _ entry q) refl refl c.group_item.ensures refl

pub returns-clause-took : goal.returns-clause-took
returns-clause-took c =
    λ fs l m i entry s.
    close-empty fs l m i s (omega arith, refl) (not-other_item _ _ c.ne.ensures c.if-ne.false)
    (no-marks _ _ c.ne-2.ensures c.if-ne-2.false) c.store.ensures refl refl refl refl
