-- `notation::end_item` meets its contract. Assumes nothing.
use mathlib.Core.Path.{refl}
use Rattle.notation.proofs.Showing.{is-not_item}
use Rattle.notation.proofs.Taking.{item-ended}
use Rattle.notation.proofs.end_item.Goals as goal

pub returns-clause-shown : goal.returns-clause-shown
returns-clause-shown c =
    λ fs l m i stack entry s.
    item-ended i s (is-not_item _ _ c.eq.ensures c.if-eq.false) c.join-count.ensures.count refl refl refl
    c.join-count.ensures.buffer
