-- `notation::take_letter` meets its contract. Assumes nothing.
use mathlib.Core.Path.{refl}
use Rattle.notation.proofs.Showing.{letter-added}
use Rattle.notation.proofs.take_letter.Goals as goal

pub returns-clause-shown : goal.returns-clause-shown
returns-clause-shown c =
    λ fs l m i stack entry s.
    rw c.store.ensures (letter-added c.args.low c.args.high (c.end_item-ended.ensures.shown fs l m i stack entry s) refl refl refl refl)
