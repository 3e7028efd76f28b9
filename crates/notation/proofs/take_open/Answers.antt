-- `notation::take_open` meets its contract. Assumes nothing.
use mathlib.Core.Path.{refl}
use native.Mathlib.Omega.{arith}
use Rattle.notation.proofs.Showing.{opened}
use Rattle.notation.proofs.take_open.Goals as goal

pub returns-clause-shown : goal.returns-clause-shown
returns-clause-shown c =
    λ fs l m i entry s.
    opened (c.end_item-ended.ensures.shown fs l m i _ entry s) (omega (arith, c.end_item-ended.ensures.ended.depth_kept)) refl refl refl refl
