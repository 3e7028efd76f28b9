-- `notation::finish` meets its contract. Assumes nothing.
use native.Mathlib.Omega.{arith}
use Rattle.notation.proofs.Showing.{is-not_item}
use Rattle.notation.proofs.Walking.{ended-whole}
use Rattle.notation.proofs.finish.Goals as goal

pub returns : goal.returns
returns c =
    λ fs l m i stack entry s.
    ended-whole fs l m i _ s (omega arith) (is-not_item _ _ c.eq.ensures c.if-eq.false)
    (λ t q. c.end_row.ensures.shown fs l m t stack entry q)
