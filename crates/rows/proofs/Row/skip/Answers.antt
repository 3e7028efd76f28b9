-- `rows::Row::skip` meets its contract.
-- Assumes nothing.
use native.Mathlib.Omega.{arith}
use Rattle.rows.proofs.Joining.{skipped-full, skipped-run}
use Rattle.rows.proofs.Row.skip.Goals as goal

pub returns-then-h-self-clause-skipped : goal.returns-then-h-self-clause-skipped
returns-then-h-self-clause-skipped c =
    let long = c.longest-h.ensures.0 in
    let lower = c.in-Some.ensures.lowest in
    skipped-full _ _ _ _ _ _ _ _ long lower (omega arith) (omega arith) c.if-low-eq1.true c.if-h-self.true

pub returns-clause-skipped : goal.returns-clause-skipped
returns-clause-skipped c =
    let long = c.longest-h.ensures.0 in
    let lower = c.in-Some.ensures.lowest in
    let star = c.if-not-star.false in
    skipped-run _ _ _ _ _ _ _ _ long lower star c.in-Some.ensures.positive c.if-c-low.false c.if-h-c.false
