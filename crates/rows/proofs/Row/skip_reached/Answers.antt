-- `rows::Row::skip_reached` meets its contract.
-- Assumes nothing.
use native.Mathlib.Omega.{arith}
use Rattle.rows.proofs.Joining.{skipped-one}
use Rattle.rows.proofs.Row.skip_reached.Goals as goal

pub returns-then-tell-clause-skipped : goal.returns-then-tell-clause-skipped
returns-then-tell-clause-skipped c =
    let star = c.if-not-star.false in
    skipped-one _ _ _ _ _ _ star (omega arith) _ c.tell.ensures c.if-tell.true
