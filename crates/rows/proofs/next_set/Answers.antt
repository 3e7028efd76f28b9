-- `rows::next_set` meets its contract. The loop's invariant: no byte from `from` up to `i` is set.
-- Assumes nothing.
use native.Mathlib.Omega.{arith}
use Rattle.rows.proofs.Bytes.{set-byte, passed-more}
use Rattle.rows.proofs.next_set.Goals as goal

pub returns-then-work-start-ne0 : goal.returns-then-work-start-ne0
returns-then-work-start-ne0 c =
    (omega arith, record { not_before = omega arith; not_behind = omega arith; passed = c.loop-i.invariant; found = λ h. set-byte _ c.if-work-start-ne0.true })

pub loop-i-preserved : goal.loop-i-preserved
loop-i-preserved c = passed-more _ _ _ _ c.loop-i.invariant c.if-work-start-ne0.false
