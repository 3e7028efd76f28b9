-- `apart::apart` meets its contract: each way out is one of Outcomes.
-- Assumes nothing.
use native.Mathlib.Omega.{arith}
use mathlib.Core.Path.{ap}
use Rattle.table.specs.Kinds.{number_of}
use Rattle.table.proofs.Exits.{passed_on}
use Rattle.reading.proofs.Admission.{lent}
use Rattle.apart.proofs.Outcomes.{outcome-refused, other_number, outcome-other, children-inside, outcome-or}
use Rattle.apart.proofs.apart.Goals as goal

pub returns-in_err-rules : goal.returns-in_err-rules
returns-in_err-rules c =
    let x = outcome-refused c.args.table.now c.args.k _ _ c.admit.ensures.answer c.in_err-rules.was in
    rw (passed_on _ _ c.from_residual.ensures) (record { equation = x.0; yes = x.1 })

pub all_shared-requires : goal.all_shared-requires
all_shared-requires c =
    let l = lent c.admit.ensures.answer c.admit.ensures.rules c.in_ok-rules.was in
    let e = rw l.same at c.kind_at.ensures.kind in
    let i = children-inside _ _ l.given _ e (ap number_of c.in-Or.is) _ _ (rw l.same at c.a_at-a.ensures) (rw l.same at c.b_at-b.ensures) in
    rw l.same i

pub returns-then-told_apart : goal.returns-then-told_apart
returns-then-told_apart c =
    let l = lent c.admit.ensures.answer c.admit.ensures.rules c.in_ok-rules.was in
    let e = rw l.same at c.kind_at.ensures.kind in
    let x = outcome-or _ _ l.given _ e (ap number_of c.in-Or.is) _ _ (rw l.same at c.a_at-a.ensures) (rw l.same at c.b_at-b.ensures) _ _ _
    (rw l.same at c.all_shared.ensures) c.told_apart.ensures c.if-told_apart.true in
    record { equation = x.0; yes = x.1 }

pub returns-else-told_apart : goal.returns-else-told_apart
returns-else-told_apart c =
    let l = lent c.admit.ensures.answer c.admit.ensures.rules c.in_ok-rules.was in
    let e = rw l.same at c.kind_at.ensures.kind in
    let x = outcome-or _ _ l.given _ e (ap number_of c.in-Or.is) _ _ (rw l.same at c.a_at-a.ensures) (rw l.same at c.b_at-b.ensures) _ _ _
    (rw l.same at c.all_shared.ensures) c.told_apart.ensures c.if-told_apart.false in
    record { equation = x.0; yes = x.1 }

pub returns-in_default : goal.returns-in_default
returns-in_default c =
    let l = lent c.admit.ensures.answer c.admit.ensures.rules c.in_ok-rules.was in
    let x = outcome-other _ _ l.given _ (rw l.same at c.kind_at.ensures.kind) (other_number _ c.in_default.not-Or) in
    record { equation = x.0; yes = x.1 }
