-- `rows::Row::tell` meets its contract: each test is the one that the row's kind asks for.
-- Assumes nothing.
use native.Mathlib.Omega.{arith}
use Rattle.rows.proofs.Growing.{row-there, row-bound, record-there, told-empty, told-above, told-run, told-whole, told-mark}
use Rattle.rows.proofs.Row.tell.Goals as goal

pub bounds-work-self : goal.bounds-work-self
bounds-work-self c = record-there c.requires.inside

pub returns-then-e-eq0 : goal.returns-then-e-eq0
returns-then-e-eq0 c = told-empty _ _ _ _ _ c.if-e-eq0.true

pub returns-then-h-e : goal.returns-then-h-e
returns-then-h-e c = told-above _ _ _ _ _ _ c.if-e-eq0.false c.longest-h.ensures.0 c.if-h-e.true

pub returns-in-Some : goal.returns-in-Some
returns-in-Some c =
    told-run _ _ _ _ _ _ c.if-e-eq0.false c.longest-h.ensures.0 _ c.in-Some.ensures.lowest c.in-Some.ensures.positive
    c.if-h-e.false

pub returns-then-e-self : goal.returns-then-e-self
returns-then-e-self c =
    told-whole _ _ _ _ _ _ c.if-e-eq0.false c.longest-h.ensures.0 c.in_default.ensures c.if-h-e.false c.if-e-self.true

pub overflow_add-result : goal.overflow_add-result
overflow_add-result c = omega (arith, row-bound c.requires.inside)

pub bounds-work-start : goal.bounds-work-start
bounds-work-start c = omega (arith, row-there c.requires.inside)

pub returns : goal.returns
returns c =
    told-mark _ _ _ _ _ _ c.if-e-eq0.false c.longest-h.ensures.0 _ c.start.ensures c.in_default.ensures
    c.if-h-e.false (omega arith)
