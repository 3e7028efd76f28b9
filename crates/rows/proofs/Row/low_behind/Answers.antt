-- `rows::Row::low_behind` meets its contract: a run without the empty part, or one from 1 on with it.
-- Assumes nothing.
use Rattle.rows.proofs.Growing.{record-there}
use Rattle.rows.proofs.Reaching.{low-empty, low-rest, low-all}
use Rattle.rows.proofs.Row.low_behind.Goals as goal

pub returns-then-h-eq0 : goal.returns-then-h-eq0
returns-then-h-eq0 c = low-empty _ _ _ _ _ c.requires.longest c.if-h-eq0.true (c.requires.spells_empty c.if-h-eq0.true)

pub bounds-work-self : goal.bounds-work-self
bounds-work-self c = record-there c.requires.inside

pub returns-then-work-self-eq0 : goal.returns-then-work-self-eq0
returns-then-work-self-eq0 c =
    let l = c.in_ok-low.ensures in
    low-rest _ _ _ _ _ c.requires.longest c.requires.shaped c.if-h-eq0.false _ l.lowest c.if-work-self-eq0.true l.positive

pub returns-then-low-eq1 : goal.returns-then-low-eq1
returns-then-low-eq1 c =
    low-all _ _ _ _ _ c.requires.longest c.requires.shaped c.if-h-eq0.false _ c.in_ok-low.ensures.lowest c.if-work-self-eq0.false c.if-low-eq1.true
