-- `rows::Row::add` meets its contract.
-- Assumes nothing.
use native.Mathlib.Omega.{arith}
use mathlib.Core.Path.{◌∙◌}
use Rattle.rows.proofs.Bytes.{set-byte}
use Rattle.rows.proofs.Places.{size-grows, head-inside, first_head}
use Rattle.rows.proofs.Joining.{tells-empty, add-whole, add-no-empty, add_nothing, add-only-empty}
use Rattle.rows.proofs.Row.add.Goals as goal

pub returns-then-p-self : goal.returns-then-p-self
returns-then-p-self c = add-whole _ _ _ _ _ _ _ c.if-p-self.true c.add_row.ensures

pub bounds-work-s : goal.bounds-work-s
bounds-work-s c =
    let a = c.args in
    let known = c.requires.earlier.known in
    let fits = size-grows a.self.now.m 0 a.self.now.d (omega arith) in
    omega (arith, c.requires.growing.inside.room, head-inside a.self.now.m 0 a.s known, first_head a.self.now.m a.s)

pub returns-then-p-eq0 : goal.returns-then-p-eq0
returns-then-p-eq0 c = add_nothing _ _ _ _ _ _ c.requires.growing c.if-p-eq0.true c.if-work-s-eq0.true

pub returns-then-work-s-eq0 : goal.returns-then-work-s-eq0
returns-then-work-s-eq0 c = add-no-empty _ _ _ _ _ _ _ c.if-work-s-eq0.true c.add_row-then-work-s-eq0.ensures

pub returns-then-p-eq0-2 : goal.returns-then-p-eq0-2
returns-then-p-eq0-2 c =
    let none = c.if-p-eq0-2.true in
    add-only-empty _ _ _ _ _ _ _ none c.if-work-s-eq0.false c.add_run.ensures

pub add_row_and_empty-requires-clause-spells_empty : goal.add_row_and_empty-requires-clause-spells_empty
add_row_and_empty-requires-clause-spells_empty c =
    tells-empty _ _ _ _ ∙ set-byte _ c.if-work-s-eq0.false
