-- `reading::fit_whole` meets its contract: one law of Wholes for each way out. Assumes nothing.
use mathlib.Core.Path.{sym, ◌∙◌}
use Rattle.reading.proofs.Wholes.{whole-spells, whole-over, whole-unfit}
use Rattle.reading.proofs.fit_whole.Goals as goal

pub returns-in_err-part : goal.returns-in_err-part
returns-in_err-part c =
    rw c.from_residual.ensures
    (whole-unfit c.args.table.now c.args.k c.args.reading.now (sym c.fit_element.ensures ∙ c.in_err-part.was))

pub returns-then-part-reading : goal.returns-then-part-reading
returns-then-part-reading c =
    whole-spells c.args.table.now c.args.k c.args.reading.now _ (sym c.fit_element.ensures ∙ c.in_ok-part.was) c.if-part-reading.true

pub returns-else-part-reading : goal.returns-else-part-reading
returns-else-part-reading c =
    whole-over c.args.table.now c.args.k c.args.reading.now _ (sym c.fit_element.ensures ∙ c.in_ok-part.was) c.if-part-reading.false
