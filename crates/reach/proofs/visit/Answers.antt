-- `reach::visit` meets its contract: the record's marks are copied, and the function of its kind does the rest.
-- Assumes nothing.
use mathlib.Core.Path.{refl, sym}
use Rattle.reach.proofs.Visits.{visiting, nothing-visited, empty-visited}
use Rattle.reach.proofs.visit.Goals as goal

pub returns-in-Nothing : goal.returns-in-Nothing
returns-in-Nothing c =
    nothing-visited (visiting c.requires.known c.requires.inside c.told-marks refl c.copy_marks.ensures) (sym c.in-Nothing.ensures.kind)

pub returns-in-Empty : goal.returns-in-Empty
returns-in-Empty c =
    empty-visited (visiting c.requires.known c.requires.inside c.told-marks refl c.copy_marks.ensures) (sym c.in-Empty.ensures.kind) _ c.is_marked.ensures
