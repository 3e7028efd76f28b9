-- `marks::copy_marks` meets its contract: the words copied are those of `from` from word `at` on.
-- Assumes nothing.
use Rattle.marks.proofs.Laws.{copied}
use Rattle.marks.proofs.copy_marks.Goals as goal

pub returns : goal.returns
returns c = copied _ _ _ _ c.copy_from_slice.ensures.len c.copy_from_slice.ensures.after
