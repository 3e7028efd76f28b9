-- `marks::is_marked` meets its contract: a mark is a bit that is 1.
-- Assumes nothing.
use Rattle.marks.proofs.Laws.{bit_is}
use Rattle.marks.proofs.is_marked.Goals as goal

pub returns : goal.returns
returns c = bit_is _ _
