-- `marks::mark` meets its contract, by the law of the bit that is set.
-- Assumes nothing.
use Rattle.marks.proofs.Laws.{marked-too}
use Rattle.marks.proofs.mark.Goals as goal

pub returns : goal.returns
returns c = marked-too c.args.words.now c.args.i c.requires
