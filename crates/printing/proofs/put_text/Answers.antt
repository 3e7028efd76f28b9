-- `printing::put_text` meets its contract: the text is copied to its place. Assumes nothing.
use Rattle.printing.proofs.Writes.{wrote-copy}
use Rattle.printing.proofs.put_text.Goals as goal

pub returns : goal.returns
returns c = wrote-copy _ _ _ _ c.requires c.copy_from_slice.ensures.after
