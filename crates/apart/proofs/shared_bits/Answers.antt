-- `apart::shared_bits` meets its contract. Assumes nothing.
use Rattle.apart.proofs.Sharing.{bits-shared}
use Rattle.apart.proofs.shared_bits.Goals as goal

pub returns : goal.returns
returns c = bits-shared c.args.table.now c.args.i c.args.j c.args.c _ _ c.find_bits-first.ensures.value c.find_bits-second.ensures.value
