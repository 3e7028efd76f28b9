-- `edges::seq_bits` meets its contract by the law `seq-right`. Assumes nothing.
use Rattle.edges.proofs.Bits.{seq-right}
use Rattle.edges.proofs.seq_bits.Goals as goal

pub returns : goal.returns
returns c = seq-right c.args.a c.args.b
