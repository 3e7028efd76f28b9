-- `edges::mark_in_word` meets its contract, by the law of the run of bits. Assumes nothing.
use Rattle.edges.proofs.Marks.{run-marked}
use Rattle.edges.proofs.mark_in_word.Goals as goal

pub returns : goal.returns
returns c = run-marked c.args.words.now c.args.low c.args.high c.told-words c.requires.some c.requires.one_word c.requires.bytes
