-- `plans::list_run` meets its contract: one law of Finding for a record that does not repeat. Assumes nothing.
use Rattle.plans.proofs.Finding.{listed_same}
use Rattle.plans.proofs.list_run.Goals as goal

pub returns-then-bounds-k : goal.returns-then-bounds-k
returns-then-bounds-k c = listed_same _ _ _ _ c.requires.listed c.if-bounds-k.true
