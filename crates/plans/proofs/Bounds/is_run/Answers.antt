-- `plans::Bounds::is_run` meets its contract. The tests read the two columns that the contract speaks of.
-- Assumes nothing.
use Rattle.plans.proofs.Plain.{plain-seen}
use Rattle.plans.proofs.Bounds.is_run.Goals as goal

pub returns-then-self-k : goal.returns-then-self-k
returns-then-self-k c = plain-seen c.args.self.now c.args.k 255 c.if-self-k.true
