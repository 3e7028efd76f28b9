-- `apart::told_apart` meets its contract. Assumes nothing.
use Rattle.apart.proofs.Sharing.{told-empty, told-edges}
use Rattle.apart.proofs.told_apart.Goals as goal

pub returns-then-shared-ne0 : goal.returns-then-shared-ne0
returns-then-shared-ne0 c = told-empty c.args.shared c.if-shared-ne0.true

pub returns : goal.returns
returns c = told-edges c.args.shared c.if-shared-ne0.false
