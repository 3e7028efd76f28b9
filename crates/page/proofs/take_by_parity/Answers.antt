-- `page::take_by_parity` meets its contract: the first buffer for an even number, the second for an odd one.
-- Assumes nothing.
use native.Mathlib.Omega.{arith}
use Rattle.page.proofs.Taking.{even-within, odd-within}
use Rattle.page.proofs.take_by_parity.Goals as goal

pub invariant_of-prior : goal.invariant_of-prior
invariant_of-prior c = record { inside = even-within c.args.number _ c.args.first.now _ _ (omega arith) c.requires.prior }

pub invariant_of-prior-2 : goal.invariant_of-prior-2
invariant_of-prior-2 c = record { inside = odd-within c.args.number _ _ c.args.second.now _ (omega arith) c.requires.prior }
