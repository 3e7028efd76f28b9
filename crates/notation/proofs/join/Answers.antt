-- `notation::join` meets its contract. Assumes nothing.
use native.Mathlib.Omega.{arith}
use borrow.Author.Tests.{ne_eqb}
use Rattle.notation.proofs.join.Goals as goal

pub returns-clause-buffer : goal.returns-clause-buffer
returns-clause-buffer c =
    rw (ne_eqb c.args.mark 0 (omega arith), ← c.number_byte-left.ensures, ← c.number_byte-right.ensures) c.store.ensures
