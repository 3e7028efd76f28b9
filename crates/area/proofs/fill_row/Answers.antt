-- `area::fill_row` meets its contract: a record without children has an empty row.
-- Assumes nothing.
use native.Mathlib.Omega.{arith}
use mathlib.Core.Logic.{⊎_elim}
use Rattle.area.proofs.Records.{leaf-made}
use Rattle.area.proofs.fill_row.Goals as goal

pub returns-in-Nothing : goal.returns-in-Nothing
returns-in-Nothing c =
    ⊎_elim (λ e. leaf-made _ _ _ _ c.requires.ready c.requires.no_letter 0 (rw e at c.kind_at.ensures.kind) (λ z. omega arith) (λ z. omega arith) (λ z. omega arith))
    (⊎_elim (λ e. leaf-made _ _ _ _ c.requires.ready c.requires.no_letter 1 (rw e at c.kind_at.ensures.kind) (λ z. omega arith) (λ z. omega arith) (λ z. omega arith))
    (⊎_elim (λ e. leaf-made _ _ _ _ c.requires.ready c.requires.no_letter 2 (rw e at c.kind_at.ensures.kind) (λ z. omega arith) (λ z. omega arith) (λ z. omega arith))
    (λ e. leaf-made _ _ _ _ c.requires.ready c.requires.no_letter 6 (rw e at c.kind_at.ensures.kind) (λ z. omega arith) (λ z. omega arith) (λ z. omega arith))))
    c.in-Nothing.is
