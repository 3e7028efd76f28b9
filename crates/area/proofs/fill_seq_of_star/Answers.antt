-- `area::fill_seq_of_star` meets its contract, by the law of a Seq of a Star.
-- Assumes nothing.
use native.Mathlib.Omega.{arith}
use mathlib.Core.Logic.{inr}
use Rattle.area.proofs.Records.{a-child, seq-first, of-star-cutting, of-star-made}
use Rattle.area.proofs.fill_seq_of_star.Goals as goal

pub base_of-base-requires : goal.base_of-base-requires
base_of-base-requires c =
    let e = c.a_at.ensures in
    record { passes = c.requires.ready.known.sized.passes; inside = omega (arith, c.requires.ready.number, a-child _ _ _ _ c.requires.ready (inr c.requires.kind), e); kind = rw e c.requires.child }

pub add-requires : goal.add-requires
add-requires c =
    let x = seq-first _ _ _ _ c.requires.ready c.requires.kind c.b_at.ensures in
    record { growing = rw c.count-m.ensures.count x.0; earlier = rw c.count-m.ensures.count x.1 }

pub add_cuts-requires : goal.add_cuts-requires
add_cuts-requires c =
    rw c.count-m.ensures.count
    (of-star-cutting _ _ _ _ c.requires.ready c.requires.kind c.a_at.ensures c.b_at.ensures _ (rw c.count-m.ensures.count at c.add.ensures)
    (rw c.a_at.ensures at c.base_of-base.ensures))

pub returns : goal.returns
returns c =
    of-star-made _ _ _ _ c.requires.ready c.requires.kind c.a_at.ensures c.b_at.ensures _ (rw c.count-m.ensures.count at c.add.ensures)
    (rw c.a_at.ensures at c.base_of-base.ensures) _ (rw c.count-m.ensures.count at c.add_cuts.ensures)
