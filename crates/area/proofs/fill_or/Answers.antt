-- `area::fill_or` meets its contract, by the law of Or.
-- Assumes nothing.
use Rattle.area.proofs.Records.{or-first, or-second, or-made}
use Rattle.area.proofs.fill_or.Goals as goal

pub add-requires : goal.add-requires
add-requires c =
    let x = or-first _ _ _ _ c.requires.ready c.requires.kind c.a_at.ensures in
    record { growing = rw c.count-m.ensures.count x.0; earlier = rw c.count-m.ensures.count x.1 }

pub add-requires-2 : goal.add-requires-2
add-requires-2 c =
    let x = or-second _ _ _ _ c.requires.ready c.requires.kind c.a_at.ensures c.b_at.ensures _ (rw c.count-m.ensures.count at c.add.ensures) in
    record { growing = rw c.count-m.ensures.count x.0; earlier = rw c.count-m.ensures.count x.1 }

pub returns : goal.returns
returns c = or-made _ _ _ _ c.requires.ready c.requires.kind c.a_at.ensures c.b_at.ensures _ _ (rw c.count-m.ensures.count at c.add.ensures) (rw c.count-m.ensures.count at c.add-2.ensures)
