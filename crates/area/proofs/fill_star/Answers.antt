-- `area::fill_star` meets its contract, by the laws of Star.
-- Assumes nothing.
use Rattle.area.proofs.Records.{star-first, star-cutting, star-made, star-seen, star-of-star-made}
use Rattle.area.proofs.fill_star.Goals as goal

pub add-requires : goal.add-requires
add-requires c =
    let x = star-first _ _ _ _ c.requires.ready c.requires.kind c.a_at-a.ensures in
    record { growing = rw c.count-m.ensures.count x.0; earlier = rw c.count-m.ensures.count x.1 }

pub returns-then-eq : goal.returns-then-eq
returns-then-eq c =
    star-of-star-made _ _ _ _ c.requires.ready c.requires.kind c.a_at-a.ensures
    (star-seen c.args.table.now c.a_at-a.result _ _ c.kind_at.ensures.kind c.eq.ensures c.if-eq.true) _ (rw c.count-m.ensures.count at c.add.ensures)

pub add_cuts-requires : goal.add_cuts-requires
add_cuts-requires c =
    rw c.count-m.ensures.count
    (star-cutting _ _ _ _ c.requires.ready c.requires.kind c.a_at-a.ensures)

pub returns : goal.returns
returns c = star-made _ _ _ _ c.requires.ready c.requires.kind c.a_at-a.ensures _ (rw c.count-m.ensures.count at c.add_cuts.ensures)
