-- `area::fill_seq_of_other` meets its contract, by the laws of a Seq whose first child spells the empty line, and of one whose first does not.
-- Assumes nothing.
use native.Mathlib.Omega.{arith}
use mathlib.Core.Logic.{inr}
use Rattle.area.proofs.Records.{a-child, empty-there, looked-set, looked-unset, seq-first, star-seen, with-cutting, with-made, without-cutting, without-made}
use Rattle.area.proofs.fill_seq_of_other.Goals as goal
use Rattle.area.proofs.fill_seq_of_other.Goals.{then-work-a-ne0, else-work-a-ne0}

pub bounds-work-a : goal.bounds-work-a
bounds-work-a c = empty-there _ _ _ _ c.requires.ready _ (omega (arith, a-child _ _ _ _ c.requires.ready (inr c.requires.kind), c.a_at-a.ensures, c.requires.ready.number))

pub add-requires : goal.add-requires
add-requires c =
    let x = seq-first _ _ _ _ c.requires.ready c.requires.kind c.b_at-b.ensures in
    record { growing = rw c.count-m.ensures.count x.0; earlier = rw c.count-m.ensures.count x.1 }

pub add_cuts-requires : goal.add_cuts-requires
add_cuts-requires c =
    elim c.if-work-a-ne0.branch [
      | then-work-a-ne0 w ↦ rw (w.work-is, c.count-m.ensures.count) (with-cutting _ _ _ _ c.requires.ready c.requires.kind c.a_at-a.ensures c.b_at-b.ensures _ (rw c.count-m.ensures.count at w.add.ensures) (star-seen c.args.table.now c.b_at-b.result _ _ c.kind_at.ensures.kind c.eq-star.ensures))
      | else-work-a-ne0 w ↦ rw (w.work-is, c.count-m.ensures.count) (without-cutting _ _ _ _ c.requires.ready c.requires.kind c.a_at-a.ensures c.b_at-b.ensures (star-seen c.args.table.now c.b_at-b.result _ _ c.kind_at.ensures.kind c.eq-star.ensures))
    ]

pub returns : goal.returns
returns c =
    elim c.if-work-a-ne0.branch [
      | then-work-a-ne0 w ↦
          with-made _ _ _ _ c.requires.ready c.requires.kind c.a_at-a.ensures c.b_at-b.ensures _ (rw c.count-m.ensures.count at w.add.ensures)
          (rw c.a_at-a.ensures at (looked-set _ _ _ _ c.requires.ready _ (omega (arith, a-child _ _ _ _ c.requires.ready (inr c.requires.kind), c.a_at-a.ensures, c.requires.ready.number)) w.if-work-a-ne0.true))
          _ (rw (w.work-is, c.count-m.ensures.count) at c.add_cuts.ensures)
      | else-work-a-ne0 w ↦
          without-made _ _ _ _ c.requires.ready c.requires.kind c.a_at-a.ensures c.b_at-b.ensures
          (rw c.a_at-a.ensures at (looked-unset _ _ _ _ c.requires.ready _ (omega (arith, a-child _ _ _ _ c.requires.ready (inr c.requires.kind), c.a_at-a.ensures, c.requires.ready.number)) w.if-work-a-ne0.false))
          _ (rw (w.work-is, c.count-m.ensures.count) at c.add_cuts.ensures)
    ]
