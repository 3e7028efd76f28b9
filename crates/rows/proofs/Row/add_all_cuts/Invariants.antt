-- `rows::Row::add_all_cuts` meets its contract. The loop's invariant: the row holds the cuts before `next`, and with `star` it is closed under second
-- sides.
-- Assumes nothing.
use Prim.Native.Nat.{◌+◌, ◌-◌}
use Rattle.std.specs.Option.{unwrap_or}
use Rattle.rows.specs.Rows.{OfLength}
use Rattle.rows.proofs.Joining.{Closed, CutAt}
use Rattle.rows.proofs.Row.add_all_cuts.Given as goal

abbrev pub invariant-loop-next : goal.invariant-loop-next
invariant-loop-next l = record {
  at : OfLength l.self.d (CutAt l.self.m l.self.d l.self.k l.f l.s 1 l.initial.work l.work) l.next;
  closed : Closed l.self.m l.self.d l.self.k l.s l.star l.initial.work l.work;
}

abbrev pub decreases-loop-next : goal.decreases-loop-next
decreases-loop-next l = l.self.d + 1 - unwrap_or l.next (l.self.d + 1)
