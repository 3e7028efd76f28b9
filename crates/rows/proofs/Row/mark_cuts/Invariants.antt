-- `rows::Row::mark_cuts` meets its contract. The loop's invariant: the row holds the cuts from `c` on before `next`, with `star` it is closed under second
-- sides, it is written out with `h` as its longest length, and it has every length from `t` on.
-- Assumes nothing.
use Prim.Native.Nat.{◌≤◌, ◌+◌, ◌-◌}
use Rattle.std.specs.Option.{unwrap_or}
use Rattle.rows.specs.Rows.{OfLength, WrittenOut, Tail}
use Rattle.rows.proofs.Joining.{Closed, CutAt}
use Rattle.rows.proofs.Row.mark_cuts.Given as goal

abbrev pub invariant-loop-next : goal.invariant-loop-next
invariant-loop-next l = record {
  at : OfLength l.self.d (CutAt l.self.m l.self.d l.self.k l.f l.s l.c l.initial.work l.work) l.next;
  closed : Closed l.self.m l.self.d l.self.k l.s l.star l.initial.work l.work;
  written_out : WrittenOut l.self.m l.self.d l.self.k l.h l.work;
  within : (1 ≤ l.t) × (l.t ≤ l.self.d + 1);
  tail : Tail l.self.m l.work l.self.k l.self.d l.t;
}

abbrev pub decreases-loop-next : goal.decreases-loop-next
decreases-loop-next l = l.self.d + 1 - unwrap_or l.next (l.self.d + 1)
