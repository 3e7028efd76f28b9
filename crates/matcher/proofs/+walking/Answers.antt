-- The walk meets its contract, kind by kind. The record's number falls from a record to its child; at one record, `walk` calls the function of
-- its kind, and a Star's calls the loop over its iterations.
-- Assumes nothing.
use native.Mathlib.Omega.{arith}
use mathlib.Core.Path.{sym, ◌∙◌, ap}
use mathlib.Core.Logic.{⊎_map}
use Rattle.table.specs.Kinds.{number_of}
use Rattle.table.proofs.Passing.{letter_at}
use Rattle.matcher.proofs.Positions.{not-nothing, row_told, or-a, or-b, seq-a, seq-b, seq-searched, star-a, star-searched}
use Rattle.matcher.proofs.Walking.{bytes-here, headed-room, headed-given, headed-walked, left-headed, right-headed, star-headed, seq-room, seq-first, seq-second, seq-walked}
use Rattle.matcher.proofs.Iterating.{count_small, iterating-none, iterating-first, iterating-more, iterating-end}
use Rattle.matcher.proofs.+walking.Goals as goal

pub walk-walk_empty-requires : goal.walk-walk_empty-requires
walk-walk_empty-requires t c = record { given = c.requires; empty = sym c.kind_at.ensures.kind ∙ ap number_of c.in-Empty.is }

pub walk-walk_letter-requires : goal.walk-walk_letter-requires
walk-walk_letter-requires t c = record { given = c.requires; letter = letter_at c.args.area.now.table.now c.args.k c.kind_at.ensures.kind (⊎_map (ap number_of) (ap number_of) c.in-Range.is) }

pub walk-walk_or-requires : goal.walk-walk_or-requires
walk-walk_or-requires t c = (omega (arith, c.decreases), (c.requires, sym c.kind_at.ensures.kind ∙ ap number_of c.in-Or.is))

pub walk-walk_seq-requires : goal.walk-walk_seq-requires
walk-walk_seq-requires t c = (omega (arith, c.decreases), (c.requires, sym c.kind_at.ensures.kind ∙ ap number_of c.in-Seq.is))

pub walk-walk_star-requires : goal.walk-walk_star-requires
walk-walk_star-requires t c = (omega (arith, c.decreases), (c.requires, sym c.kind_at.ensures.kind ∙ ap number_of c.in-Star.is))

pub walk-returns-in-Nothing : goal.walk-returns-in-Nothing
walk-returns-in-Nothing t c = absurd (not-nothing c.requires.here (sym c.kind_at.ensures.kind ∙ ap number_of c.in-Nothing.is))

pub walk_iterations-a_at-record-requires : goal.walk_iterations-a_at-record-requires
walk_iterations-a_at-record-requires t c = c.requires.given.here.record_inside

pub walk_iterations-loop-size-init : goal.walk_iterations-loop-size-init
walk_iterations-loop-size-init t c = iterating-none c.requires.given

pub walk_iterations-longest_first_part-cut-requires : goal.walk_iterations-longest_first_part-cut-requires
walk_iterations-longest_first_part-cut-requires t c =
    rw c.count-m.ensures.count
    (star-searched c.loop-size.invariant.here c.a_at-record.ensures c.requires.star _ (omega arith)
    (omega (arith, c.loop-size-test.true)) c.requires.given.area)

pub walk_iterations-walk-next-requires : goal.walk_iterations-walk-next-requires
walk_iterations-walk-next-requires t c = (
  omega (arith, c.decreases, star-a c.loop-size.invariant.here c.a_at-record.ensures c.requires.star),
  iterating-first c.loop-size.invariant c.a_at-record.ensures c.requires.star
      (omega (arith, c.longest_first_part-cut.ensures.found.above)) (rw c.count-m.ensures.count at c.longest_first_part-cut.ensures) c.requires.given.area,
)

pub walk_iterations-overflow_sub-left : goal.walk_iterations-overflow_sub-left
walk_iterations-overflow_sub-left t c = omega (arith, c.longest_first_part-cut.ensures.found.inside, c.loop-size.invariant.here.size)

pub walk_iterations-overflow_sub-size : goal.walk_iterations-overflow_sub-size
walk_iterations-overflow_sub-size t c = omega (arith, c.longest_first_part-cut.ensures.found.inside)

pub walk_iterations-loop-size-smaller : goal.walk_iterations-loop-size-smaller
walk_iterations-loop-size-smaller t c = omega (arith, c.longest_first_part-cut.ensures.found.inside, c.longest_first_part-cut.ensures.found.above)

pub walk_iterations-loop-size-preserved : goal.walk_iterations-loop-size-preserved
walk_iterations-loop-size-preserved t c =
    iterating-more c.loop-size.invariant c.a_at-record.ensures c.requires.star
    (omega (arith, c.longest_first_part-cut.ensures.found.above)) (rw c.count-m.ensures.count at c.longest_first_part-cut.ensures) c.walk-next.ensures

pub walk_iterations-returns : goal.walk_iterations-returns
walk_iterations-returns t c = iterating-end c.loop-size.invariant c.a_at-record.ensures c.requires.star (omega (arith, c.loop-size-test.false))

pub walk_or-a_at-a-requires : goal.walk_or-a_at-a-requires
walk_or-a_at-a-requires t c = c.requires.given.here.record_inside

pub walk_or-b_at-b-requires : goal.walk_or-b_at-b-requires
walk_or-b_at-b-requires t c = c.requires.given.here.record_inside

pub walk_or-tell-requires : goal.walk_or-tell-requires
walk_or-tell-requires t c =
    record {
      inside = rw c.count-m.ensures.count (row_told c.requires.given.here _ (omega (
        arith,
        or-a c.requires.given.here c.a_at-a.ensures c.b_at-b.ensures c.requires.or,
        c.requires.given.here.record_inside,
      )) c.requires.given.area);
      e_le_d = omega (arith, c.requires.given.here.size);
    }

pub walk_or-put-next-requires : goal.walk_or-put-next-requires
walk_or-put-next-requires t c =
    record {
      room = headed-room
          (left-headed c.requires.given.here c.a_at-a.ensures c.b_at-b.ensures c.requires.or (rw c.count-m.ensures.count at c.tell.ensures) c.if-tell.true)
          c.requires.given;
      bytes = bytes-here c.requires.given.here;
    }

pub walk_or-walk-requires : goal.walk_or-walk-requires
walk_or-walk-requires t c = (
  omega (arith, c.decreases, or-a c.requires.given.here c.a_at-a.ensures c.b_at-b.ensures c.requires.or),
  headed-given
      (left-headed c.requires.given.here c.a_at-a.ensures c.b_at-b.ensures c.requires.or (rw c.count-m.ensures.count at c.tell.ensures) c.if-tell.true)
      c.requires.given c.put-next.ensures,
)

pub walk_or-returns-then-tell : goal.walk_or-returns-then-tell
walk_or-returns-then-tell t c =
    headed-walked
    (left-headed c.requires.given.here c.a_at-a.ensures c.b_at-b.ensures c.requires.or (rw c.count-m.ensures.count at c.tell.ensures) c.if-tell.true)
    c.put-next.ensures c.walk.ensures

pub walk_or-put-next-requires-2 : goal.walk_or-put-next-requires-2
walk_or-put-next-requires-2 t c =
    record {
      room = headed-room
          (right-headed c.requires.given.here c.a_at-a.ensures c.b_at-b.ensures c.requires.or (rw c.count-m.ensures.count at c.tell.ensures) c.if-tell.false)
          c.requires.given;
      bytes = bytes-here c.requires.given.here;
    }

pub walk_or-walk-requires-2 : goal.walk_or-walk-requires-2
walk_or-walk-requires-2 t c = (
  omega (arith, c.decreases, or-b c.requires.given.here c.a_at-a.ensures c.b_at-b.ensures c.requires.or),
  headed-given
      (right-headed c.requires.given.here c.a_at-a.ensures c.b_at-b.ensures c.requires.or (rw c.count-m.ensures.count at c.tell.ensures) c.if-tell.false)
      c.requires.given c.put-next-2.ensures,
)

pub walk_or-returns : goal.walk_or-returns
walk_or-returns t c =
    headed-walked
    (right-headed c.requires.given.here c.a_at-a.ensures c.b_at-b.ensures c.requires.or (rw c.count-m.ensures.count at c.tell.ensures) c.if-tell.false)
    c.put-next-2.ensures c.walk-2.ensures

pub walk_seq-a_at-a-requires : goal.walk_seq-a_at-a-requires
walk_seq-a_at-a-requires t c = c.requires.given.here.record_inside

pub walk_seq-b_at-b-requires : goal.walk_seq-b_at-b-requires
walk_seq-b_at-b-requires t c = c.requires.given.here.record_inside

pub walk_seq-longest_first_part-first-requires : goal.walk_seq-longest_first_part-first-requires
walk_seq-longest_first_part-first-requires t c =
    rw c.count-m.ensures.count
    (seq-searched c.requires.given.here c.a_at-a.ensures c.b_at-b.ensures c.requires.seq c.requires.given.area)

pub walk_seq-put-next-requires : goal.walk_seq-put-next-requires
walk_seq-put-next-requires t c =
    record {
      room = seq-room c.requires.given c.a_at-a.ensures c.b_at-b.ensures c.requires.seq (rw c.count-m.ensures.count at c.longest_first_part-first.ensures);
      bytes = bytes-here c.requires.given.here;
    }

pub walk_seq-walk-middle-requires : goal.walk_seq-walk-middle-requires
walk_seq-walk-middle-requires t c = (
  omega (arith, c.decreases, seq-a c.requires.given.here c.a_at-a.ensures c.b_at-b.ensures c.requires.seq),
  seq-first c.requires.given c.a_at-a.ensures c.b_at-b.ensures c.requires.seq (rw c.count-m.ensures.count at c.longest_first_part-first.ensures)
      c.put-next.ensures,
)

pub walk_seq-overflow_sub-left : goal.walk_seq-overflow_sub-left
walk_seq-overflow_sub-left t c = omega (arith, c.longest_first_part-first.ensures.found.inside, c.requires.given.here.size)

pub walk_seq-overflow_sub-size : goal.walk_seq-overflow_sub-size
walk_seq-overflow_sub-size t c = omega (arith, c.longest_first_part-first.ensures.found.inside)

pub walk_seq-walk-requires : goal.walk_seq-walk-requires
walk_seq-walk-requires t c = (
  omega (arith, c.decreases, seq-b c.requires.given.here c.a_at-a.ensures c.b_at-b.ensures c.requires.seq),
  seq-second c.requires.given c.a_at-a.ensures c.b_at-b.ensures c.requires.seq (rw c.count-m.ensures.count at c.longest_first_part-first.ensures)
      c.put-next.ensures c.walk-middle.ensures,
)

pub walk_seq-returns : goal.walk_seq-returns
walk_seq-returns t c =
    seq-walked c.requires.given c.a_at-a.ensures c.b_at-b.ensures c.requires.seq (rw c.count-m.ensures.count at c.longest_first_part-first.ensures)
    c.put-next.ensures c.walk-middle.ensures c.walk.ensures

pub walk_star-count_iterations-times-requires : goal.walk_star-count_iterations-times-requires
walk_star-count_iterations-times-requires t c = record { here = c.requires.given.here; area = c.requires.given.area; star = c.requires.star }

pub walk_star-overflow_cast-times : goal.walk_star-overflow_cast-times
walk_star-overflow_cast-times t c = omega (arith, count_small c.requires.given.here c.requires.star c.count_iterations-times.ensures)

pub walk_star-put-next-requires : goal.walk_star-put-next-requires
walk_star-put-next-requires t c =
    record {
      room = headed-room (star-headed c.requires.given.here c.requires.star c.count_iterations-times.ensures) c.requires.given;
      bytes = bytes-here c.requires.given.here;
    }

pub walk_star-walk_iterations-requires : goal.walk_star-walk_iterations-requires
walk_star-walk_iterations-requires t c = (
  omega (arith, c.decreases),
  (
    headed-given (star-headed c.requires.given.here c.requires.star c.count_iterations-times.ensures) c.requires.given
        c.put-next.ensures,
    c.requires.star,
  ),
)

pub walk_star-returns : goal.walk_star-returns
walk_star-returns t c =
    headed-walked (star-headed c.requires.given.here c.requires.star c.count_iterations-times.ensures) c.put-next.ensures
    c.walk_iterations.ensures
