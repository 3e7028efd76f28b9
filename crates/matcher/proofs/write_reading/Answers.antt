-- `matcher::write_reading` meets its contract: one walk writes where the largest reading has room; otherwise what a first walk counts, a second writes.
-- Assumes nothing.
use Rattle.matcher.proofs.Answering.{sizes-small, most-held, write-given, answer-done, count_given, answer-buffer, counted-held, answer-counted}
use Rattle.matcher.proofs.write_reading.Goals as goal

pub most_bytes-requires : goal.most_bytes-requires
most_bytes-requires c =
    let x = sizes-small (rw (c.requires.whole.0, c.requires.whole.1) at c.requires.here) in
    record { m_bound = rw c.count.ensures.count x.0; n_bound = rw c.requires.whole.1 x.1 }

pub walk-end-requires : goal.walk-end-requires
walk-end-requires c =
    let h = rw (c.requires.whole.0, c.requires.whole.1) at c.requires.here in
    rw (c.requires.whole.0, c.requires.whole.1)
    (write-given h
    (most-held h c.args.out.now
    (rw (c.count.ensures.count, c.requires.whole.1) at (rw c.most_bytes.ensures at c.if-most_bytes-out.true))) c.requires.area)

pub returns-then-most_bytes-out : goal.returns-then-most_bytes-out
returns-then-most_bytes-out c =
    let h = rw (c.requires.whole.0, c.requires.whole.1) at c.requires.here in
    answer-done h
    (most-held h c.args.out.now
    (rw (c.count.ensures.count, c.requires.whole.1) at (rw c.most_bytes.ensures at c.if-most_bytes-out.true)))
    (rw (c.requires.whole.0, c.requires.whole.1) at c.walk-end.ensures)

pub walk-need-requires : goal.walk-need-requires
walk-need-requires c =
    rw (c.requires.whole.0, c.requires.whole.1)
    (count_given (rw (c.requires.whole.0, c.requires.whole.1) at c.requires.here) _ c.requires.area)

pub returns-then-out-need : goal.returns-then-out-need
returns-then-out-need c =
    answer-buffer (rw (c.requires.whole.0, c.requires.whole.1) at c.requires.here)
    (rw (c.requires.whole.0, c.requires.whole.1) at c.walk-need.ensures) c.if-out-need.true

pub walk-end-requires-2 : goal.walk-end-requires-2
walk-end-requires-2 c =
    let h = rw (c.requires.whole.0, c.requires.whole.1) at c.requires.here in
    rw (c.requires.whole.0, c.requires.whole.1)
    (write-given h (counted-held h (rw (c.requires.whole.0, c.requires.whole.1) at c.walk-need.ensures) c.if-out-need.false) c.requires.area)

pub returns : goal.returns
returns c =
    answer-counted (rw (c.requires.whole.0, c.requires.whole.1) at c.requires.here)
    (rw (c.requires.whole.0, c.requires.whole.1) at c.walk-need.ensures) c.if-out-need.false
    (rw (c.requires.whole.0, c.requires.whole.1) at c.walk-end-2.ensures)
