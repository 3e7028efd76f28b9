-- `matcher::longest_first_part` meets its contract: the search goes downward, and no cut stands above the one it is at.
-- Assumes nothing.
use native.Mathlib.Omega.{arith}
use Rattle.matcher.proofs.Searching.{search-start, search-first, search-second, search-found, search-not-first, search-not-second, search-end}
use Rattle.matcher.proofs.longest_first_part.Goals.{then-tell+else-tell-2, else-tell}
use Rattle.matcher.proofs.longest_first_part.Goals as goal

pub longest-requires : goal.longest-requires
longest-requires c = search-first c.requires

pub loop-cut-init : goal.loop-cut-init
loop-cut-init c = search-start c.requires c.longest.ensures.0 c.min-cut.ensures

pub tell-requires : goal.tell-requires
tell-requires c = record { inside = search-first c.requires; e_le_d = omega (arith, c.requires.size, c.loop-cut.invariant.inside) }

pub overflow_sub-left : goal.overflow_sub-left
overflow_sub-left c = omega (arith, c.requires.size, c.loop-cut.invariant.inside)

pub overflow_sub-size : goal.overflow_sub-size
overflow_sub-size c = omega (arith, c.loop-cut.invariant.inside)

pub tell-requires-then-tell : goal.tell-requires-then-tell
tell-requires-then-tell c = record { inside = search-second c.requires _; e_le_d = omega (arith, c.requires.size) }

pub returns-then-tell-2 : goal.returns-then-tell-2
returns-then-tell-2 c = search-found c.requires c.loop-cut.invariant c.tell.ensures c.if-tell.true c.tell-then-tell.ensures c.if-tell-2.true

pub overflow_sub-cut : goal.overflow_sub-cut
overflow_sub-cut c = omega (arith, c.loop-cut-test.true)

pub loop-cut-smaller : goal.loop-cut-smaller
loop-cut-smaller c = omega (arith, c.loop-cut-test.true)

pub loop-cut-preserved : goal.loop-cut-preserved
loop-cut-preserved c =
    elim c.if-tell.branch [
      | then-tell+else-tell-2 w ↦ search-not-second c.requires c.loop-cut.invariant c.loop-cut-test.true w.tell-then-tell.ensures w.if-tell-2.false
      | else-tell w ↦ search-not-first c.requires c.loop-cut.invariant c.loop-cut-test.true c.tell.ensures w.if-tell.false
    ]

pub returns : goal.returns
returns c = search-end c.requires c.loop-cut.invariant c.loop-cut-test.false
