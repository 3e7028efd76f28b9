-- `tokens::list_records` meets its contract. Assumes nothing.
use native.Mathlib.Omega.{arith}
use mathlib.Core.Path.{◌≡◌}
use Prim.Native.Nat.{◌+◌, ◌*◌}
use Rattle.reading.specs.Codec.{record_size}
use Rattle.tokens.proofs.Walks.{walk_start, walk-given, walk_step, walk_end}
use Rattle.tokens.proofs.list_records.Goals as goal

pub loop-i-init : goal.loop-i-init
loop-i-init c = walk_start c.requires (omega arith) (omega arith) (omega arith)

pub list_record-listing-requires : goal.list_record-listing-requires
list_record-listing-requires c =
    record { placed = omega (arith, c.loop-i-test.true); given = walk-given c.loop-i.invariant (omega (arith, c.loop-i-test.true)) }

pub loop-i-preserved : goal.loop-i-preserved
loop-i-preserved c =
    let next : record_size * (c.loop-i.i + 1) ≡ record_size * c.loop-i.i + record_size = omega arith in
    rw next (walk_step c.loop-i.invariant (omega (arith, c.loop-i-test.true)) c.list_record-listing.ensures)

pub returns : goal.returns
returns c = let x = walk_end c.loop-i.invariant (omega (arith, c.loop-i-test.false)) in record { index = x.0; buffer = x.1 }
