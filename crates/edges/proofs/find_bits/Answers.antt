-- `edges::find_bits` meets its contract. Assumes nothing.
use native.Mathlib.Omega.{arith}
use Rattle.table.proofs.Passing.{count-bound}
use Rattle.edges.proofs.Records.{found-next, near_next}
use Rattle.edges.proofs.find_bits.Goals as goal

pub bounds-found-j : goal.bounds-found-j
bounds-found-j c = omega (arith, count-bound _ c.bits_of-near.ensures.passes)

pub loop-j-preserved : goal.loop-j-preserved
loop-j-preserved c =
    let v = c.loop-j.invariant in
    let b = count-bound _ c.bits_of-near.ensures.passes in
    record {
      inside = omega arith;
      found = found-next _ _ _ _ _ _ (omega arith) v.found c.bits_of-near.ensures.value;
      near = near_next c.loop-j.j c.loop-j.found c.bits_of-near.result (omega (arith, v.found.long));
      marked = c.bits_of-near.ensures.marked;
    }
