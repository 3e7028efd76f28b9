-- `descriptors::write_whole` meets its contract. Assumes nothing.
use Rattle.std.proofs.Common.{◌++◌, take}
use Rattle.std.proofs.KnownBytes.{Appends-trans, Appends-kept}
use Rattle.descriptors.proofs.Tries.{moves_front}
use Rattle.descriptors.proofs.write_whole.Goals as goal
use Rattle.descriptors.proofs.write_whole.Goals.{in-Ok, in-Err}

pub loop-preserved : goal.loop-preserved
loop-preserved g c =
    let (done, split, appended) = c.loop.invariant in
    elim c.match-write.branch [
      | in-Ok w ↦ (done ++ take w.in-Ok.n c.loop.rest.now, rw w.rest-is (moves_front _ done c.loop.rest.now w.in-Ok.n split), Appends-trans _ _ _ _ _ appended w.in-Ok.ensures.bytes)
      | in-Err w ↦ (done, rw w.rest-is split, Appends-kept _ _ _ _ appended w.in-Err.ensures.bytes)
    ]
