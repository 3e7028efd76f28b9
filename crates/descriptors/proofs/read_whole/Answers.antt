-- `descriptors::read_whole` meets its contract. Assumes nothing.
use Rattle.std.proofs.Common.{sym, rules, subst}
use Rattle.std.specs.Io.KnownBytes.{Consumes}
use Rattle.std.proofs.KnownBytes.{Consumes-trans}
use Rattle.descriptors.proofs.Tries.{reads_more}
use Rattle.descriptors.proofs.read_whole.Goals as goal

pub loop-done-preserved : goal.loop-done-preserved
loop-done-preserved g c =
    (search rules, search rules, subst (Consumes _ _) (sym (reads_more c.loop-done.done c.in_ok-n.n c.loop-done.buffer c.read_some.new.buffer c.loop-done.invariant.1 c.in_ok-n.ensures.bound.0)) (Consumes-trans _ _ _ _ _ c.loop-done.invariant.2 c.in_ok-n.ensures.bytes.0))
