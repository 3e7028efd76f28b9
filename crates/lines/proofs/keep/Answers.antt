-- `lines::keep` meets its contract: what stands behind the kept bytes is the copy. Assumes nothing.
use Rattle.std.proofs.Common.{arith}
use Rattle.lines.proofs.Keeping.{keeps}
use Rattle.lines.proofs.keep.Goals as goal

pub returns : goal.returns
returns c = record { few = omega arith; holds = keeps _ _ _ _ _ c.requires.line c.requires.kept (omega (arith, c.min-next.ensures)) c.copy_from_slice.ensures.after }
