-- `reading::spell_into` meets its contract. The loop's invariant is Copying: what the first i records spell stands in front. Assumes nothing.
use Rattle.std.proofs.Common.{◌*◌}
use Rattle.reading.specs.Codec.{record_size}
use Rattle.reading.proofs.Copying.{Copying}
use Rattle.reading.proofs.spell_into.Given as goal

abbrev pub invariant-loop-i : goal.invariant-loop-i
invariant-loop-i l = Copying l.reading l.initial.out l.out (record_size * l.i) l.size
