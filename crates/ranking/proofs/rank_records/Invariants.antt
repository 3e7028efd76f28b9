-- `ranking::rank_records` meets its contract. The loop's invariant: the first i records agree. Assumes nothing.
use Rattle.std.proofs.Common.{◌*◌}
use Rattle.reading.specs.Codec.{record_size}
use Rattle.ranking.proofs.Verdicts.{Agreeing}
use Rattle.ranking.proofs.rank_records.Given as goal

abbrev pub invariant-loop-i : goal.invariant-loop-i
invariant-loop-i l = Agreeing l.first l.second (record_size * l.i)
