-- `tokens::list_records` meets its contract. The loop's invariant is Walking: the tokens of the first i records are listed. Assumes nothing.
use Rattle.std.proofs.Common.{◌*◌}
use Rattle.reading.specs.Codec.{record_size}
use Rattle.tokens.proofs.Walks.{Walking}
use Rattle.tokens.proofs.list_records.Given as goal

abbrev pub invariant-loop-i : goal.invariant-loop-i
invariant-loop-i l = Walking l.table l.reading l.writing l.initial.out l.out (record_size * l.i) l.listing
