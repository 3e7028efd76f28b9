-- Rules with alternatives exchanged (document 02, request 9).
-- Assumes nothing.
use Rattle.std.specs.Prelude.{ℕ, List}
use Rattle.reorder.specs.Exchanges.{reordered}
use Rattle.page.specs.Entries.{Rules}

abbrev pub sorted : Rules → List ℕ → Rules
sorted l ks = record { table = reordered l.table ks; start = l.start }
