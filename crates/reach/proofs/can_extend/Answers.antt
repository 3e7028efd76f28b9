-- `reach::can_extend` meets its contract: what is found before the search, and the search itself.
-- Assumes nothing.
use Rattle.reach.proofs.Searching.{search-starts}
use Rattle.reach.proofs.can_extend.Goals as goal

pub search-requires-clause-reaching : goal.search-requires-clause-reaching
search-requires-clause-reaching c = search-starts _ _ _ c.requires.known.short c.mark_start-marks.ensures
