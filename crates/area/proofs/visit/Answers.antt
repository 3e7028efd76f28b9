-- `area::visit` meets its contract: a plain record stays.
-- Assumes nothing.
use Rattle.area.proofs.Blocks.{plain-seen, composite-ready, composite-visited}
use Rattle.area.proofs.visit.Goals as goal

pub fill_row-requires : goal.fill_row-requires
fill_row-requires c = let x = composite-ready _ _ _ _ _ c.requires.progress c.requires.inside c.requires.bounded c.if-not-bounds-k.true in record { ready = x.0; no_letter = x.1 }

pub returns-then-not-bounds-k : goal.returns-then-not-bounds-k
returns-then-not-bounds-k c = composite-visited _ _ _ _ _ _ c.if-not-bounds-k.true c.fill_row.ensures

pub returns-else-not-bounds-k : goal.returns-else-not-bounds-k
returns-else-not-bounds-k c = plain-seen _ _ _ _ _ c.requires.progress c.requires.inside c.if-not-bounds-k.false
