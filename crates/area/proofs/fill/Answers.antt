-- `area::fill` meets its contract: what is found of the table is what the filling needs.
-- Assumes nothing.
use Rattle.area.proofs.Filling.{count_room}
use Rattle.area.proofs.fill.Goals as goal

pub find-requires-clause-room : goal.find-requires-clause-room
find-requires-clause-room c = count_room _ _ _ c.requires.room
