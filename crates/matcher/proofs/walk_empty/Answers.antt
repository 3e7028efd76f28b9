-- `matcher::walk_empty` meets its contract: an Empty's part reads as Void.
-- Assumes nothing.
use Rattle.matcher.proofs.Walking.{bytes-here, empty-room, empty_walked}
use Rattle.matcher.proofs.walk_empty.Goals as goal

pub put-requires : goal.put-requires
put-requires c = record { room = empty-room c.requires.given c.requires.empty; bytes = bytes-here c.requires.given.here }

pub returns : goal.returns
returns c = empty_walked c.requires.given c.requires.empty c.put.ensures
