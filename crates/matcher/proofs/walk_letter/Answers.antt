-- `matcher::walk_letter` meets its contract: a letter's part is one byte and reads as Byte.
-- Assumes nothing.
use native.Mathlib.Omega.{arith}
use Rattle.matcher.proofs.Walking.{bytes-here, letter-one, letter-room, letter-walked}
use Rattle.matcher.proofs.walk_letter.Goals as goal

pub bounds-area-area : goal.bounds-area-area
bounds-area-area c = omega (arith, letter-one c.requires.given.here c.requires.letter, c.requires.given.here.size, c.requires.given.here.left)

pub put-requires : goal.put-requires
put-requires c = record { room = letter-room c.requires.given c.requires.letter; bytes = bytes-here c.requires.given.here }

pub returns : goal.returns
returns c = letter-walked c.requires.given c.requires.letter c.put.ensures
