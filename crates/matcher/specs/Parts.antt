-- What the walk is given and leaves, by the area that it goes by and the part that it reads.
-- Assumes nothing.
use Rattle.std.specs.Prelude.{ℕ, Bool, List}
use Rattle.posix.specs.Values.{Val}
use Rattle.area.specs.declared.Filled.{Filled}
use Rattle.matcher.specs.declared.Part.{Part}
use Rattle.matcher.specs.Walks.{Here, Given, Walked}

abbrev pub HereIn : Filled → Part → Type 0
HereIn a p = Here a.table.now a.line.now a.work.now p.record p.left p.size

abbrev pub GivenIn : (Val → List ℕ) → Filled → Part → List ℕ → ℕ → Bool → Type 0
GivenIn f a p = Given f a.table.now a.line.now a.work.now p.record p.left p.size

abbrev pub WalkedIn : (Val → List ℕ) → Filled → Part → List ℕ → ℕ → Bool → List ℕ → ℕ → Type 0
WalkedIn f a p = Walked f a.table.now a.line.now p.record p.left p.size
