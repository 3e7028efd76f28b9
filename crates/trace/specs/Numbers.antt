-- Answers that fit the 64-bit number that a C caller is given ("The program and the host" of document 01).
-- Assumes nothing.
use Rattle.std.specs.Prelude.{◌≤◌, ◌<◌, ◌≡◌}
use Rattle.table.specs.Answers.{Said, gives, refuses}
use Rattle.page.specs.Outcomes.{PageSaid, names}

-- a result of any size, or one of the refusals 1 to 20, but not 13 (document 02, request 6), and a detail below 2^32
abbrev pub Encodable : Said → Type 0
Encodable (gives n) = Unit {0}
Encodable (refuses n d) = (1 ≤ n) × (n ≤ 20) × ¬ (n ≡ 13) × (d < 4294967296)

-- a result below 2^32, or such a refusal
abbrev pub Small : Said → Type 0
Small (gives n) = n < 4294967296
Small (refuses n d) = Encodable (refuses n d)

-- the same of what is said of a page
abbrev pub SmallPage : PageSaid → Type 0
SmallPage (names who said) = Small said
