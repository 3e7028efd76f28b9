-- What the calls on a reading answer and leave in the output buffer, and what Spell does (document 01, "Readings", and the order of refusals
-- in "Who is refused, and by which number").
-- Assumes nothing.
use Rattle.std.specs.Prelude.{ℕ, not, List, [], ltb, length}
use Rattle.posix.specs.Values.{Val, flat}
use Rattle.posix.specs.Decision.{Parsed, found, missing}
use Rattle.table.specs.Records.{count}
use Rattle.table.specs.Answers.{Said, gives, refuses}
use Rattle.table.specs.Checked.{or_else, checked}
use Rattle.table.specs.Buffers.{if_room, after}
use Rattle.reading.specs.Fitting.{reading_of}

-- refusals 1 to 6, then what is said of a table that passes
abbrev pub if_passed : Said → Said → Said
if_passed (gives m) said = said
if_passed (refuses n d) said = refuses n d

-- refusals 1 to 6, then 9, then what is said of a table and a start number in it
abbrev pub if_start : List ℕ → ℕ → Said → Said
if_start t k said = if_passed (checked t) (or_else (not (ltb k (count t))) (refuses 9 0) said)

-- 12, then what is said of a reading that fits
abbrev pub if_fits : Parsed → (Val → Said) → Said
if_fits missing said = refuses 12 0
if_fits (found v) said = said v

-- what a call that writes says of a reading, and the bytes that it writes
abbrev pub bytes_of : Parsed → (Val → List ℕ) → List ℕ
bytes_of missing f = []
bytes_of (found v) f = f v

-- Spell: the Byte arguments in order, and their count
unfoldable pub spell_says : List ℕ → ℕ → List ℕ → ℕ → Said
spell_says t k bs room = if_start t k (if_fits (reading_of t k bs) (λ v. if_room room (flat v) (length (flat v))))

unfoldable pub spell_leaves : List ℕ → ℕ → List ℕ → List ℕ → List ℕ
spell_leaves t k bs out = after (spell_says t k bs (length out)) (bytes_of (reading_of t k bs) (λ v. flat v)) out
