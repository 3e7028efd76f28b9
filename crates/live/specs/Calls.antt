-- What the calls on a live line say and leave (document 02, request 7): "Turned away: 1 to 6, 9 and 7 (over 255 bytes) for a live line filled by
-- hand; then 7 for Add at 255 bytes; 19 for Take back on an empty line; last 10."
-- Assumes nothing.
use Rattle.std.specs.Prelude.{ℕ, ◌+◌, Bool, cond, List, [], Result, Ok, Err, leb, ltb, eqb, length, take}
use Rattle.posix.specs.Spells.{spells}
use Rattle.posix.specs.Extends.{extends}
use Rattle.table.specs.Records.{count}
use Rattle.table.specs.declared.Refusal.{Refusal}
use Rattle.table.specs.Answers.{Said, gives, refuses, refusal}
use Rattle.table.specs.Checked.{or_else}
use Rattle.table.specs.Expression.{exp_of}
use Rattle.reading.specs.Calls.{if_start}
use Rattle.matcher.specs.Calls.{work_size}
use Rattle.live.specs.declared.LiveLine.{LiveLine}
use Rattle.live.specs.declared.Facts.{Facts}
use Rattle.live.specs.Lines.{table_of, bytes_of, holding, refused_line, lengthened, shortened}

-- the two facts in one number: 1 where the line has a reading, and 2 where some bytes behind it would make it a line that has one
abbrev pub facts_number : Bool → Bool → ℕ
facts_number reads extends = cond reads 1 0 + cond extends 2 0

-- an answer in the paper's numbers
abbrev pub heard_says : Result Facts Refusal → Said
heard_says (Ok f) = gives (facts_number f.reads f.extends)
heard_says (Err why) = refusal why

-- the constructor: 1 to 6, 9, or the table's record count; and the line it makes
unfoldable pub new_says : List ℕ → ℕ → Said
new_says t k = if_start t k (gives (count t))

abbrev pub made_by : Said → List ℕ → ℕ → LiveLine
made_by (gives n) t k = holding t k []
made_by (refuses n d) t k = refused_line

unfoldable pub new_leaves : List ℕ → ℕ → LiveLine
new_leaves t k = made_by (new_says t k) t k

-- 1 to 6, 9 and 7 of a live line filled by hand, by its fields, then what is said
abbrev pub if_held : List ℕ → ℕ → ℕ → ℕ → Said → Said
if_held table size start n said =
    or_else (ltb 1020 size) (refuses 1 0) (if_start (take size table) start (or_else (ltb 255 n) (refuses 7 0) said))

-- 10 by the formula for a line's bytes, then the two facts of the line
abbrev pub facts_say : List ℕ → ℕ → List ℕ → ℕ → Said
facts_say t k s work =
    or_else (ltb work (work_size (count t) (length s))) (refuses 10 0)
    (gives (facts_number (spells (exp_of t k) s) (extends (exp_of t k) s)))

-- the same of the live line that a call would leave
abbrev pub line_says : LiveLine → ℕ → Said
line_says h work = facts_say (table_of h) h.start (bytes_of h) work

-- Add, by the live line, the byte and the length of the work area
unfoldable pub add_says : LiveLine → ℕ → ℕ → Said
add_says h c work =
    if_held h.table h.size h.start h.count (or_else (leb 255 h.count) (refuses 7 0) (line_says (lengthened h c) work))

-- Take back
unfoldable pub take_back_says : LiveLine → ℕ → Said
take_back_says h work =
    if_held h.table h.size h.start h.count (or_else (eqb h.count 0) (refuses 19 0) (line_says (shortened h) work))

-- the live line after an answer: the new one, or the old one where the call is refused
abbrev pub after_call : Said → LiveLine → LiveLine → LiveLine
after_call (gives n) new old = new
after_call (refuses n d) new old = old

unfoldable pub add_leaves : LiveLine → ℕ → ℕ → LiveLine
add_leaves h c work = after_call (add_says h c work) (lengthened h c) h

unfoldable pub take_back_leaves : LiveLine → ℕ → LiveLine
take_back_leaves h work = after_call (take_back_says h work) (shortened h) h
