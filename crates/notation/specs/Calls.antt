-- What the call that turns notation into a table answers and leaves in its buffer (document 02, request 3): "Turned away: 15 for a text outside
-- the grammar or over its limit; after it 16 for more than 255 records; after that 11."
-- Assumes nothing.
use Rattle.std.specs.Prelude.{ℕ, ◌-◌, cond, List, [], ltb, length}
use Rattle.table.specs.Answers.{Said, refuses}
use Rattle.table.specs.Checked.{or_else}
use Rattle.table.specs.Buffers.{if_room, after}
use Rattle.notation.specs.Tables.{size, table_of}
use Rattle.notation.specs.Decision.{Outcome, whole, stuck, outcome}

-- what a text comes to: one over the limit, whatever it is, at its limit of 4,096 bytes
unfoldable pub limited : List ℕ → Outcome
limited s = cond (ltb 4096 (length s)) (stuck (length s - 4096)) (outcome s)

-- 15, then 16, then 11, then the record count
abbrev pub compiled : Outcome → ℕ → Said
compiled (stuck n) room = refuses 15 0
compiled (whole t) room = or_else (ltb 255 (size t)) (refuses 16 0) (if_room room (table_of t) (size t))

unfoldable pub compile_says : List ℕ → ℕ → Said
compile_says s room = compiled (limited s) room

-- the table goes to the front of the buffer, and a refusal leaves the buffer as it was
abbrev pub table_bytes : Outcome → List ℕ
table_bytes (stuck n) = []
table_bytes (whole t) = table_of t

unfoldable pub compile_leaves : List ℕ → List ℕ → List ℕ
compile_leaves s out = after (compile_says s (length out)) (table_bytes (limited s)) out

-- the offset at which a text stops being readable: that of the first word that cannot stand where it does, or the limit; and the text's length
-- where it ends too early or is whole
abbrev pub stuck_at : ℕ → Outcome → ℕ
stuck_at n (stuck m) = n - m
stuck_at n (whole t) = n

unfoldable pub stops_at : List ℕ → ℕ
stops_at s = stuck_at (length s) (limited s)
