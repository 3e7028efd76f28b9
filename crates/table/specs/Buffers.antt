-- What a call that writes says of its buffer and leaves there (document 01, "Who is refused, and by which number", refusal 11).
-- Assumes nothing.
use Rattle.std.specs.Prelude.{ℕ, List, ◌++◌, ltb, length, drop}
use Rattle.table.specs.Answers.{Said, gives, refuses}
use Rattle.table.specs.Checked.{or_else}

-- an answer of some bytes and a result: 11 where the buffer is shorter, with the bytes needed
abbrev pub if_room : ℕ → List ℕ → ℕ → Said
if_room room bytes result = or_else (ltb room (length bytes)) (refuses 11 (length bytes)) (gives result)

-- the buffer after an answer: its bytes in front and the later bytes left, or nothing changed by a refusal
abbrev pub after : Said → List ℕ → List ℕ → List ℕ
after (gives n) bytes out = bytes ++ drop (length bytes) out
after (refuses n d) bytes out = out
