-- What the program writes for an input, and where.
-- Assumes nothing.
use Rattle.std.specs.Prelude.{ℕ, ◌≤◌, List, take}
use Rattle.table.specs.Answers.{Said, gives, refuses}
use Rattle.notation.specs.Calls.{limited, table_bytes, compile_says}
use Rattle.tracerules.specs.declared.Reply.{Reply}
use Rattle.tracerules.specs.declared.Reply.TheVariants.{Table, Complaint}
use Rattle.tracerules.specs.Text.{text_of}
use Rattle.tracerules.specs.Messages.{refused_line}

-- bytes to standard output and nothing to standard error, or the other way round
pub data Output : Type 0 where
  stdout : List ℕ → Output
  stderr : List ℕ → Output

-- the room for a table: 255 records of 4 bytes
abbrev pub table_length : ℕ
table_length = 1020

-- the table of text s, or the line of its refusal
abbrev pub output_said : List ℕ → Said → Output
output_said s (gives m) = stdout (table_bytes (limited s))
output_said s (refuses n d) = stderr (refused_line s n)

-- what is written for an input
unfoldable pub output : List ℕ → Output
output input = output_said (text_of input) (compile_says (text_of input) table_length)

-- what a reply stands for: so many bytes of the buffer
abbrev pub shown : Reply → List ℕ → Output
shown (Table n) out = stdout (take n out)
shown (Complaint n) out = stderr (take n out)

abbrev pub Inside : Reply → ℕ → Type 0
Inside (Table n) size = n ≤ size
Inside (Complaint n) size = n ≤ size
