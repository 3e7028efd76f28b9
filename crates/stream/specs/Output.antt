-- What the program prints for a table and a whole input (document 01, "The program and the host").
-- Assumes nothing.
use Rattle.std.specs.Prelude.{ℕ, suc, ◌-◌, List, [], ◌∷◌, ◌++◌}
use Rattle.table.specs.Records.{count}
use Rattle.table.specs.Answers.{Said, gives, refuses}
use Rattle.table.specs.Checked.{checked}
use Rattle.lines.specs.Lines.{lines_of}
use Rattle.report.specs.Report.{line_report, table_report}

-- "starts at the last record"
abbrev pub last_record : List ℕ → ℕ
last_record t = count t - 1

-- the reports of lines by table t from record k, one after the other; n is the number of the first
abbrev pub reports : List ℕ → ℕ → ℕ → List (List ℕ) → List ℕ
reports t k n [] = []
reports t k n (s ∷ ss) = line_report t k n s ++ reports t k (suc n) ss

-- the whole output of a table, a start and an input: its lines split at byte 10, numbered from 1
abbrev pub output : List ℕ → ℕ → List ℕ → List ℕ
output t k s = reports t k 1 (lines_of s)

-- "A refused table prints `table refused` and the number, and nothing more."
abbrev pub printed_by : Said → List ℕ → List ℕ → List ℕ
printed_by (gives m) t s = output t (last_record t) s
printed_by (refuses n d) t s = table_report t

-- what the program prints for the bytes of rules.tab and of standard input
abbrev pub printed : List ℕ → List ℕ → List ℕ
printed t s = printed_by (checked t) t s
