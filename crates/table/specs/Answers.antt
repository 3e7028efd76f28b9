-- The paper's number and detail for every answer (document 01, "Who is refused, and by which number"), and the 64-bit number that a C
-- caller is given ("The program and the host"). Contracts state answers through `says`.
-- Assumes nothing.
use Rattle.std.specs.Prelude.{ℕ, ◌+◌, ◌*◌, Bool, true, false, List, Result, Ok, Err}
use Rattle.table.specs.declared.Refusal.{Refusal}
use Rattle.table.specs.declared.Refusal.TheVariants.{Size, Kind, Unused, Bounds, Child, Named, Line, NoReading, Start, Work, Buffer, Unfit, Differ, Text, Records, Pairs, TokenBytes, EmptyLine, Lines}
use Rattle.table.specs.Records.{count}

-- an answer in the paper's numbers: a result, or a refusal's number and its detail
pub data Said : Type 0 where
  gives : ℕ → Said
  refuses : ℕ → ℕ → Said

-- an answer that is a refusal
abbrev pub is_refused : Said → Bool
is_refused (gives n) = false
is_refused (refuses n d) = true

-- the number and the detail of each refusal; no call gives 13 (document 02, request 6)
abbrev pub refusal : Refusal → Said
refusal Size = refuses 1 0
refusal (Kind k) = refuses 2 k
refusal (Unused k) = refuses 3 k
refusal (Bounds k) = refuses 4 k
refusal (Child k) = refuses 5 k
refusal (Named k) = refuses 6 k
refusal Line = refuses 7 0
refusal NoReading = refuses 8 0
refusal Start = refuses 9 0
refusal Work = refuses 10 0
refusal (Buffer n) = refuses 11 n
refusal (Unfit i) = refuses 12 i
refusal Differ = refuses 14 0
refusal Text = refuses 15 0
refusal Records = refuses 16 0
refusal Pairs = refuses 17 0
refusal TokenBytes = refuses 18 0
refusal EmptyLine = refuses 19 0
refusal Lines = refuses 20 0

-- the number and the detail that a refusal has, 0 for a result
abbrev pub number_in : Said → ℕ
number_in (gives n) = 0
number_in (refuses n d) = n

abbrev pub detail_in : Said → ℕ
detail_in (gives n) = 0
detail_in (refuses n d) = d

-- the answer in the paper's numbers
abbrev pub says : Result ℕ Refusal → Said
says (Ok n) = gives n
says (Err why) = refusal why

-- the same of bytes that are taken as rules: the record count
abbrev pub rules_say : Result (List ℕ) Refusal → Said
rules_say (Ok t) = gives (count t)
rules_say (Err why) = refusal why

-- "one 64-bit number: the result, or the refusal number times 2^32 plus the detail"
abbrev pub number : Said → ℕ
number (gives n) = n
number (refuses r d) = r * 4294967296 + d
