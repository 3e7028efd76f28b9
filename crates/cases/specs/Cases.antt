-- The cases A to J of document 01, "Lines on the bench", and cases of document 02, requests 1 to 3 and 6, in bytes: a call, what it answers and what it
-- writes.
-- Assumes nothing.
use Rattle.std.specs.Prelude.{ℕ, List, [], ◌∷◌, ◌++◌, length, drop, replicate}
use Rattle.table.specs.Answers.{Said, gives, refuses}
use Rattle.table.specs.Checked.{checked}
use Rattle.reading.specs.Calls.{spell_says, spell_leaves}
use Rattle.tokens.specs.Listed.{tokens_says, tokens_leaves}
use Rattle.ranking.specs.Answers.{compare_says}
use Rattle.matcher.specs.Calls.{read_says, read_leaves}
use Rattle.notation.specs.Calls.{compile_says, compile_leaves}
use Rattle.cases.specs.Tables.{T1, T2, T3, T4, Remark, NoByte, AllBut5, Crossed, Kind7, Gust, Blank, T1-text, T1-written, T2-text, T2-written}

-- a call on a table and a start number; the one that turns notation into a table has the text for the table
pub data Call : Type 0 where
  compile : Call
  check : Call
  read : ℕ → List ℕ → Call
  spell : ℕ → List ℕ → Call
  compare : ℕ → List ℕ → List ℕ → Call
  tokens : ℕ → List ℕ → Call

-- a case: the table, the call, its answer, and the bytes in front of the output buffer
pub record Case : Type 0 where
  pub table : List ℕ
  pub call : Call
  pub said : Said
  pub bytes : List ℕ

-- an answer and the output buffer after the call
pub record Outcome : Type 0 where
  pub said : Said
  pub out : List ℕ

-- the buffer before each call: as many bytes of 0xee as D's reading has. The work area has as many as T1 needs for a line of 6.
abbrev pub room : ℕ
room = 52

abbrev pub entry : List ℕ
entry = replicate room 0xee

abbrev pub work_bytes : ℕ
work_bytes = 280

-- what is stated
abbrev pub stated : Case → Outcome
stated c = record { said = c.said; out = c.bytes ++ drop (length c.bytes) entry }

-- what the definitions compute
unfoldable pub computed_by : List ℕ → Call → Outcome
computed_by t compile = record { said = compile_says t room; out = compile_leaves t entry }
computed_by t check = record { said = checked t; out = entry }
computed_by t (read k s) = record { said = read_says t k s work_bytes room; out = read_leaves t k s work_bytes entry }
computed_by t (spell k bs) = record { said = spell_says t k bs room; out = spell_leaves t k bs entry }
computed_by t (compare k bs cs) = record { said = compare_says t k bs cs; out = entry }
computed_by t (tokens k bs) = record { said = tokens_says t k bs room; out = tokens_leaves t k bs entry }

unfoldable pub computed : Case → Outcome
computed c = computed_by c.table c.call

abbrev case : List ℕ → Call → Said → List ℕ → Case
case t c said bytes = record { table = t; call = c; said = said; bytes = bytes }

-- the readings of B, C, D, F and G's rival
abbrev pub B-reading : List ℕ
B-reading = 5 ∷ 1 ∷ 2 ∷ 9 ∷ 2 ∷ 0 ∷ 2 ∷ 8 ∷ 3 ∷ 0 ∷ 2 ∷ 7 ∷ 4 ∷ 0 ∷ 2 ∷ 3 ∷ 1 ∷ 0x61 ∷ 1 ∷ 1 ∷ 1 ∷ 0x62 ∷ 1 ∷ 2 ∷ []

abbrev pub C-reading : List ℕ
C-reading =
    5 ∷ 2 ∷ 3 ∷ 9 ∷ 2 ∷ 0 ∷ 1 ∷ 8 ∷ 2 ∷ 0 ∷ 1 ∷ 7 ∷ 1 ∷ 0x61 ∷ 1 ∷ 0 ∷ 3 ∷ 0 ∷ 2 ∷ 8 ∷ 4 ∷ 0 ∷ 2 ∷ 6 ∷ 1 ∷ 0x62 ∷ 1 ∷ 4
    ∷ 1 ∷ 0x63 ∷ 1 ∷ 5 ∷ []

abbrev pub D-reading : List ℕ
D-reading =
    5 ∷ 3 ∷ 5 ∷ 9 ∷ 2 ∷ 0 ∷ 1 ∷ 8 ∷ 2 ∷ 0 ∷ 1 ∷ 7 ∷ 1 ∷ 0x61 ∷ 1 ∷ 0 ∷ 3 ∷ 0 ∷ 2 ∷ 8 ∷ 4 ∷ 0 ∷ 2 ∷ 6 ∷ 1 ∷ 0x62 ∷ 1 ∷ 4
    ∷ 1 ∷ 0x63 ∷ 1 ∷ 5 ∷ 2 ∷ 0 ∷ 2 ∷ 8 ∷ 3 ∷ 0 ∷ 2 ∷ 7 ∷ 4 ∷ 0 ∷ 2 ∷ 3 ∷ 1 ∷ 0x61 ∷ 1 ∷ 1 ∷ 1 ∷ 0x62 ∷ 1 ∷ 2 ∷ []

abbrev pub F-reading : List ℕ
F-reading = 4 ∷ 0 ∷ 2 ∷ 8 ∷ 2 ∷ 0 ∷ 1 ∷ 2 ∷ 1 ∷ 0x61 ∷ 1 ∷ 0 ∷ 2 ∷ 0 ∷ 1 ∷ 7 ∷ 1 ∷ 0x62 ∷ 1 ∷ 3 ∷ []

abbrev pub G-rival : List ℕ
G-rival = 4 ∷ 0 ∷ 2 ∷ 8 ∷ 3 ∷ 0 ∷ 0 ∷ 2 ∷ 0 ∷ 0 ∷ 0 ∷ 1 ∷ 3 ∷ 0 ∷ 2 ∷ 7 ∷ 4 ∷ 0 ∷ 2 ∷ 6 ∷ 1 ∷ 0x61 ∷ 1 ∷ 4 ∷ 1 ∷ 0x62 ∷ 1 ∷ 5 ∷ []

-- B's reading with a length that is one short, with the number of another record, with the count for the length of Stars, and with the length of the first
-- part for that of Seq
abbrev pub B-length : List ℕ
B-length = 5 ∷ 1 ∷ 2 ∷ 9 ∷ 2 ∷ 0 ∷ 2 ∷ 8 ∷ 3 ∷ 0 ∷ 1 ∷ 7 ∷ 4 ∷ 0 ∷ 2 ∷ 3 ∷ 1 ∷ 0x61 ∷ 1 ∷ 1 ∷ 1 ∷ 0x62 ∷ 1 ∷ 2 ∷ []

abbrev pub B-number : List ℕ
B-number = 5 ∷ 1 ∷ 2 ∷ 9 ∷ 2 ∷ 0 ∷ 2 ∷ 7 ∷ 3 ∷ 0 ∷ 2 ∷ 7 ∷ 4 ∷ 0 ∷ 2 ∷ 3 ∷ 1 ∷ 0x61 ∷ 1 ∷ 1 ∷ 1 ∷ 0x62 ∷ 1 ∷ 2 ∷ []

abbrev pub B-count : List ℕ
B-count = 5 ∷ 1 ∷ 1 ∷ 9 ∷ 2 ∷ 0 ∷ 2 ∷ 8 ∷ 3 ∷ 0 ∷ 2 ∷ 7 ∷ 4 ∷ 0 ∷ 2 ∷ 3 ∷ 1 ∷ 0x61 ∷ 1 ∷ 1 ∷ 1 ∷ 0x62 ∷ 1 ∷ 2 ∷ []

abbrev pub B-first : List ℕ
B-first = 5 ∷ 1 ∷ 2 ∷ 9 ∷ 2 ∷ 0 ∷ 2 ∷ 8 ∷ 3 ∷ 0 ∷ 2 ∷ 7 ∷ 4 ∷ 0 ∷ 1 ∷ 3 ∷ 1 ∷ 0x61 ∷ 1 ∷ 1 ∷ 1 ∷ 0x62 ∷ 1 ∷ 2 ∷ []

-- the reading of ab; by Remark, and bytes that would have ; in the text
abbrev pub Remark-reading : List ℕ
Remark-reading = 4 ∷ 0 ∷ 3 ∷ 3 ∷ 5 ∷ 2 ∷ 2 ∷ 1 ∷ 1 ∷ 0x61 ∷ 1 ∷ 0 ∷ 1 ∷ 0x62 ∷ 1 ∷ 0 ∷ 1 ∷ 0x3b ∷ 1 ∷ 2 ∷ []

abbrev pub Remark-unfit : List ℕ
Remark-unfit = 4 ∷ 0 ∷ 2 ∷ 3 ∷ 5 ∷ 1 ∷ 1 ∷ 1 ∷ 1 ∷ 0x3b ∷ 1 ∷ 0 ∷ 1 ∷ 0x3b ∷ 1 ∷ 2 ∷ []

-- the readings of agb and ab by Gust, and of the empty line by Blank
abbrev pub Gust-there : List ℕ
Gust-there = 4 ∷ 0 ∷ 3 ∷ 6 ∷ 1 ∷ 0x61 ∷ 1 ∷ 0 ∷ 4 ∷ 0 ∷ 2 ∷ 5 ∷ 2 ∷ 0 ∷ 1 ∷ 3 ∷ 1 ∷ 0x67 ∷ 1 ∷ 1 ∷ 1 ∷ 0x62 ∷ 1 ∷ 4 ∷ []

abbrev pub Gust-absent : List ℕ
Gust-absent = 4 ∷ 0 ∷ 2 ∷ 6 ∷ 1 ∷ 0x61 ∷ 1 ∷ 0 ∷ 4 ∷ 0 ∷ 1 ∷ 5 ∷ 3 ∷ 0 ∷ 0 ∷ 3 ∷ 0 ∷ 0 ∷ 0 ∷ 2 ∷ 1 ∷ 0x62 ∷ 1 ∷ 4 ∷ []

abbrev pub Blank-reading : List ℕ
Blank-reading = 4 ∷ 0 ∷ 0 ∷ 2 ∷ 0 ∷ 0 ∷ 0 ∷ 0 ∷ 0 ∷ 0 ∷ 0 ∷ 1 ∷ []

-- the readings of B, C and D by the table that T1's text stands for
abbrev pub B-written : List ℕ
B-written = 5 ∷ 1 ∷ 2 ∷ 9 ∷ 2 ∷ 0 ∷ 2 ∷ 8 ∷ 3 ∷ 0 ∷ 2 ∷ 4 ∷ 4 ∷ 0 ∷ 2 ∷ 3 ∷ 1 ∷ 0x61 ∷ 1 ∷ 1 ∷ 1 ∷ 0x62 ∷ 1 ∷ 2 ∷ []

abbrev pub C-written : List ℕ
C-written =
    5 ∷ 2 ∷ 3 ∷ 9 ∷ 2 ∷ 0 ∷ 1 ∷ 8 ∷ 2 ∷ 0 ∷ 1 ∷ 4 ∷ 1 ∷ 0x61 ∷ 1 ∷ 0 ∷ 3 ∷ 0 ∷ 2 ∷ 8 ∷ 4 ∷ 0 ∷ 2 ∷ 7 ∷ 1 ∷ 0x62 ∷ 1 ∷ 5
    ∷ 1 ∷ 0x63 ∷ 1 ∷ 6 ∷ []

abbrev pub D-written : List ℕ
D-written =
    5 ∷ 3 ∷ 5 ∷ 9 ∷ 2 ∷ 0 ∷ 1 ∷ 8 ∷ 2 ∷ 0 ∷ 1 ∷ 4 ∷ 1 ∷ 0x61 ∷ 1 ∷ 0 ∷ 3 ∷ 0 ∷ 2 ∷ 8 ∷ 4 ∷ 0 ∷ 2 ∷ 7 ∷ 1 ∷ 0x62 ∷ 1 ∷ 5
    ∷ 1 ∷ 0x63 ∷ 1 ∷ 6 ∷ 2 ∷ 0 ∷ 2 ∷ 8 ∷ 3 ∷ 0 ∷ 2 ∷ 4 ∷ 4 ∷ 0 ∷ 2 ∷ 3 ∷ 1 ∷ 0x61 ∷ 1 ∷ 1 ∷ 1 ∷ 0x62 ∷ 1 ∷ 2 ∷ []

-- T1 to T4 pass; A to J; the readings spelled back; a reading that is too long for the buffer; wrong lengths and record numbers; G the other way round; then
-- Other, empty parts, and T1 and T2 as texts
abbrev pub cases : List Case
cases =
    case T1 check (gives 10) []
    ∷ case T2 check (gives 9) []
    ∷ case T3 check (gives 2) []
    ∷ case T4 check (gives 1) []
    -- A
    ∷ case T1 (read 9 []) (gives 1) (5 ∷ 0 ∷ 0 ∷ 9 ∷ [])
    -- B
    ∷ case T1 (read 9 (0x61 ∷ 0x62 ∷ [])) (gives 6) B-reading
    ∷ case T1 (spell 9 B-reading) (gives 2) (0x61 ∷ 0x62 ∷ [])
    ∷ case T1 (spell 9 B-length) (refuses 12 0) []
    ∷ case T1 (spell 9 B-number) (refuses 12 0) []
    ∷ case T1 (tokens 9 B-count) (refuses 12 0) []
    ∷ case T1 (tokens 9 B-first) (refuses 12 0) []
    ∷ case T1 (compare 9 B-length B-reading) (refuses 12 0) []
    ∷ case T1 (compare 9 B-reading B-number) (refuses 12 1) []
    -- C
    ∷ case T1 (read 9 (0x61 ∷ 0x62 ∷ 0x63 ∷ [])) (gives 8) C-reading
    ∷ case T1 (spell 9 C-reading) (gives 3) (0x61 ∷ 0x62 ∷ 0x63 ∷ [])
    -- D
    ∷ case T1 (read 9 (0x61 ∷ 0x62 ∷ 0x63 ∷ 0x61 ∷ 0x62 ∷ [])) (gives 13) D-reading
    ∷ case T1 (tokens 9 D-reading) (gives 3) (1 ∷ 0 ∷ 1 ∷ 3 ∷ 1 ∷ 2 ∷ 2 ∷ 3 ∷ 2 ∷ [])
    -- abcabc, whose reading of 15 records has 60 bytes
    ∷ case T1 (read 9 (0x61 ∷ 0x62 ∷ 0x63 ∷ 0x61 ∷ 0x62 ∷ 0x63 ∷ [])) (refuses 11 60) []
    -- E
    ∷ case T1 (read 9 (0x62 ∷ [])) (refuses 8 0) []
    -- F
    ∷ case T2 (read 8 (0x61 ∷ 0x62 ∷ [])) (gives 5) F-reading
    -- G
    ∷ case T2 (compare 8 F-reading G-rival) (gives 1) []
    ∷ case T2 (compare 8 G-rival F-reading) (gives 2) []
    ∷ case T2 (compare 8 F-reading F-reading) (gives 0) []
    -- H
    ∷ case T3 (spell 1 (5 ∷ 1 ∷ 0 ∷ 1 ∷ 0 ∷ 0 ∷ 0 ∷ 0 ∷ [])) (refuses 12 0) []
    -- I
    ∷ case T3 (read 1 []) (gives 1) (5 ∷ 0 ∷ 0 ∷ 1 ∷ [])
    -- J
    ∷ case T4 (read 0 []) (gives 1) (0 ∷ 0 ∷ 0 ∷ 0 ∷ [])
    ∷ case T4 (tokens 0 (0 ∷ 0 ∷ 0 ∷ 0 ∷ [])) (gives 0) []
    -- Remark
    ∷ case Remark check (gives 4) []
    ∷ case Remark (read 3 (0x61 ∷ 0x62 ∷ 0x3b ∷ [])) (gives 5) Remark-reading
    ∷ case Remark (spell 3 Remark-reading) (gives 3) (0x61 ∷ 0x62 ∷ 0x3b ∷ [])
    ∷ case Remark (tokens 3 Remark-reading) (gives 1) (9 ∷ 0 ∷ 2 ∷ [])
    ∷ case Remark (read 3 (0x61 ∷ 0x3b ∷ 0x62 ∷ 0x3b ∷ [])) (refuses 8 0) []
    ∷ case Remark (spell 3 Remark-unfit) (refuses 12 0) []
    -- NoByte: accepted, and spells no line
    ∷ case NoByte check (gives 1) []
    ∷ case NoByte (read 0 []) (refuses 8 0) []
    ∷ case NoByte (read 0 (0 ∷ [])) (refuses 8 0) []
    ∷ case NoByte (read 0 (255 ∷ [])) (refuses 8 0) []
    ∷ case NoByte (spell 0 (1 ∷ 255 ∷ 1 ∷ 0 ∷ [])) (refuses 12 0) []
    -- AllBut5
    ∷ case AllBut5 check (gives 1) []
    ∷ case AllBut5 (read 0 (4 ∷ [])) (gives 1) (1 ∷ 4 ∷ 1 ∷ 0 ∷ [])
    ∷ case AllBut5 (read 0 (5 ∷ [])) (refuses 8 0) []
    ∷ case AllBut5 (read 0 (6 ∷ [])) (gives 1) (1 ∷ 6 ∷ 1 ∷ 0 ∷ [])
    ∷ case AllBut5 (spell 0 (1 ∷ 5 ∷ 1 ∷ 0 ∷ [])) (refuses 12 0) []
    -- Crossed, Kind7
    ∷ case Crossed check (refuses 4 0) []
    ∷ case Kind7 check (refuses 2 0) []
    -- Gust: there, and absent
    ∷ case Gust (read 6 (0x61 ∷ 0x67 ∷ 0x62 ∷ [])) (gives 6) Gust-there
    ∷ case Gust (tokens 6 Gust-there) (gives 3) (1 ∷ 0 ∷ 1 ∷ 2 ∷ 1 ∷ 1 ∷ 3 ∷ 2 ∷ 1 ∷ [])
    ∷ case Gust (read 6 (0x61 ∷ 0x62 ∷ [])) (gives 6) Gust-absent
    ∷ case Gust (tokens 6 Gust-absent) (gives 2) (1 ∷ 0 ∷ 1 ∷ 3 ∷ 1 ∷ 1 ∷ [])
    -- Blank
    ∷ case Blank (read 2 []) (gives 3) Blank-reading
    ∷ case Blank (tokens 2 Blank-reading) (gives 0) []
    -- a#009*; then T1 and T2 as texts: A to F by the tables that they stand for
    ∷ case (0x61 ∷ 0x23 ∷ 0x30 ∷ 0x30 ∷ 0x39 ∷ 0x2a ∷ []) compile (gives 2) (2 ∷ 0x61 ∷ 0x61 ∷ 9 ∷ 5 ∷ 0 ∷ 0 ∷ 0 ∷ [])
    ∷ case T1-text compile (gives 10)
    (2 ∷ 0x61 ∷ 0x61 ∷ 1 ∷ 2 ∷ 0x61 ∷ 0x61 ∷ 0 ∷ 2 ∷ 0x62 ∷ 0x62 ∷ 0 ∷ 4 ∷ 1 ∷ 2 ∷ 2 ∷ 3 ∷ 0 ∷ 3 ∷ 0
    ∷ 2 ∷ 0x62 ∷ 0x62 ∷ 0 ∷ 2 ∷ 0x63 ∷ 0x63 ∷ 0 ∷ 4 ∷ 5 ∷ 6 ∷ 3 ∷ 3 ∷ 4 ∷ 7 ∷ 0 ∷ 5 ∷ 8 ∷ 0 ∷ 0 ∷ [])
    ∷ case T2-text compile (gives 9) T2
    ∷ case T1-written check (gives 10) []
    ∷ case T1-written (read 9 []) (gives 1) (5 ∷ 0 ∷ 0 ∷ 9 ∷ [])
    ∷ case T1-written (read 9 (0x61 ∷ 0x62 ∷ [])) (gives 6) B-written
    ∷ case T1-written (read 9 (0x61 ∷ 0x62 ∷ 0x63 ∷ [])) (gives 8) C-written
    ∷ case T1-written (read 9 (0x61 ∷ 0x62 ∷ 0x63 ∷ 0x61 ∷ 0x62 ∷ [])) (gives 13) D-written
    ∷ case T1-written (tokens 9 D-written) (gives 3) (1 ∷ 0 ∷ 1 ∷ 3 ∷ 1 ∷ 2 ∷ 2 ∷ 3 ∷ 2 ∷ [])
    ∷ case T1-written (read 9 (0x62 ∷ [])) (refuses 8 0) []
    ∷ case T2-written check (gives 9) []
    ∷ case T2-written (read 8 (0x61 ∷ 0x62 ∷ [])) (gives 5) F-reading
    ∷ []
