-- Pages, with what is said of each, its class bytes, and whether the scratch and the work area are kept (document 02, requests 8 and 10).
-- Assumes nothing.
use Rattle.std.specs.Prelude.{ℕ, Bool, true, false, List, [], ◌∷◌, ◌++◌, map, replicate}
use Rattle.table.specs.Records.{record_bytes}
use Rattle.table.specs.Answers.{gives, refuses}
use Rattle.page.specs.Entries.{Rules, Entry}
use Rattle.page.specs.Runs.{Run, members, runs}
use Rattle.page.specs.Outcomes.{the_page, line_rules, page_rules, one_line, PageSaid, names}
use Rattle.page.specs.Pages.{Sizes, entries_of, classes_of, page_says, keeps_scratch}

abbrev rules : List ℕ → ℕ → Rules
rules t k = record { table = t; start = k }

-- lines of the letters a, named 1, b and c, named 2, and spaces, which have no name. A line of n bytes takes a work area of 3 (n + 1) (n + 2) bytes, 4
-- bytes of reading for itself, 12 for each letter and 8 for each space, and 3 bytes of tokens for each letter.
abbrev Words : Rules
Words =
    rules
    (record_bytes 2 0x61 0x61 1
    ++ record_bytes 2 0x62 0x63 2
    ++ record_bytes 3 0 1 0
    ++ record_bytes 2 0x20 0x20 0
    ++ record_bytes 3 2 3 0
    ++ record_bytes 5 4 0 0)
    5

-- lines of the lift: the word, named 1, spaces, and a temperature, named 2, as lift 29
abbrev Lift : Rules
Lift =
    rules
    (record_bytes 2 0x6c 0x6c 0
    ++ record_bytes 2 0x69 0x69 0
    ++ record_bytes 4 0 1 0
    ++ record_bytes 2 0x66 0x66 0
    ++ record_bytes 2 0x74 0x74 0
    ++ record_bytes 4 3 4 0
    ++ record_bytes 4 2 5 1
    ++ record_bytes 2 0x20 0x20 0
    ++ record_bytes 5 7 0 0
    ++ record_bytes 2 0x30 0x39 0
    ++ record_bytes 5 9 0 0
    ++ record_bytes 2 0x30 0x39 0
    ++ record_bytes 4 11 10 2
    ++ record_bytes 4 8 12 0
    ++ record_bytes 4 6 13 0)
    14

-- lines of numbers, each named 1, and spaces
abbrev Numbers : Rules
Numbers =
    rules
    (record_bytes 2 0x30 0x39 0
    ++ record_bytes 5 0 0 0
    ++ record_bytes 2 0x30 0x39 0
    ++ record_bytes 4 2 1 1
    ++ record_bytes 2 0x20 0x20 0
    ++ record_bytes 3 3 4 0
    ++ record_bytes 5 5 0 0)
    6

-- lines of the letter a, named 1, or 2 behind a space
abbrev Placed : Rules
Placed =
    rules
    (record_bytes 2 0x61 0x61 1 ++ record_bytes 2 0x20 0x20 0 ++ record_bytes 2 0x61 0x61 2 ++ record_bytes 4 1 2 0 ++ record_bytes 3 0 3 0)
    4

-- empty lines
abbrev Blanks : Rules
Blanks = rules (record_bytes 1 0 0 0) 0

-- classes from 0 to 2: any number of them, and one. n classes take a work area of (n + 1) (n + 2) bytes, and any number of them 4 bytes of reading and 4
-- for each.
abbrev Classes : List ℕ
Classes = record_bytes 2 0 2 0 ++ record_bytes 5 0 0 0

abbrev Any : Rules
Any = rules Classes 1

abbrev One : Rules
One = rules Classes 0

-- rules with each of the faults 2 to 6, in record 1
abbrev Kind : Rules
Kind = rules (record_bytes 1 0 0 0 ++ record_bytes 7 0 0 0) 0

abbrev Unused : Rules
Unused = rules (record_bytes 1 0 0 0 ++ record_bytes 1 0 1 0) 0

abbrev Bounds : Rules
Bounds = rules (record_bytes 1 0 0 0 ++ record_bytes 2 2 1 0) 0

abbrev Child : Rules
Child = rules (record_bytes 1 0 0 0 ++ record_bytes 5 1 0 0) 0

abbrev Named : Rules
Named = rules (record_bytes 1 0 0 0 ++ record_bytes 3 0 0 0) 0

-- the lengths of the work area, of the buffer for line readings and of the two for tokens
abbrev sizes : ℕ → ℕ → ℕ → ℕ → Sizes
sizes work reading first second = record { work = work; reading = reading; first = first; second = second }

abbrev Ample : Sizes
Ample = sizes 1000 100 100 100

-- line rules, page rules, a page, the lengths of the buffers and of the output buffer; what is said of the page, its class bytes, and whether the scratch
-- is kept
pub data Case : Type 0 where
  case : Rules → Rules → List ℕ → Sizes → ℕ → PageSaid → List ℕ → Bool → Case

pub data Judged : Type 0 where
  judged : PageSaid → List ℕ → Bool → Judged

-- what is stated for the case, and what the definitions compute
abbrev pub stated : Case → Judged
stated (case l p page z room said classes kept) = judged said classes kept

abbrev pub computed : Case → Judged
computed (case l p page z room said classes kept) = judged (page_says l p page z room) (classes_of l page) (keeps_scratch l p page)

-- a page whose class bytes are read; and one of which the line rules and the page rules, the page rules and line 1, or one line is refused
abbrev reads_by : Rules → List ℕ → List ℕ → ℕ → Case
reads_by l page classes n = case l Any page Ample 100 (names the_page (gives n)) classes false

abbrev reads : List ℕ → List ℕ → ℕ → Case
reads = reads_by Words

-- a line of the lift with n spaces and a temperature
abbrev lift : ℕ → List ℕ → List ℕ
lift n degrees = (0x6c ∷ 0x69 ∷ 0x66 ∷ 0x74 ∷ []) ++ replicate n 0x20 ++ degrees ++ 10 ∷ []

abbrev bad_lines : Rules → ℕ → ℕ → Case
bad_lines l n d = case l (rules Classes 2) (10 ∷ []) Ample 100 (names line_rules (refuses n d)) (0 ∷ []) true

abbrev bad_page : Rules → ℕ → ℕ → Case
bad_page p n d = case Words p (0x61 ∷ 10 ∷ 0x78 ∷ []) Ample 100 (names page_rules (refuses n d)) (1 ∷ 0 ∷ []) true

abbrev bad_line : List ℕ → Sizes → ℕ → ℕ → List ℕ → Case
bad_line page z n i classes = case Words Any page z 100 (names one_line (refuses n i)) classes false

abbrev pub cases : List Case
cases =
    -- an empty page, and one byte 10 alone
    reads [] [] 1
    ∷ reads (10 ∷ []) (0 ∷ []) 2
    -- a line without and with its closing byte 10: a, and then a and b
    ∷ reads (0x61 ∷ []) (1 ∷ []) 2
    ∷ reads (0x61 ∷ 10 ∷ []) (1 ∷ []) 2
    ∷ reads (0x61 ∷ 10 ∷ 0x62 ∷ []) (1 ∷ 2 ∷ []) 3
    ∷ reads (0x61 ∷ 10 ∷ 0x62 ∷ 10 ∷ []) (1 ∷ 2 ∷ []) 3
    -- alike: a, a; ab, a b; a, a, a behind b
    ∷ reads (0x61 ∷ 10 ∷ 0x61 ∷ []) (1 ∷ []) 2
    ∷ reads (0x61 ∷ 0x62 ∷ 10 ∷ 0x61 ∷ 0x20 ∷ 0x62 ∷ 10 ∷ []) (1 ∷ []) 2
    ∷ reads (0x62 ∷ 10 ∷ 0x61 ∷ 10 ∷ 0x61 ∷ 10 ∷ 0x61 ∷ []) (2 ∷ 1 ∷ []) 3
    -- two temperatures are two lines: lift 29, lift 31; and one is one: lift 31, lift  31, with other offsets
    ∷ reads_by Lift (lift 1 (0x32 ∷ 0x39 ∷ []) ++ lift 1 (0x33 ∷ 0x31 ∷ [])) (1 ∷ 1 ∷ []) 3
    ∷ reads_by Lift (lift 1 (0x33 ∷ 0x31 ∷ []) ++ lift 2 (0x33 ∷ 0x31 ∷ [])) (1 ∷ []) 2
    -- the names are the same: 29, 290; 290, 29; 12 3, 1 23; 1 2, 1 3; 1 2, 3 2; and 12 3, 12  3 have the same texts
    ∷ reads_by Numbers (0x32 ∷ 0x39 ∷ 10 ∷ 0x32 ∷ 0x39 ∷ 0x30 ∷ []) (1 ∷ 1 ∷ []) 3
    ∷ reads_by Numbers (0x32 ∷ 0x39 ∷ 0x30 ∷ 10 ∷ 0x32 ∷ 0x39 ∷ []) (1 ∷ 1 ∷ []) 3
    ∷ reads_by Numbers (0x31 ∷ 0x32 ∷ 0x20 ∷ 0x33 ∷ 10 ∷ 0x31 ∷ 0x20 ∷ 0x32 ∷ 0x33 ∷ []) (1 ∷ 1 ∷ []) 3
    ∷ reads_by Numbers (0x31 ∷ 0x20 ∷ 0x32 ∷ 10 ∷ 0x31 ∷ 0x20 ∷ 0x33 ∷ []) (1 ∷ 1 ∷ []) 3
    ∷ reads_by Numbers (0x31 ∷ 0x20 ∷ 0x32 ∷ 10 ∷ 0x33 ∷ 0x20 ∷ 0x32 ∷ []) (1 ∷ 1 ∷ []) 3
    ∷ reads_by Numbers (0x31 ∷ 0x32 ∷ 0x20 ∷ 0x33 ∷ 10 ∷ 0x31 ∷ 0x32 ∷ 0x20 ∷ 0x20 ∷ 0x33 ∷ []) (1 ∷ []) 2
    -- the texts are the same, and the names are not: a, and a behind a space
    ∷ reads_by Placed (0x61 ∷ 10 ∷ 0x20 ∷ 0x61 ∷ []) (1 ∷ 2 ∷ []) 3
    -- not alike: ab, ac; ab, aa; a, ab; ab, a
    ∷ reads (0x61 ∷ 0x62 ∷ 10 ∷ 0x61 ∷ 0x63 ∷ 10 ∷ []) (1 ∷ 1 ∷ []) 3
    ∷ reads (0x61 ∷ 0x62 ∷ 10 ∷ 0x61 ∷ 0x61 ∷ 10 ∷ []) (1 ∷ 1 ∷ []) 3
    ∷ reads (0x61 ∷ 10 ∷ 0x61 ∷ 0x62 ∷ 10 ∷ []) (1 ∷ 1 ∷ []) 3
    ∷ reads (0x61 ∷ 0x62 ∷ 10 ∷ 0x61 ∷ 10 ∷ []) (1 ∷ 1 ∷ []) 3
    -- a, b, a; and a, a, b, c, a
    ∷ reads (0x61 ∷ 10 ∷ 0x62 ∷ 10 ∷ 0x61 ∷ 10 ∷ []) (1 ∷ 2 ∷ 1 ∷ []) 4
    ∷ reads (0x61 ∷ 10 ∷ 0x61 ∷ 10 ∷ 0x62 ∷ 10 ∷ 0x63 ∷ 10 ∷ 0x61 ∷ []) (1 ∷ 2 ∷ 2 ∷ 1 ∷ []) 5
    -- the first token's name, not the last one's: ba
    ∷ reads (0x62 ∷ 0x61 ∷ []) (2 ∷ []) 2
    -- no token: one space; none, one and two spaces in a run; and a line with a token between them
    ∷ reads (0x20 ∷ []) (0 ∷ []) 2
    ∷ reads (10 ∷ 0x20 ∷ 10 ∷ 0x20 ∷ 0x20 ∷ 10 ∷ []) (0 ∷ []) 2
    ∷ reads (10 ∷ 0x61 ∷ 10 ∷ 0x20 ∷ 10 ∷ []) (0 ∷ 1 ∷ 0 ∷ []) 4
    -- the line rules refused, alone and with the page rules
    ∷ case (rules [] 0) Any (10 ∷ []) Ample 100 (names line_rules (refuses 1 0)) (0 ∷ []) true
    ∷ bad_lines (rules [] 0) 1 0
    ∷ bad_lines Kind 2 1
    ∷ bad_lines Unused 3 1
    ∷ bad_lines Bounds 4 1
    ∷ bad_lines Child 5 1
    ∷ bad_lines Named 6 1
    ∷ bad_lines (rules Classes 2) 9 0
    -- the page rules refused, and behind them line 1
    ∷ bad_page (rules [] 0) 1 0
    ∷ bad_page Kind 2 1
    ∷ bad_page Unused 3 1
    ∷ bad_page Bounds 4 1
    ∷ bad_page Child 5 1
    ∷ bad_page Named 6 1
    ∷ bad_page (rules Classes 2) 9 0
    -- 256 lines, the last with and without its byte 10; the page rules come before, and a line that is refused behind; 255 lines
    ∷ case Blanks Any (replicate 256 10) Ample 100 (names the_page (refuses 20 0)) (0 ∷ []) true
    ∷ case Blanks Any (replicate 255 10 ++ 0x61 ∷ []) Ample 100 (names the_page (refuses 20 0)) (0 ∷ []) true
    ∷ case Blanks Kind (replicate 256 10) Ample 100 (names page_rules (refuses 2 1)) (0 ∷ []) true
    ∷ case Blanks Any (0x61 ∷ replicate 256 10) Ample 100 (names the_page (refuses 20 0)) (0 ∷ []) true
    ∷ case Blanks Any (replicate 255 10) Ample 100 (names the_page (gives 2)) (0 ∷ []) false
    -- a line of 256 bytes
    ∷ case Blanks Any (10 ∷ replicate 256 0x61) Ample 100 (names one_line (refuses 7 1)) (0 ∷ []) false
    -- the first line that has no reading: x; a, x; a, x, x; a, b, x, b
    ∷ bad_line (0x78 ∷ []) Ample 8 0 (0 ∷ [])
    ∷ bad_line (0x61 ∷ 10 ∷ 0x78 ∷ []) Ample 8 1 (1 ∷ 0 ∷ [])
    ∷ bad_line (0x61 ∷ 10 ∷ 0x78 ∷ 10 ∷ 0x78 ∷ 10 ∷ []) Ample 8 1 (1 ∷ 0 ∷ [])
    ∷ bad_line (0x61 ∷ 10 ∷ 0x62 ∷ 10 ∷ 0x78 ∷ 10 ∷ 0x62 ∷ []) Ample 8 2 (1 ∷ 2 ∷ 0 ∷ 2 ∷ [])
    -- the buffer for line readings: a, ab in 27 and 28 bytes
    ∷ bad_line (0x61 ∷ 10 ∷ 0x61 ∷ 0x62 ∷ 10 ∷ []) (sizes 100 27 100 100) 11 1 (1 ∷ 1 ∷ [])
    ∷ case Words Any (0x61 ∷ 10 ∷ 0x61 ∷ 0x62 ∷ 10 ∷ []) (sizes 100 28 100 100) 100 (names the_page (gives 3)) (1 ∷ 1 ∷ []) false
    -- the line's own buffer for tokens: a, b in 2 and 100 bytes, in 3 and 2, in 3 and 3; no token, b in 0 and 3; no token, b, a in 2 and 3
    ∷ bad_line (0x61 ∷ 10 ∷ 0x62 ∷ []) (sizes 100 100 2 100) 11 0 (1 ∷ 2 ∷ [])
    ∷ bad_line (0x61 ∷ 10 ∷ 0x62 ∷ []) (sizes 100 100 3 2) 11 1 (1 ∷ 2 ∷ [])
    ∷ case Words Any (0x61 ∷ 10 ∷ 0x62 ∷ []) (sizes 100 100 3 3) 100 (names the_page (gives 3)) (1 ∷ 2 ∷ []) false
    ∷ case Words Any (10 ∷ 0x62 ∷ []) (sizes 100 100 0 3) 100 (names the_page (gives 3)) (0 ∷ 2 ∷ []) false
    ∷ bad_line (10 ∷ 0x62 ∷ 10 ∷ 0x61 ∷ []) (sizes 100 100 2 3) 11 2 (0 ∷ 2 ∷ 1 ∷ [])
    -- the work area: ab behind an empty line in 35 and 36 bytes; the three class bytes of a, b, a in 19 and 20
    ∷ bad_line (10 ∷ 0x61 ∷ 0x62 ∷ []) (sizes 35 100 100 100) 10 1 (0 ∷ 1 ∷ [])
    ∷ case Words Any (10 ∷ 0x61 ∷ 0x62 ∷ []) (sizes 36 100 100 100) 100 (names the_page (gives 3)) (0 ∷ 1 ∷ []) false
    ∷ case Words Any (0x61 ∷ 10 ∷ 0x62 ∷ 10 ∷ 0x61 ∷ []) (sizes 19 100 100 100) 100 (names the_page (refuses 10 0)) (1 ∷ 2 ∷ 1 ∷ []) false
    ∷ case Words Any (0x61 ∷ 10 ∷ 0x62 ∷ 10 ∷ 0x61 ∷ []) (sizes 20 100 100 100) 100 (names the_page (gives 4)) (1 ∷ 2 ∷ 1 ∷ []) false
    -- one class where none, one and two runs stand
    ∷ case Words One [] Ample 100 (names the_page (refuses 8 0)) [] false
    ∷ case Words One (0x61 ∷ 10 ∷ 0x61 ∷ []) Ample 100 (names the_page (gives 1)) (1 ∷ []) false
    ∷ case Words One (0x61 ∷ 10 ∷ 0x62 ∷ []) Ample 100 (names the_page (refuses 8 0)) (1 ∷ 2 ∷ []) false
    -- the output buffer: two classes in 11 and 12 bytes
    ∷ case Words Any (0x61 ∷ 10 ∷ 0x62 ∷ []) Ample 11 (names the_page (refuses 11 12)) (1 ∷ 2 ∷ []) false
    ∷ case Words Any (0x61 ∷ 10 ∷ 0x62 ∷ []) Ample 12 (names the_page (gives 3)) (1 ∷ 2 ∷ []) false
    ∷ []

-- pages with the lines of their runs, the first of which is the line that the run counts as
pub data Division : Type 0 where
  division : List ℕ → List (List (List ℕ)) → Division

abbrev pub runs_stated : Division → List (List (List ℕ))
runs_stated (division page rs) = rs

abbrev pub runs_computed : Division → List (List (List ℕ))
runs_computed (division page rs) = map (λ (r : Run). map (λ (e : Entry). e.text) (members r)) (runs (entries_of Words page))

abbrev pub divisions : List Division
divisions =
    -- ab and a b; a, an empty line and a space, c, b and b behind a space
    division (0x61 ∷ 0x62 ∷ 10 ∷ 0x61 ∷ 0x20 ∷ 0x62 ∷ []) (((0x61 ∷ 0x62 ∷ []) ∷ (0x61 ∷ 0x20 ∷ 0x62 ∷ []) ∷ []) ∷ [])
    ∷ division (0x61 ∷ 10 ∷ 10 ∷ 0x20 ∷ 10 ∷ 0x63 ∷ 10 ∷ 0x62 ∷ 10 ∷ 0x20 ∷ 0x62 ∷ 10 ∷ [])
    (((0x61 ∷ []) ∷ []) ∷ ([] ∷ (0x20 ∷ []) ∷ []) ∷ ((0x63 ∷ []) ∷ []) ∷ ((0x62 ∷ []) ∷ (0x20 ∷ 0x62 ∷ []) ∷ []) ∷ [])
    ∷ []
