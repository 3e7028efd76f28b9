-- Lists of calls on fresh live lines, with their answers and the bytes that the line then has.
-- Assumes nothing.
use Rattle.std.specs.Prelude.{ℕ, List, [], ◌∷◌, ◌++◌}
use Rattle.table.specs.Records.{record_bytes}
use Rattle.table.specs.Answers.{Said, gives, refuses}
use Rattle.live.specs.Lines.{bytes_of}
use Rattle.live.specs.Calls.{new_says, new_leaves}
use Rattle.live.specs.Runs.{Call, adds, takes_back, line_after, answers_of}

-- digits, then the letter C: the start record is 3
abbrev Degrees : List ℕ
Degrees = record_bytes 2 0x30 0x39 0 ++ record_bytes 5 0 0 1 ++ record_bytes 2 0x43 0x43 0 ++ record_bytes 4 1 2 0

-- the same with a second part that spells no line, an Other from 0 to 255
abbrev Dead : List ℕ
Dead = record_bytes 2 0x30 0x39 0 ++ record_bytes 5 0 0 1 ++ record_bytes 6 0 255 0 ++ record_bytes 4 1 2 0

-- a table, a start number and calls; the constructor's answer, the calls' and the bytes at the end
pub data Case : Type 0 where
  case : List ℕ → ℕ → List Call → Said → List Said → List ℕ → Case

pub data Outcome : Type 0 where
  outcome : Said → List Said → List ℕ → Outcome

-- what is stated for the case, and what the definitions compute
abbrev pub stated : Case → Outcome
stated (case t k calls made said bytes) = outcome made said bytes

abbrev pub computed : Case → Outcome
computed (case t k calls made said bytes) =
    outcome (new_says t k) (answers_of (new_leaves t k) calls) (bytes_of (line_after (new_leaves t k) calls))

abbrev pub cases : List Case
cases =
    -- 2, 29, 29C, 29, 29x: a digit can still get a reading, C gives one, another letter none
    case Degrees 3
    (adds 0x32 100 ∷ adds 0x39 100 ∷ adds 0x43 100 ∷ takes_back 100 ∷ adds 0x78 100 ∷ [])
    (gives 4)
    (gives 2 ∷ gives 2 ∷ gives 3 ∷ gives 2 ∷ gives 0 ∷ [])
    (0x32 ∷ 0x39 ∷ 0x78 ∷ [])
    -- the Star alone has a reading at once, and none behind C
    ∷ case Degrees 1 (adds 0x32 100 ∷ adds 0x43 100 ∷ takes_back 100 ∷ takes_back 100 ∷ []) (gives 4) (gives 3 ∷ gives 0 ∷ gives 3 ∷ gives 3 ∷ []) []
    -- the area for 1 byte is 4 times 3 bytes, the area for none is 4; 19 comes before 10; a refused call leaves the line
    ∷ case Degrees 3
    (takes_back 0 ∷ adds 0x32 11 ∷ adds 0x32 12 ∷ takes_back 3 ∷ takes_back 4 ∷ [])
    (gives 4)
    (refuses 19 0 ∷ refuses 10 0 ∷ gives 2 ∷ refuses 10 0 ∷ gives 2 ∷ [])
    []
    -- nothing completes a part that spells no line
    ∷ case Dead 3 (adds 0x32 100 ∷ adds 0x39 100 ∷ takes_back 100 ∷ []) (gives 4) (gives 0 ∷ gives 0 ∷ gives 0 ∷ []) (0x32 ∷ [])
    -- a refused start number and a refused table: one Nothing record, of which no line has a reading
    ∷ case Degrees 4 (adds 0x32 3 ∷ adds 0x43 5 ∷ adds 0x43 6 ∷ []) (refuses 9 0) (gives 0 ∷ refuses 10 0 ∷ gives 0 ∷ []) (0x32 ∷ 0x43 ∷ [])
    ∷ case [] 0 (takes_back 9 ∷ []) (refuses 1 0) (refuses 19 0 ∷ []) []
    ∷ []
