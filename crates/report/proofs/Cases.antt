-- Document 01's example of the program's output, that of case J and that of an empty table follow from the definitions.
-- Assumes nothing.
use Prim.Native.Nat.{ℕ}
use mathlib.Core.Path.{◌≡◌, refl}
use mathlib.Core.List.{List, [], ◌∷◌, ◌++◌}
use Rattle.table.specs.Expression.{below, exp_of}
use Rattle.matcher.specs.Calls.{read_says}
use Rattle.lexer.specs.Lexing.{lex_says}
use Rattle.printing.specs.Decimal.{decimal}
use Rattle.report.specs.Report.{line_report, table_report}

-- T1, whose last record is 9
abbrev pub T1 : List ℕ
T1 =
    2 ∷ 0x61 ∷ 0x61 ∷ 1
    ∷ 2 ∷ 0x61 ∷ 0x61 ∷ 0
    ∷ 2 ∷ 0x62 ∷ 0x62 ∷ 0
    ∷ 4 ∷ 1 ∷ 2 ∷ 2
    ∷ 2 ∷ 0x62 ∷ 0x62 ∷ 0
    ∷ 2 ∷ 0x63 ∷ 0x63 ∷ 0
    ∷ 4 ∷ 4 ∷ 5 ∷ 3
    ∷ 3 ∷ 0 ∷ 3 ∷ 0
    ∷ 3 ∷ 7 ∷ 6 ∷ 0
    ∷ 5 ∷ 8 ∷ 0 ∷ 0 ∷ []

-- the lines abc, empty and b
abbrev pub example-reports : List ℕ
example-reports = line_report T1 9 1 (0x61 ∷ 0x62 ∷ 0x63 ∷ []) ++ (line_report T1 9 2 [] ++ line_report T1 9 3 (0x62 ∷ []))

-- "line 1 ok 2", "1 0 1", "3 1 2", "line 2 ok 0", "line 3 refused 8", each with its line end
abbrev pub example-text : List ℕ
example-text =
    0x6c ∷ 0x69 ∷ 0x6e ∷ 0x65 ∷ 0x20 ∷ 0x31 ∷ 0x20 ∷ 0x6f ∷ 0x6b ∷ 0x20 ∷ 0x32 ∷ 0x0a
    ∷ 0x31 ∷ 0x20 ∷ 0x30 ∷ 0x20 ∷ 0x31 ∷ 0x0a
    ∷ 0x33 ∷ 0x20 ∷ 0x31 ∷ 0x20 ∷ 0x32 ∷ 0x0a
    ∷ 0x6c ∷ 0x69 ∷ 0x6e ∷ 0x65 ∷ 0x20 ∷ 0x32 ∷ 0x20 ∷ 0x6f ∷ 0x6b ∷ 0x20 ∷ 0x30 ∷ 0x0a
    ∷ 0x6c ∷ 0x69 ∷ 0x6e ∷ 0x65 ∷ 0x20 ∷ 0x33 ∷ 0x20 ∷ 0x72 ∷ 0x65 ∷ 0x66 ∷ 0x75 ∷ 0x73 ∷ 0x65 ∷ 0x64 ∷ 0x20 ∷ 0x38 ∷ 0x0a ∷ []

pub example-holds : example-reports ≡ example-text
unfolding line_report decimal lex_says read_says exp_of below
example-holds = refl

-- T4, whose one record is Empty with tag 7, and the empty line: "line 1 ok 0" with its line end
pub empty-part-reported : line_report (1 ∷ 0 ∷ 0 ∷ 7 ∷ []) 0 1 [] ≡ 0x6c ∷ 0x69 ∷ 0x6e ∷ 0x65 ∷ 0x20 ∷ 0x31 ∷ 0x20 ∷ 0x6f ∷ 0x6b ∷ 0x20 ∷ 0x30 ∷ 0x0a ∷ []
unfolding line_report decimal lex_says read_says exp_of below
empty-part-reported = refl

-- "table refused 1" with its line end
pub empty-table-refused : table_report [] ≡ 0x74 ∷ 0x61 ∷ 0x62 ∷ 0x6c ∷ 0x65 ∷ 0x20 ∷ 0x72 ∷ 0x65 ∷ 0x66 ∷ 0x75 ∷ 0x73 ∷ 0x65 ∷ 0x64 ∷ 0x20 ∷ 0x31 ∷ 0x0a ∷ []
unfolding table_report decimal
empty-table-refused = refl
