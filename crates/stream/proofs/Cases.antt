-- Document 01's example of the program's output follows from the definitions, for the whole input; its last line may lack byte 10.
-- Assumes nothing.
use Prim.Native.Nat.{ℕ}
use mathlib.Core.Path.{◌≡◌, ◌∙◌, ap}
use mathlib.Core.List.{List, [], ◌∷◌, ◌++◌, append-nil}
use Rattle.report.specs.Report.{line_report}
use Rattle.report.proofs.Cases.{T1, example-text, example-holds}
use Rattle.stream.specs.Output.{printed, output}

-- the reports of the three lines, with nothing behind the last
three : output T1 9 (0x61 ∷ 0x62 ∷ 0x63 ∷ 10 ∷ 10 ∷ 0x62 ∷ 10 ∷ []) ≡ example-text
three =
    ap (λ (l : List ℕ). line_report T1 9 1 (0x61 ∷ 0x62 ∷ 0x63 ∷ []) ++ (line_report T1 9 2 [] ++ l)) (append-nil (line_report T1 9 3 (0x62 ∷ [])))
    ∙ example-holds

pub example-printed : printed T1 (0x61 ∷ 0x62 ∷ 0x63 ∷ 10 ∷ 10 ∷ 0x62 ∷ 10 ∷ []) ≡ example-text
example-printed = three

pub example-unended : printed T1 (0x61 ∷ 0x62 ∷ 0x63 ∷ 10 ∷ 10 ∷ 0x62 ∷ []) ≡ example-text
example-unended = three
