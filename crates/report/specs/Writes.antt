-- What the functions inside write.
-- Assumes nothing.
use Rattle.std.specs.Prelude.{ℕ, List, [], ◌∷◌, ◌++◌}
use Rattle.printing.specs.Decimal.{decimal}
use Rattle.report.specs.Text.{line_word}

-- a line's own printed line: its number, a word and a number
abbrev pub line_with : ℕ → List ℕ → ℕ → List ℕ
line_with number word n = line_word ++ (decimal number ++ (word ++ (decimal n ++ (10 ∷ []))))
