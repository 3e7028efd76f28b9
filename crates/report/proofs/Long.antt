-- A line over 255 bytes is refused, whatever its bytes.
-- Assumes nothing.
use Prim.Native.Nat.{ℕ, ◌<◌}
use mathlib.Core.Path.{◌≡◌, refl}
use mathlib.Core.Bool.{Bool, true, false, not}
use mathlib.Core.List.{List}
use borrow.Author.Tests.{lt-ltb}
use lib.Dec.{ltb}
use lib.ListN.{length}
use Rattle.table.specs.Records.{count}
use Rattle.table.specs.Answers.{Said, gives, refuses}
use Rattle.table.specs.Checked.{or_else, checked}
use Rattle.reading.specs.Calls.{if_passed}
use Rattle.matcher.specs.Calls.{read_says}
use Rattle.lexer.specs.Lexing.{lex_says}
use Rattle.report.specs.Report.{reported, line_report}

-- what is printed for a line that is refused by 7, if by no number before
long-reported :
    (t : List ℕ) (k n : ℕ) (s u : List ℕ) (x y c : Said) (b : Bool)
    → reported t k n s (if_passed (if_passed c (or_else b (refuses 9 0) (refuses 7 0))) x)
    ≡ reported t k n u (if_passed (if_passed c (or_else b (refuses 9 0) (refuses 7 0))) y)
long-reported t k n s u x y (gives m) true = refl
long-reported t k n s u x y (gives m) false = refl
long-reported t k n s u x y (refuses r d) b = refl

pub long-report : (t : List ℕ) (k n : ℕ) (s u : List ℕ) → 255 < length s → 255 < length u → line_report t k n s ≡ line_report t k n u
unfolding line_report lex_says read_says
long-report t k n s u h g =
    rw (lt-ltb 255 (length s) h, lt-ltb 255 (length u) g) (long-reported t k n s u _ _ (checked t) (not (ltb k (count t))))
