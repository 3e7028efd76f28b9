-- The reports of lines, and of a line of which only the first 256 bytes are kept.
-- Assumes nothing.
use Prim.Native.Nat.{ℕ, suc, ◌+◌, ◌<◌}
use mathlib.Core.Path.{◌≡◌, refl, sym, ◌∙◌, ap}
use mathlib.Core.Bool.{Bool, true, false}
use mathlib.Core.List.{List, [], ◌∷◌, ◌++◌, append_assoc}
use native.Mathlib.Omega.{arith}
use borrow.Author.Tests.{ltb-true, ltb-false}
use lib.Dec.{ltb}
use lib.ListN.{length}
use lib.Seq.{take_all, length-take-le}
use Rattle.lines.specs.Lines.{kept_of}
use Rattle.report.specs.Report.{line_report}
use Rattle.report.proofs.Long.{long-report}
use Rattle.stream.specs.Output.{reports}

-- the reports of lines after lines
pub reports-append :
    (t : List ℕ) (k n : ℕ) (xs ys : List (List ℕ)) → reports t k n (xs ++ ys) ≡ reports t k n xs ++ reports t k (n + length xs) ys
reports-append t k n [] ys = let e : n ≡ n + 0 = omega arith in ap (λ (i : ℕ). reports t k i ys) e
reports-append t k n (s ∷ xs) ys =
    let e : suc n + length xs ≡ n + suc (length xs) = omega arith in
    ap (λ (l : List ℕ). line_report t k n s ++ l) (reports-append t k (suc n) xs ys ∙ ap (λ (i : ℕ). reports t k (suc n) xs ++ reports t k i ys) e)
    ∙ sym (append_assoc (line_report t k n s) (reports t k (suc n) xs) (reports t k (n + suc (length xs)) ys))

-- a line over 255 bytes is reported as it is, though only 256 of its bytes are kept; so is every other
pub kept-report : (t : List ℕ) (k n : ℕ) (s : List ℕ) → line_report t k n (kept_of s) ≡ line_report t k n s
kept-report t k n s = go (ltb 256 (length s)) refl
  where
    go : (b : Bool) → ltb 256 (length s) ≡ b → line_report t k n (kept_of s) ≡ line_report t k n s
    go true e =
        let h : 256 < length s = ltb-true 256 (length s) e in
        let l : length (kept_of s) ≡ 256 = length-take-le 256 s (omega arith) in
        long-report t k n (kept_of s) s (omega arith) (omega arith)
    go false e = ap (line_report t k n) (take_all 256 s (ltb-false 256 (length s) e))
