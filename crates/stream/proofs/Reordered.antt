-- What the program prints is the same by a table with alternatives exchanged that share no line, and by that of a text with its alternatives in another
-- order (document 02, request 9).
-- Assumes nothing.
use Prim.Native.Nat.{ℕ, suc, ◌≤◌, ◌<◌}
use native.Mathlib.Omega.{arith}
use mathlib.Core.Path.{◌≡◌, refl, sym, ◌∙◌, ap, ap₂, subst}
use mathlib.Core.Bool.{Bool}
use mathlib.Core.List.{List, [], ◌∷◌, ◌++◌}
use Rattle.table.specs.Records.{count}
use Rattle.table.specs.Faults.{Passes}
use Rattle.table.specs.Answers.{Said, gives, refuses}
use Rattle.table.specs.Checked.{checked}
use Rattle.table.proofs.Checking.{check-passes, check-gives}
use Rattle.table.proofs.Passing.{count-bound}
use Rattle.notation.specs.Tables.{under, size, table_of}
use Rattle.notation.specs.Accepted.{Text}
use Rattle.notation.proofs.Standing.{table-count, table-stands}
use Rattle.notation.proofs.Ranges.{Ordered, whole-ordered}
use Rattle.notation.proofs.Passing.{ordered-passes}
use Rattle.lines.specs.Lines.{lines_of}
use Rattle.report.specs.Report.{line_report, table_said, table_report}
use Rattle.report.proofs.Alike.{spelled-report}
use Rattle.reorder.specs.Exchanges.{reordered, Apart, Each}
use Rattle.reorder.specs.Texts.{Arranged}
use Rattle.reorder.proofs.Reordering.{each_or, reordered-count, reordered-checked, reordered-passes, reordered-lines, reordered-tokens}
use Rattle.reorder.proofs.Standing.{stands-expression}
use Rattle.reorder.proofs.Texts.{arranged-under, arranged-ordered, arranged-lines, arranged-tokens}
use Rattle.stream.specs.Output.{last_record, reports, printed_by, printed}

-- each line's report is the same
abbrev SameReports : (t : List ℕ) (k : ℕ) (u : List ℕ) (j : ℕ) → Type 0
SameReports t k u j = (n : ℕ) (s : List ℕ) → line_report u j n s ≡ line_report t k n s

same-reports : (t : List ℕ) (k : ℕ) (u : List ℕ) (j : ℕ) → SameReports t k u j → (n : ℕ) (ss : List (List ℕ)) → reports u j n ss ≡ reports t k n ss
same-reports t k u j each n [] = refl
same-reports t k u j each n (s ∷ ss) = ap₂ ◌++◌ (each n s) (same-reports t k u j each (suc n) ss)

printed-same :
    (t u : List ℕ) → checked u ≡ checked t → (Passes t → SameReports t (last_record t) u (last_record u)) → (s : List ℕ) → printed u s ≡ printed t s
unfolding table_report
printed-same t u e each s = ap (λ (y : Said). printed_by y u s) e ∙ go (checked t) refl
  where
    go : (y : Said) → checked t ≡ y → printed_by y u s ≡ printed_by y t s
    go (gives m) f = same-reports t (last_record t) u (last_record u) (each (check-gives t m f).0) 1 (lines_of s)
    go (refuses n d) f = ap table_said e

-- a table with alternatives exchanged that share no line
pub reordered-printed : (t ks : List ℕ) → Each (Apart t) ks → (s : List ℕ) → printed (reordered t ks) s ≡ printed t s
reordered-printed t ks apart = printed-same t (reordered t ks) (reordered-checked t ks (each_or apart)) same
  where
    same-counts : count (reordered t ks) ≡ count t
    same-counts = reordered-count t ks (each_or apart)

    same : Passes t → SameReports t (last_record t) (reordered t ks) (last_record (reordered t ks))
    same p =
        subst (λ (j : ℕ). SameReports t (last_record t) (reordered t ks) j) (omega (arith, same-counts))
        (spelled-report p (reordered-passes t ks (each_or apart) p) inside (omega (arith, inside, same-counts)) same-counts
        (reordered-lines t ks (each_or apart) p (last_record t) inside)
        (reordered-tokens t ks apart p (last_record t) inside))
      where
        inside : last_record t < count t
        inside = omega (arith, count-bound t p)

-- the table of a text with its alternatives in another order
pub text-printed :
    {s s' : List ℕ} (x : Text s) (x' : Text s') {g : Bool} → Arranged g x.tree x'.tree → size x.tree ≤ 255 → (input : List ℕ)
    → printed (table_of x'.tree) input ≡ printed (table_of x.tree) input
text-printed x x' y few =
    printed-same (table_of x.tree) (table_of x'.tree)
    (check-passes (table_of x'.tree) passes' ∙ ap gives same-counts ∙ sym (check-passes (table_of x.tree) passes))
    (λ p.
    rw (last, last')
    (spelled-report passes passes' inside inside' same-counts
    (rw
    (stands-expression (table_of x.tree) passes (table-stands x.tree) inside, stands-expression (table_of x'.tree) passes' (table-stands x'.tree) inside')
    (arranged-lines y))
    (arranged-tokens y ordered few)))
  where
    ordered : Ordered x.tree
    ordered = whole-ordered x.grouped

    passes : Passes (table_of x.tree)
    passes = ordered-passes x.tree ordered few

    passes' : Passes (table_of x'.tree)
    passes' = ordered-passes x'.tree (arranged-ordered y ordered) (omega (arith, arranged-under y))

    same-counts : count (table_of x'.tree) ≡ count (table_of x.tree)
    same-counts = omega (arith, table-count x.tree, table-count x'.tree, arranged-under y)

    inside : under x.tree < count (table_of x.tree)
    inside = omega (arith, table-count x.tree)

    inside' : under x'.tree < count (table_of x'.tree)
    inside' = omega (arith, table-count x'.tree)

    last : last_record (table_of x.tree) ≡ under x.tree
    last = omega (arith, table-count x.tree)

    last' : last_record (table_of x'.tree) ≡ under x'.tree
    last' = omega (arith, table-count x'.tree)
