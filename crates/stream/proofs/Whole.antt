-- Whatever the blocks in which an input comes, what is printed is the output of the whole input.
-- Assumes nothing.
use Prim.Native.Nat.{ℕ, zero, suc, ◌+◌, ◌≤◌, ◌<◌}
use mathlib.Core.Path.{◌≡◌, refl, sym, ◌∙◌, ap}
use mathlib.Core.Bool.{Bool, true, false}
use mathlib.Core.List.{List, [], ◌∷◌, ◌++◌}
use native.Mathlib.Omega.{arith}
use lib.Dec.{eqb}
use lib.ListN.{length, take, drop, length-append}
use lib.Seq.{take_at, length-take-le}
use Rattle.lines.specs.Lines.{pick_lines, pick_line, ended_lines, open_line, last_line, kept_of}
use Rattle.lines.proofs.Splitting.{ended-append, open-append, ended-few, lines_split}
use Rattle.lines.proofs.Keeping.{kept_more, kept_again}
use Rattle.table.specs.Answers.{Said, gives, refuses}
use Rattle.table.specs.Checked.{checked}
use Rattle.report.specs.Report.{line_report, table_report}
use Rattle.stream.specs.Output.{last_record, reports, output, printed_by, printed}
use Rattle.stream.specs.Blocks.{ended_reports, last_report, Took, Went, begun, went_on, Printed}
use Rattle.stream.proofs.Reports.{reports-append, kept-report}

-- two lines of which the same bytes are kept
abbrev Like : List ℕ → List ℕ → Type 0
Like u w = kept_of u ≡ kept_of w

like-more : (u w s : List ℕ) → Like u w → Like (u ++ s) (w ++ s)
like-more u w s e = sym (kept_more u s) ∙ ap (λ (l : List ℕ). kept_of (l ++ s)) e ∙ kept_more w s

like-report : (t : List ℕ) (k n : ℕ) (u w : List ℕ) → Like u w → line_report t k n u ≡ line_report t k n w
like-report t k n u w e = sym (kept-report t k n u) ∙ ap (line_report t k n) e ∙ kept-report t k n w

-- they end alike in every block: what is left open, what is printed, and how many end
like-open : (u w s : List ℕ) → Like u w → Like (open_line u s) (open_line w s)
like-open u w [] e = e
like-open u w (c ∷ s) e = go (like-open (u ++ (c ∷ [])) (w ++ (c ∷ [])) s (like-more u w (c ∷ []) e)) (eqb c 10)
  where
    go :
        Like (open_line (u ++ (c ∷ [])) s) (open_line (w ++ (c ∷ [])) s)
        → (b : Bool)
        → Like (pick_line b (open_line [] s) (open_line (u ++ (c ∷ [])) s)) (pick_line b (open_line [] s) (open_line (w ++ (c ∷ [])) s))
    go more true = refl
    go more false = more

like-reports : (t : List ℕ) (k n : ℕ) (u w s : List ℕ) → Like u w → reports t k n (ended_lines u s) ≡ reports t k n (ended_lines w s)
like-reports t k n u w [] e = refl
like-reports t k n u w (c ∷ s) e = go (like-reports t k n (u ++ (c ∷ [])) (w ++ (c ∷ [])) s (like-more u w (c ∷ []) e)) (eqb c 10)
  where
    go :
        reports t k n (ended_lines (u ++ (c ∷ [])) s) ≡ reports t k n (ended_lines (w ++ (c ∷ [])) s)
        → (b : Bool)
        → reports t k n (pick_lines b (u ∷ ended_lines [] s) (ended_lines (u ++ (c ∷ [])) s))
        ≡ reports t k n (pick_lines b (w ∷ ended_lines [] s) (ended_lines (w ++ (c ∷ [])) s))
    go more true = ap (λ (l : List ℕ). l ++ reports t k (suc n) (ended_lines [] s)) (like-report t k n u w e)
    go more false = more

like-count : (u w s : List ℕ) → length (ended_lines u s) ≡ length (ended_lines w s)
like-count u w [] = refl
like-count u w (c ∷ s) = go (like-count (u ++ (c ∷ [])) (w ++ (c ∷ [])) s) (eqb c 10)
  where
    go :
        length (ended_lines (u ++ (c ∷ [])) s) ≡ length (ended_lines (w ++ (c ∷ [])) s)
        → (b : Bool)
        → length (pick_lines b (u ∷ ended_lines [] s) (ended_lines (u ++ (c ∷ [])) s))
        ≡ length (pick_lines b (w ∷ ended_lines [] s) (ended_lines (w ++ (c ∷ [])) s))
    go more true = refl
    go more false = more

like-last : (t : List ℕ) (k n : ℕ) (u : List ℕ) → reports t k n (last_line (kept_of u)) ≡ reports t k n (last_line u)
like-last t k n [] = refl
like-last t k n (c ∷ u) = ap (λ (l : List ℕ). l ++ []) (kept-report t k n (c ∷ u))

module _ {t u : List ℕ} {n : ℕ} {block out u' : List ℕ} {n' taken written : ℕ} {final : List ℕ}
    (x : Took t u n block out u' n' taken written final)
  where
    -- what a block left in the buffer
    pub took-front : take written final ≡ ended_reports t u n (take taken block)
    took-front =
        ap (take written) x.buffer ∙ take_at (ended_reports t u n (take taken block)) (drop written out) written (sym x.size)

    -- what is written lies inside the buffer
    pub took-within : written ≤ length final
    took-within =
        omega (arith, x.size, ap length x.buffer, length-append (ended_reports t u n (take taken block)) (drop written out))

    -- no more lines end than bytes are taken
    pub took-few : n' ≤ n + taken
    took-few = omega (arith, x.ended, ended-few u (take taken block), length-take-le taken block x.within)

    -- of a block some bytes are taken where the buffer has room for a report
    pub took-some : 0 < length block → 32768 ≤ length out → 0 < taken
    took-some h g = go taken refl
      where
        go : (i : ℕ) → taken ≡ i → 0 < i
        go zero e =
            let z : written ≡ 0 = x.size ∙ ap (λ (j : ℕ). length (ended_reports t u n (take j block))) e in
            absurd (omega (arith, x.stopped (omega arith)))
        go (suc i) e = omega arith

    printed-more : {s p : List ℕ} → Printed t s p u n → Printed t (s ++ take taken block) (p ++ take written final) u' n'
    printed-more {s} {p} y =
        record {
          reported =
              ap (λ (l : List ℕ). l ++ take written final) y.reported
              ∙ ap (λ (l : List ℕ). ended_reports t [] 0 s ++ l) (took-front ∙ behind)
              ∙ sym (reports-append t (last_record t) 1 (ended_lines [] s) (ended_lines (open_line [] s) (take taken block)))
              ∙ ap (reports t (last_record t) 1) (sym (ended-append [] s (take taken block)));
          kept =
              x.kept
              ∙ ap (λ (l : List ℕ). kept_of (open_line l (take taken block))) y.kept
              ∙ like-open (kept_of (open_line [] s)) (open_line [] s) (take taken block) (kept_again (open_line [] s))
              ∙ ap kept_of (sym (open-append [] s (take taken block)));
          ended =
              omega (arith, x.ended, y.ended, like-count u (open_line [] s) (take taken block), ap length (ended-append [] s (take taken block)), length-append (ended_lines [] s) (ended_lines (open_line [] s) (take taken block)));
        }
      where
        numbered : suc n ≡ 1 + length (ended_lines [] s)
        numbered = omega (arith, y.ended)

        behind :
            ended_reports t u n (take taken block)
            ≡ reports t (last_record t) (1 + length (ended_lines [] s)) (ended_lines (open_line [] s) (take taken block))
        behind =
            ap (λ (l : List ℕ). reports t (last_record t) (suc n) (ended_lines l (take taken block))) y.kept
            ∙ like-reports t (last_record t) (suc n) (kept_of (open_line [] s)) (open_line [] s) (take taken block) (kept_again (open_line [] s))
            ∙ ap (λ (i : ℕ). reports t (last_record t) i (ended_lines (open_line [] s) (take taken block))) numbered

-- the lines that ended in an input of any blocks are reported, and nothing else: what stands where a read fails
pub went-printed : {t s p u : List ℕ} {n : ℕ} → Went t s p u n → Printed t s p u n
went-printed begun = record { reported = refl; kept = refl; ended = refl }
went-printed (went_on w x e f) = rw (e, f) (printed-more x (went-printed w))

-- with the report of the last line it is the output of the whole input: what stands at the input's end
pub went-whole : {t s p u : List ℕ} {n : ℕ} → Went t s p u n → p ++ last_report t u n ≡ output t (last_record t) s
went-whole {t} {s} {p} {u} {n} w = whole (went-printed w)
  where
    whole : Printed t s p u n → p ++ last_report t u n ≡ output t (last_record t) s
    whole y =
        let numbered : suc n ≡ 1 + length (ended_lines [] s) = omega (arith, y.ended) in
        ap (λ (l : List ℕ). l ++ last_report t u n) y.reported
        ∙ ap (λ (l : List ℕ). ended_reports t [] 0 s ++ reports t (last_record t) (suc n) (last_line l)) y.kept
        ∙ ap (λ (l : List ℕ). ended_reports t [] 0 s ++ l) (like-last t (last_record t) (suc n) (open_line [] s))
        ∙ ap (λ (i : ℕ). ended_reports t [] 0 s ++ reports t (last_record t) i (last_line (open_line [] s))) numbered
        ∙ sym (reports-append t (last_record t) 1 (ended_lines [] s) (last_line (open_line [] s)))
        ∙ ap (reports t (last_record t) 1) (sym (lines_split s))

-- so the program prints what document 01 says, for a table that passes and for one that is refused
pub program-passed :
    {t s p u : List ℕ} {n m : ℕ} → checked t ≡ gives m → Went t s p u n → p ++ last_report t u n ≡ printed t s
program-passed {t} {s} e w = went-whole w ∙ ap (λ (x : Said). printed_by x t s) (sym e)

pub program-refused : (t s : List ℕ) (n d : ℕ) → checked t ≡ refuses n d → table_report t ≡ printed t s
program-refused t s n d e = ap (λ (x : Said). printed_by x t s) (sym e)
