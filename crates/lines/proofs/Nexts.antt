-- The lines from a position on: the bytes up to the next byte 10 are the first, and behind it are the others.
-- Assumes nothing.
use Prim.Native.Nat.{ℕ, suc, ◌+◌, ◌-◌, ◌≤◌, ◌<◌, min}
use mathlib.Core.Path.{◌≡◌, refl, sym, ◌∙◌, ap}
use mathlib.Core.Bool.{Bool, true, false}
use mathlib.Core.List.{List, [], ◌∷◌, ◌++◌, append-nil}
use native.Mathlib.Omega.{arith}
use borrow.Author.Tests.{ltb-true, ltb-false, ne_eqb}
use lib.Dec.{ltb}
use lib.ListN.{length, take, drop, length-drop, take-append-drop, drop_of_length-le}
use lib.Seq.{drop-cons, drop-drop, length-take-le}
use Rattle.lines.specs.Lines.{on_first, NoEnd, lines_of}
use Rattle.lines.specs.Ends.{NextEnd}
use Rattle.lines.proofs.Ends.{none_tail, next-plain}

-- bytes without a byte 10 and one behind them are a line, and alone they are the last one
pub line-ended : (u s : List ℕ) → NoEnd u → lines_of (u ++ (10 ∷ s)) ≡ u ∷ lines_of s
line-ended [] s h = refl
line-ended (c ∷ u) s h = rw (ne_eqb c 10 (h 0 (omega arith))) (ap (on_first c) (line-ended u s (none_tail c u h)))

line-last : (c : ℕ) (u : List ℕ) → NoEnd (c ∷ u) → lines_of (c ∷ u) ≡ (c ∷ u) ∷ []
line-last c [] h = rw (ne_eqb c 10 (h 0 (omega arith)))
line-last c (d ∷ u) h = rw (ne_eqb c 10 (h 0 (omega arith))) (ap (on_first c) (line-last d u (none_tail c (d ∷ u) h)))

line-alone : (u : List ℕ) → 0 < length u → NoEnd u → lines_of u ≡ u ∷ []
line-alone [] l h = absurd (omega arith)
line-alone (c ∷ u) l h = line-last c u h

pub lines_next :
    {s : List ℕ} {from end : ℕ} (e : NextEnd s from end) → from < length s
    → lines_of (drop from s) ≡ take (end - from) (drop from s) ∷ lines_of (drop (min (end + 1) (length s)) s)
lines_next {s} {from} {end} e l = go (ltb end (length s)) refl
  where
    line : List ℕ
    line = take (end - from) (drop from s)

    size : length line ≡ end - from
    size = length-take-le (end - from) (drop from s) (omega (arith, length-drop from s, e.inside))

    split : drop from s ≡ line ++ drop end s
    split =
        let n : from + (end - from) ≡ end = omega (arith, e.behind) in
        sym (take-append-drop (end - from) (drop from s))
        ∙ ap (λ (x : List ℕ). line ++ x) (drop-drop (end - from) from s ∙ ap (λ (i : ℕ). drop i s) n)

    go :
        (b : Bool) → ltb end (length s) ≡ b
        → lines_of (drop from s) ≡ line ∷ lines_of (drop (min (end + 1) (length s)) s)
    go true f =
        let h : end < length s = ltb-true end (length s) f in
        let n : suc end ≡ min (end + 1) (length s) = omega arith in
        ap lines_of (split ∙ ap (λ (x : List ℕ). line ++ x) (drop-cons s end 0 h ∙ ap (λ (c : ℕ). c ∷ drop (suc end) s) (e.found h)))
        ∙ line-ended line (drop (suc end) s) (next-plain e)
        ∙ ap (λ (i : ℕ). line ∷ lines_of (drop i s)) n
    go false f =
        let h : length s ≤ end = ltb-false end (length s) f in
        let n : length s ≤ min (end + 1) (length s) = omega arith in
        ap lines_of (split ∙ ap (λ (x : List ℕ). line ++ x) (drop_of_length-le s h) ∙ append-nil line)
        ∙ line-alone line (omega (arith, size, e.behind)) (next-plain e)
        ∙ ap (λ (x : List ℕ). line ∷ lines_of x) (sym (drop_of_length-le s n))

-- the same of the number of lines, n of them counted before the position
pub next-counted :
    {s : List ℕ} {from end next : ℕ} (e : NextEnd s from end) → from < length s
    → (n m : ℕ) → n + length (lines_of (drop from s)) ≡ m → next ≡ min (end + 1) (length s)
    → n + 1 + length (lines_of (drop next s)) ≡ m
next-counted {s} {from} {end} {next} e l n m f g =
    omega (arith, ap length (lines_next e l), ap (λ (i : ℕ). length (lines_of (drop i s))) g)
