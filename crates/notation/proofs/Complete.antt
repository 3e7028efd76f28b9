-- The decision finds the tree of every text of the grammar, so that a text has one tree at most.
-- Assumes nothing.
use Prim.Native.Nat.{ℕ, zero, suc}
use mathlib.Core.Path.{◌≡◌, refl, ◌∙◌, ap}
use mathlib.Core.List.{List, [], ◌∷◌, ◌++◌, append-nil, append_assoc}
use Rattle.std.specs.Prelude.{Option}
use lib.ListN.{length, drop}
use lib.Seq.{drop-append_seam}
use Rattle.notation.specs.declared.Word.{Word}
use Rattle.notation.specs.Trees.{Tree}
use Rattle.notation.specs.Grammar.{bar, asterisk, closing, item-letter, item-empty, item-group, item-star, item-tag}
use Rattle.notation.specs.Grammar.{row-item, row_next, Whole, whole_row, whole-next}
use Rattle.notation.specs.Decision.{later, word_at, Held, none, some, Frame, frame, State, state, row_with, all_with}
use Rattle.notation.specs.Decision.{step, whole, finished, and_then, run, outcome}
use Rattle.notation.proofs.Words.{Spells, letter-spells, tag-spells}

-- the bytes of a word are passed over
pub run-skip : (s : List ℕ) (k : ℕ) (st : State) → run s k st ≡ run (drop k s) 0 st
run-skip s zero st = refl
run-skip [] (suc k) st = refl
run-skip (c ∷ s) (suc k) st = run-skip s k st

-- a word in front of a text is the step taken
word-run :
    {z : List ℕ} {w : Option Word} → Spells z w → (rest : List ℕ) (st : State)
    → run (z ++ rest) 0 st ≡ and_then (step w st) (length (z ++ rest)) (λ next. run rest 0 next)
word-run {z} {w} p rest st =
    let k : (next : State) → run (p.tail ++ rest) (later w) next ≡ run rest 0 next =
    λ next. rw (p.long, run-skip (p.tail ++ rest) (length p.tail) next, drop-append_seam p.tail rest) in
    rw p.made (simp (p.at_head, k))

-- what a row and a whole text in front of a text lead to: parts that join to their tree
record RowRun (s rest : List ℕ) (fs : List Frame) (l : Held) (t : Tree) : Type 0 where
  row : Held
  item : Tree
  joins : row_with row (some item) ≡ some t
  goes : run (s ++ rest) 0 (state fs l none none) ≡ run rest 0 (state fs l row (some item))

record WholeRun (s rest : List ℕ) (fs : List Frame) (t : Tree) : Type 0 where
  left : Held
  row : Held
  item : Tree
  joins : all_with left row (some item) ≡ some t
  goes : run (s ++ rest) 0 (state fs none none none) ≡ run rest 0 (state fs left row (some item))

-- each in front of any text: an item in any state, a row where neither row nor item is held, a whole text where the alternatives are not either
abbrev ItemRuns : List ℕ → Tree → Type 0
ItemRuns s t =
    (rest : List ℕ) (fs : List Frame) (l r i : Held)
    → run (s ++ rest) 0 (state fs l r i) ≡ run rest 0 (state fs l (row_with r i) (some t))

abbrev RowRuns : List ℕ → Tree → Type 0
RowRuns s t = (rest : List ℕ) (fs : List Frame) (l : Held) → RowRun s rest fs l t

abbrev WholeRuns : List ℕ → Tree → Type 0
WholeRuns s t = (rest : List ℕ) (fs : List Frame) → WholeRun s rest fs t

whole_run : {s : List ℕ} {t : Tree} → Whole s t → WholeRuns s t
unfolding word_at
whole_run a = elim a as (λ s t _. ItemRuns s t) (λ s t _. RowRuns s t) (λ s t _. WholeRuns s t) [
  | item-letter b ↦ λ rest fs l r i. word-run (letter-spells b).1 rest (state fs l r i)
  | item-empty e ↦ λ rest fs l r i. rw e
  | item-group s {t} e (b → h) ↦ λ rest fs l r i.
      let k : WholeRun s (closing ∷ rest) (frame l (row_with r i) ∷ fs) t = h (closing ∷ rest) (frame l (row_with r i) ∷ fs) in
      rw (e, append_assoc s (closing ∷ []) rest, k.goes, k.joins)
  | item-star s e (b → h) ↦ λ rest fs l r i. rw (e, append_assoc s (asterisk ∷ []) rest, h (asterisk ∷ rest) fs l r i)
  | item-tag s z {t} e (b → h) d n ↦ λ rest fs l r i.
      rw (e, append_assoc s z rest, h (z ++ rest) fs l r i, word-run (tag-spells d) rest (state fs l (row_with r i) (some t)), n)
  | row-item {t = t} (b → h) ↦ λ rest fs l. record { row = none; item = t; joins = refl; goes = h rest fs l none none }
  | row_next s s' {t} {u} e (b → h) (d → g) ↦ λ rest fs l.
      let k : RowRun s (s' ++ rest) fs l t = h (s' ++ rest) fs l in
      record {
        row = some t;
        item = u;
        joins = refl;
        goes = rw (e, append_assoc s s' rest, k.goes, g rest fs l k.row (some k.item), k.joins);
      }
  | whole_row {t = t} (b → h) ↦ λ rest fs.
      let k = h rest fs none in record { left = none; row = k.row; item = k.item; joins = k.joins; goes = k.goes }
  | whole-next s s' {t} {u} e (b → h) (d → g) ↦ λ rest fs.
      let k : WholeRun s (bar ∷ s' ++ rest) fs t = h (bar ∷ s' ++ rest) fs in
      let m : RowRun s' rest fs (some t) u = g rest fs (some t) in
      record {
        left = some t;
        row = m.row;
        item = m.item;
        joins = rw m.joins;
        goes = rw (e, append_assoc s (bar ∷ s') rest, k.goes, k.joins) m.goes;
      }
]

-- the decision finds the tree that the grammar gives
pub complete : {s : List ℕ} {t : Tree} → Whole s t → outcome s ≡ whole t
unfolding outcome
complete {s} {t} a =
    let h : WholeRun s [] [] t = whole_run a [] [] in
    rw append-nil at h.goes ∙ ap finished h.joins

-- which is the only one
pub one-tree : {s : List ℕ} {t u : Tree} → Whole s t → Whole s u → t ≡ u
one-tree a b = cc (complete a, complete b)
