-- The lines of an input are those that ended in its blocks, and the last one.
-- Assumes nothing.
use Prim.Native.Nat.{ℕ, suc, ◌≤◌}
use mathlib.Core.Path.{◌≡◌, refl, sym, ◌∙◌, ap}
use mathlib.Core.Bool.{Bool, true, false}
use mathlib.Core.List.{List, [], ◌∷◌, ◌++◌, append_assoc, append-nil}
use native.Mathlib.Omega.{arith}
use lib.Dec.{eqb}
use lib.ListN.{length}
use Rattle.lines.specs.Lines.{pick_lines, pick_line, on_first, lines_of, ended_lines, open_line, last_line}

-- a block after a block
pub ended-append : (u a b : List ℕ) → ended_lines u (a ++ b) ≡ ended_lines u a ++ ended_lines (open_line u a) b
ended-append u [] b = refl
ended-append u (c ∷ a) b = go (λ v. ended-append v a b) (eqb c 10)
  where
    go :
        ((v : List ℕ) → ended_lines v (a ++ b) ≡ ended_lines v a ++ ended_lines (open_line v a) b)
        → (x : Bool)
        → pick_lines x (u ∷ ended_lines [] (a ++ b)) (ended_lines (u ++ (c ∷ [])) (a ++ b))
        ≡ pick_lines x (u ∷ ended_lines [] a) (ended_lines (u ++ (c ∷ [])) a)
        ++ ended_lines (pick_line x (open_line [] a) (open_line (u ++ (c ∷ [])) a)) b
    go more true = ap (λ (ss : List (List ℕ)). u ∷ ss) (more [])
    go more false = more (u ++ (c ∷ []))

pub open-append : (u a b : List ℕ) → open_line u (a ++ b) ≡ open_line (open_line u a) b
open-append u [] b = refl
open-append u (c ∷ a) b = go (λ v. open-append v a b) (eqb c 10)
  where
    go :
        ((v : List ℕ) → open_line v (a ++ b) ≡ open_line (open_line v a) b)
        → (x : Bool)
        → pick_line x (open_line [] (a ++ b)) (open_line (u ++ (c ∷ [])) (a ++ b))
        ≡ open_line (pick_line x (open_line [] a) (open_line (u ++ (c ∷ [])) a)) b
    go more true = more []
    go more false = more (u ++ (c ∷ []))

-- each line that ends takes a byte
pub ended-few : (u s : List ℕ) → length (ended_lines u s) ≤ length s
ended-few u [] = omega arith
ended-few u (c ∷ s) = go (λ v. ended-few v s) (eqb c 10)
  where
    go :
        ((v : List ℕ) → length (ended_lines v s) ≤ length s)
        → (x : Bool)
        → length (pick_lines x (u ∷ ended_lines [] s) (ended_lines (u ++ (c ∷ [])) s)) ≤ suc (length s)
    go more true = omega (arith, more [])
    go more false = omega (arith, more (u ++ (c ∷ [])))

-- bytes in front of the first line
on_front : List ℕ → List (List ℕ) → List (List ℕ)
on_front u [] = last_line u
on_front u (s ∷ ss) = (u ++ s) ∷ ss

front-none : (ss : List (List ℕ)) → on_front [] ss ≡ ss
unfolding on_front
front-none [] = refl
front-none (s ∷ ss) = refl

last_more : (u : List ℕ) (c : ℕ) → last_line (u ++ (c ∷ [])) ≡ (u ++ (c ∷ [])) ∷ []
last_more [] c = refl
last_more (d ∷ u) c = refl

front-first : (u : List ℕ) (c : ℕ) (ss : List (List ℕ)) → on_front u (on_first c ss) ≡ on_front (u ++ (c ∷ [])) ss
unfolding on_front
front-first u c [] = sym (last_more u c)
front-first u c (s ∷ ss) = ap (λ (x : List ℕ). x ∷ ss) (sym (append_assoc u (c ∷ []) s))

front-lines : (u s : List ℕ) → on_front u (lines_of s) ≡ ended_lines u s ++ last_line (open_line u s)
unfolding on_front
front-lines u [] = refl
front-lines u (c ∷ s) = go (λ v. front-lines v s) (eqb c 10)
  where
    go :
        ((v : List ℕ) → on_front v (lines_of s) ≡ ended_lines v s ++ last_line (open_line v s))
        → (x : Bool)
        → on_front u (pick_lines x ([] ∷ lines_of s) (on_first c (lines_of s)))
        ≡ pick_lines x (u ∷ ended_lines [] s) (ended_lines (u ++ (c ∷ [])) s)
        ++ last_line (pick_line x (open_line [] s) (open_line (u ++ (c ∷ [])) s))
    go more true =
        ap (λ (x : List ℕ). x ∷ lines_of s) (append-nil u)
        ∙ ap (λ (ss : List (List ℕ)). u ∷ ss) (sym (front-none (lines_of s)) ∙ more [])
    go more false = front-first u c (lines_of s) ∙ more (u ++ (c ∷ []))

-- the lines of an input
pub lines_split : (s : List ℕ) → lines_of s ≡ ended_lines [] s ++ last_line (open_line [] s)
lines_split s = sym (front-none (lines_of s)) ∙ front-lines [] s
