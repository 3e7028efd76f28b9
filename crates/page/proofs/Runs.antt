-- The runs of a page's lines: comparing neighbours or comparing with the first line of a run gives the same runs, which are the page's lines one after the
-- other; and the class bytes, line by line.
-- Assumes nothing.
use Prim.Native.Nat.{ℕ, suc, ◌≤◌}
use native.Mathlib.Omega.{arith}
use mathlib.Core.Path.{◌≡◌, refl, sym, ◌∙◌, ap}
use mathlib.Core.Bool.{Bool, true, false, cond, not}
use mathlib.Core.List.{List, [], ◌∷◌, ◌++◌, append_assoc, map, flat_map}
use lib.Dec.{eqb-suc-zero}
use lib.ListN.{length, length-map}
use Rattle.tokens.specs.Tokens.{cons_if}
use Rattle.page.specs.Entries.{Entry, alike, class_of}
use Rattle.page.specs.Runs.{Run, members, alone, in_front, behind, on_runs, runs, runs_from, runs_by_first, class_bytes}
use Rattle.page.specs.Steps.{classes_from}
use Rattle.page.proofs.Likeness.{alike_same}

-- the first of the runs, with a line in front, begins with that line
record Opened (e : Entry) (rs : List Run) : Type 0 where
  pub run : Run
  pub later : List Run
  pub opens : run.first ≡ e
  pub split : rs ≡ run ∷ later

on-opened : (e : Entry) (qs : List Run) → Opened e (on_runs e qs)
on-opened e [] = record { run = alone e; later = []; opens = refl; split = refl }
on-opened e (q ∷ qs) = go (alike e q.first)
  where
    go : (b : Bool) → Opened e (cond b (in_front e q ∷ qs) (alone e ∷ (q ∷ qs)))
    go true = record { run = in_front e q; later = qs; opens = refl; split = refl }
    go false = record { run = alone e; later = q ∷ qs; opens = refl; split = refl }

-- a run in front of a run, and in front of the runs of the lines behind it
joined : Run → Run → Run
joined r q = record { first = r.first; others = r.others ++ members q }

before : Run → List Run → List Run
before r [] = r ∷ []
before r (q ∷ qs) = cond (alike r.first q.first) (joined r q ∷ qs) (r ∷ (q ∷ qs))

before-alone : (e : Entry) (qs : List Run) → before (alone e) qs ≡ on_runs e qs
unfolding before joined
before-alone e [] = refl
before-alone e (q ∷ qs) = refl

-- not alike to the next line: a run of its own
before-other : (r : Run) (e : Entry) (qs : List Run) → alike r.first e ≡ false → before r (on_runs e qs) ≡ r ∷ on_runs e qs
unfolding before
before-other r e qs f =
    let o : Opened e (on_runs e qs) = on-opened e qs in
    rw (o.split, o.opens, f)

-- alike to it: one line longer
before-alike : (r : Run) (e : Entry) (qs : List Run) → alike r.first e ≡ true → before (behind r e) qs ≡ before r (on_runs e qs)
unfolding before joined
before-alike r e [] f = rw f
before-alike r e (q ∷ qs) f = rw (alike_same r.first e q.first f) (go (alike e q.first))
  where
    go :
        (b : Bool)
        → cond b (joined (behind r e) q ∷ qs) (behind r e ∷ (q ∷ qs)) ≡ before r (cond b (in_front e q ∷ qs) (alone e ∷ (q ∷ qs)))
    go true = rw (f, append_assoc)
    go false = rw f

from-before : (r : Run) (es : List Entry) → runs_from r es ≡ before r (runs es)
unfolding before
from-before r [] = refl
from-before r (e ∷ es) = go (alike r.first e) refl (from-before (behind r e) es) (from-before (alone e) es)
  where
    go :
        (b : Bool) → alike r.first e ≡ b
        → runs_from (behind r e) es ≡ before (behind r e) (runs es)
        → runs_from (alone e) es ≡ before (alone e) (runs es)
        → cond b (runs_from (behind r e) es) (r ∷ runs_from (alone e) es) ≡ before r (on_runs e (runs es))
    go true f more other = more ∙ before-alike r e (runs es) f
    go false f more other =
        ap (λ (rs : List Run). r ∷ rs) (other ∙ before-alone e (runs es)) ∙ sym (before-other r e (runs es) f)

pub same_runs : (es : List Entry) → runs es ≡ runs_by_first es
same_runs [] = refl
same_runs (e ∷ es) = sym (from-before (alone e) es ∙ before-alone e (runs es))

-- the lines of the runs, one after the other, are the lines
on-whole : (e : Entry) (qs : List Run) → flat_map members (on_runs e qs) ≡ e ∷ flat_map members qs
unfolding flat_map
on-whole e [] = refl
on-whole e (q ∷ qs) = go (alike e q.first)
  where
    go :
        (b : Bool)
        → flat_map members (cond b (in_front e q ∷ qs) (alone e ∷ (q ∷ qs)))
        ≡ e ∷ flat_map members (q ∷ qs)
    go true = refl
    go false = refl

pub runs-whole : (es : List Entry) → flat_map members (runs es) ≡ es
unfolding flat_map
runs-whole [] = refl
runs-whole (e ∷ es) = on-whole e (runs es) ∙ ap (λ (x : List Entry). e ∷ x) (runs-whole es)

-- the classes of runs
abbrev classes : List Run → List ℕ
classes rs = map (λ (r : Run). class_of r.first) rs

-- the class bytes with one line more in front: its class, then that of the line behind it only where the two are not alike
class-on :
    (e a : Entry) (qs : List Run) (cs : List ℕ) → classes (on_runs e qs) ≡ class_of e ∷ cs
    → classes (on_runs a (on_runs e qs)) ≡ class_of a ∷ cons_if (not (alike a e)) (class_of e) cs
class-on e a qs cs f =
    let o : Opened e (on_runs e qs) = on-opened e qs in
    let g : classes (o.run ∷ o.later) ≡ class_of e ∷ cs = rw o.split at f in
    let h : classes o.later ≡ cs = cc in
    rw o.split (go o.run o.later o.opens h (alike a e) refl)
  where
    go :
        (q : Run) (rs : List Run) → q.first ≡ e → classes rs ≡ cs → (b : Bool) → alike a e ≡ b
        → classes (on_runs a (q ∷ rs)) ≡ class_of a ∷ cons_if (not (alike a e)) (class_of e) cs
    go q rs o h true f = let g : alike a q.first ≡ true = ap (alike a) o ∙ f in rw (g, f, h)
    go q rs o h false f = let g : alike a q.first ≡ false = ap (alike a) o ∙ f in rw (g, f, h, o)

pub classes-behind : (i : ℕ) (a : Entry) (es : List Entry) → class_bytes (a ∷ es) ≡ class_of a ∷ classes_from (suc i) a es
classes-behind i a [] = refl
classes-behind i a (e ∷ es) = rw (eqb-suc-zero i) (class-on e a (runs es) (classes_from (suc (suc i)) e es) (classes-behind (suc i) e es))

pub classes-from : (a : Entry) (es : List Entry) → classes_from 0 a es ≡ class_bytes es
classes-from a [] = refl
classes-from a (e ∷ es) = sym (classes-behind 0 e es)

-- no more runs than lines
on-few : (e : Entry) (qs : List Run) → length (on_runs e qs) ≤ suc (length qs)
on-few e [] = omega arith
on-few e (q ∷ qs) = go (alike e q.first)
  where
    go : (b : Bool) → length (cond b (in_front e q ∷ qs) (alone e ∷ (q ∷ qs))) ≤ suc (length (q ∷ qs))
    go true = omega arith
    go false = omega arith

runs-few : (es : List Entry) → length (runs es) ≤ length es
runs-few [] = omega arith
runs-few (e ∷ es) = omega (arith, on-few e (runs es), runs-few es)

pub classes-few : (es : List Entry) → length (class_bytes es) ≤ length es
classes-few es = omega (arith, length-map (runs es) (λ (r : Run). class_of r.first), runs-few es)
