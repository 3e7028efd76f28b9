-- The comparison of two readings of one expression goes by their parts, whatever lines they spell: the sizes of a reading show where it
-- ends, so that a list of sizes behind them does not matter where they differ (document 01, "Precedence of readings").
-- Assumes nothing.
use Prim.Native.Nat.{ℕ, suc, ◌<◌}
use mathlib.Core.Path.{◌≡◌, refl, sym}
use mathlib.Core.Bool.{Bool, true, false}
use mathlib.Core.List.{List, [], ◌∷◌, ◌++◌, append_assoc}
use native.Mathlib.Omega.{arith}
use lib.Dec.{ltb, leb-suc-suc}
use lib.ListN.{length}
use borrow.Author.Tests.{lt-ltb, le-ltb}
use Rattle.posix.specs.Expressions.{Exp}
use Rattle.posix.specs.Values.{
  Val,
  left,
  right,
  pair,
  none,
  more,
  flat,
  Reads,
  reads_void,
  reads_byte,
  reads_left,
  reads_right,
  reads_pair,
  reads_none,
  reads_more,
}
use Rattle.posix.specs.Ranking.{Verdict, same, first, second, sizes_below, sizes, choose, first_larger, rank}
use Rattle.posix.specs.RankingParts.{by_size, then_by, rank_below}

-- the first verdict that is not same, of three
then-assoc : (a b c : Verdict) → then_by (then_by a b) c ≡ then_by a (then_by b c)
then-assoc same b c = refl
then-assoc first b c = refl
then-assoc second b c = refl

then_same : (a : Verdict) → then_by a same ≡ a
then_same same = refl
then_same first = refl
then_same second = refl

-- two lists of sizes that are compared before what stands behind them
Code : List ℕ → List ℕ → Type 0
Code xs ys = (us vs : List ℕ) → first_larger (xs ++ us) (ys ++ vs) ≡ then_by (first_larger xs ys) (first_larger us vs)

code-nil : Code [] []
unfolding Code
code-nil us vs = refl

-- one more size in front
code-cons : (x y : ℕ) (xs ys : List ℕ) → Code xs ys → Code (x ∷ xs) (y ∷ ys)
unfolding Code
code-cons x y xs ys c us vs = go (ltb y x) (ltb x y)
  where
    go :
        (a b : Bool) → choose a first (choose b second (first_larger (xs ++ us) (ys ++ vs)))
        ≡ then_by (choose a first (choose b second (first_larger xs ys))) (first_larger us vs)
    go true b = refl
    go false true = refl
    go false false = c us vs

-- sizes that differ in front
code-first : (x y : ℕ) (xs ys : List ℕ) → y < x → Code (x ∷ xs) (y ∷ ys)
unfolding Code
code-first x y xs ys h us vs = rw (lt-ltb y x h)

code-second : (x y : ℕ) (xs ys : List ℕ) → x < y → Code (x ∷ xs) (y ∷ ys)
unfolding Code
code-second x y xs ys h us vs = rw (le-ltb y x (omega arith), lt-ltb x y h)

-- one code behind the other
code-append : (xs ys xs' ys' : List ℕ) → Code xs ys → Code xs' ys' → Code (xs ++ xs') (ys ++ ys')
unfolding Code
code-append xs ys xs' ys' c d us vs =
    rw (append_assoc xs xs' us, append_assoc ys ys' vs, c (xs' ++ us) (ys' ++ vs), d us vs, c xs' ys')
    (sym (then-assoc (first_larger xs ys) (first_larger xs' ys') (first_larger us vs)))

-- the sizes of two readings are compared before what stands behind them
code-sizes : (v w : Val) → Code (sizes_below v) (sizes_below w) → Code (sizes v) (sizes w)
code-sizes v w = code-cons (suc (length (flat v))) (suc (length (flat w))) (sizes_below v) (sizes_below w)

code_below : {r : Exp} {v w : Val} → Reads r v → Reads r w → Code (sizes_below v) (sizes_below w)
code_below reads_void reads_void = code-nil
code_below (reads_byte h) (reads_byte k) = code-nil
code_below (reads_left {v = v} p) (reads_left {v = w} q) = code-sizes v w (code_below p q)
code_below (reads_left {v = v} p) (reads_right {v = w} q) =
    code-first (suc (length (flat v))) 0 (sizes_below v) (sizes w) (omega arith)
code_below (reads_right {v = v} p) (reads_left {v = w} q) =
    code-second 0 (suc (length (flat w))) (sizes v) (sizes_below w) (omega arith)
code_below (reads_right {v = v} p) (reads_right {v = w} q) =
    code-cons 0 0 (sizes v) (sizes w) (code-sizes v w (code_below p q))
code_below (reads_pair {v = v} {w = v'} p p') (reads_pair {v = w} {w = w'} q q') =
    code-append (sizes v) (sizes w) (sizes v') (sizes w') (code-sizes v w (code_below p q)) (code-sizes v' w' (code_below p' q'))
code_below reads_none reads_none = code-cons 0 0 [] [] code-nil
code_below reads_none (reads_more {v = w} {w = w'} q n q') =
    code-second 0 (suc (length (flat w))) [] (sizes_below w ++ sizes_below w') (omega arith)
code_below (reads_more {v = v} {w = v'} p n p') reads_none =
    code-first (suc (length (flat v))) 0 (sizes_below v ++ sizes_below v') [] (omega arith)
code_below (reads_more {v = v} {w = v'} p n p') (reads_more {v = w} {w = w'} q m q') =
    code-append (sizes v) (sizes w) (sizes_below v') (sizes_below w') (code-sizes v w (code_below p q)) (code_below p' q')

-- the lengths decide first, then the parts
pub rank-size : (v w : Val) → rank v w ≡ by_size (length (flat v)) (length (flat w)) (rank_below v w)
rank-size v w = rw (leb-suc-suc (suc (length (flat w))) (length (flat v)), leb-suc-suc (suc (length (flat v))) (length (flat w)))

-- Left is below Left and Right below Right as what they hold
pub below_left : (v w : Val) → rank_below (left v) (left w) ≡ rank v w
below_left v w = refl

pub below_right : (v w : Val) → rank_below (right v) (right w) ≡ rank v w
below_right v w = refl

-- Left against Right
pub below-left-right : (v w : Val) → rank_below (left v) (right w) ≡ first
below-left-right v w = rw (lt-ltb 0 (suc (length (flat v))) (omega arith))

pub below-right-left : (v w : Val) → rank_below (right v) (left w) ≡ second
below-right-left v w =
    rw (le-ltb (suc (length (flat w))) 0 (omega arith), lt-ltb 0 (suc (length (flat w))) (omega arith))

-- Seq goes by its first part, then by its second
pub below-pair :
    {r1 r2 : Exp} {v1 v2 w1 w2 : Val} → Reads r1 v1 → Reads r1 w1 → Reads r2 v2 → Reads r2 w2
    → rank_below (pair v1 v2) (pair w1 w2) ≡ then_by (rank v1 w1) (rank v2 w2)
unfolding Code
below-pair {v1 = v1} {v2 = v2} {w1 = w1} {w2 = w2} p q p' q' = code-sizes v1 w1 (code_below p q) (sizes v2) (sizes w2)

-- Stars goes by its first iteration, then by the later ones
pub below_more :
    {r : Exp} {v w : Val} (v' w' : Val) → Reads r v → Reads r w → rank_below (more v v') (more w w') ≡ then_by (rank v w) (rank_below v' w')
unfolding Code
below_more {v = v} {w = w} v' w' p q = code-sizes v w (code_below p q) (sizes_below v') (sizes_below w')

-- Stars with an iteration against Stars with none
pub below-more-none : (v w : Val) → rank_below (more v w) none ≡ first
below-more-none v w = rw (lt-ltb 0 (suc (length (flat v))) (omega arith))

pub below-none-more : (v w : Val) → rank_below none (more v w) ≡ second
below-none-more v w =
    rw (le-ltb (suc (length (flat v))) 0 (omega arith), lt-ltb 0 (suc (length (flat v))) (omega arith))
