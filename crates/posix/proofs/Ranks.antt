-- The executable comparison decides the precedence of two readings of one expression and one line (document 01, "Precedence of readings").
-- Assumes nothing.
use Prim.Native.Nat.{ℕ, suc, ◌<◌}
use mathlib.Core.Path.{◌≡◌, refl, sym, ◌∙◌, ap}
use mathlib.Core.Bool.{Bool, true, false}
use mathlib.Core.List.{List, [], ◌∷◌, ◌++◌, append_cancel_left}
use mathlib.Core.Logic.{◌↔◌, ◌⊎◌, inl, inr}
use native.Mathlib.Nat.{suc-le-suc_iff}
use native.Mathlib.Omega.{arith}
use lib.Dec.{ltb}
use lib.ListN.{length, length-append}
use borrow.Author.Tests.{lt-ltb, le-ltb}
use Rattle.posix.specs.Expressions.{Exp}
use Rattle.posix.specs.Values.{
  Val,
  left,
  right,
  pair,
  more,
  flat,
  Reads,
  reads_void,
  reads_byte,
  reads_left,
  reads_right,
  reads_pair,
  reads_none,
  reads_more,
}
use Rattle.posix.specs.Precedence.{Ahead, Once}
use Rattle.posix.specs.Ranking.{Verdict, same, first, second, sizes_below, sizes, choose, first_larger, rank, Ranked, is_same, is_first, is_second}
use Rattle.posix.proofs.Lists.{Split, shorter, equal, longer, split-cases, start-nil, length-pos}
use Rattle.posix.proofs.Paths.{ahead-irreflexive, ahead-asymmetric}
use Rattle.posix.proofs.Inside.{
  ahead-size,
  ahead-left,
  ahead-right,
  ahead-left-right,
  TwoParts,
  pair_parts,
  more_parts,
}

-- a larger head ranks first
larger-head : {x y : ℕ} (xs ys : List ℕ) → y < x → first_larger (x ∷ xs) (y ∷ ys) ≡ first
larger-head {x} {y} xs ys h = rw (lt-ltb y x h)

-- a smaller head ranks second
smaller-head : {x y : ℕ} (xs ys : List ℕ) → x < y → first_larger (x ∷ xs) (y ∷ ys) ≡ second
smaller-head {x} {y} xs ys h = rw (le-ltb y x (omega arith), lt-ltb x y h)

-- equal heads leave the rank to the rest
equal-head : {x y : ℕ} (xs ys : List ℕ) → x ≡ y → first_larger (x ∷ xs) (y ∷ ys) ≡ first_larger xs ys
equal-head {x} {y} xs ys e = rw (le-ltb y x (omega arith), le-ltb x y (omega arith))

-- values that spell one line leave the rank to the paths below their roots
equal-root : (v w : Val) → flat v ≡ flat w → rank v w ≡ first_larger (sizes_below v) (sizes_below w)
equal-root v w e = equal-head (sizes_below v) (sizes_below w) (ap suc (ap length e))

-- what stands behind a difference does not matter
decided :
    (c : Verdict) → ¬ (c ≡ same) → (xs xs' ys ys' : List ℕ) → first_larger xs xs' ≡ c → first_larger (xs ++ ys) (xs' ++ ys') ≡ c
decided c n [] xs' ys ys' e = absurd (n (sym e))
decided c n (x ∷ xs) [] ys ys' e = absurd (n (sym e))
decided c n (x ∷ xs) (x' ∷ xs') ys ys' e = heads (ltb x' x) (ltb x x') (decided c n xs xs' ys ys') e
  where
    heads :
        (a b : Bool) → (first_larger xs xs' ≡ c → first_larger (xs ++ ys) (xs' ++ ys') ≡ c)
        → choose a first (choose b second (first_larger xs xs')) ≡ c
        → choose a first (choose b second (first_larger (xs ++ ys) (xs' ++ ys'))) ≡ c
    heads true b ih e = e
    heads false true ih e = e
    heads false false ih e = ih e

-- an equal front leaves the rank to the rest
equal-front : (xs ys ys' : List ℕ) → first_larger (xs ++ ys) (xs ++ ys') ≡ first_larger ys ys'
equal-front [] ys ys' = refl
equal-front (x ∷ xs) ys ys' = equal-head {x = x} (xs ++ ys) (xs ++ ys') refl ∙ equal-front xs ys ys'

-- a verdict on parts is one on the wholes that rank as the parts do
ranked-map :
    {x y v w : Val} {c d : Verdict} → d ≡ c → (v ≡ w → x ≡ y) → (Ahead v w → Ahead x y) → (Ahead w v → Ahead y x)
    → Ranked v w c
    → Ranked x y d
ranked-map e f g h (is_same p) = rw e (is_same (f p))
ranked-map e f g h (is_first a) = rw e (is_first (g a))
ranked-map e f g h (is_second a) = rw e (is_second (h a))

-- of two first parts of one line, the longer ranks ahead
ranked-start :
    {v w : Val} (s t : List ℕ) → flat v ++ s ≡ flat w ++ t → (flat v ≡ flat w → Ranked v w (rank v w)) → Ranked v w (rank v w)
ranked-start {v} {w} s t e k = go (split-cases (flat v) s (flat w) t e)
  where
    go : Split (flat v) s (flat w) t → Ranked v w (rank v w)
    go (shorter h) = rw (larger-head (sizes_below v) (sizes_below w) (suc-le-suc_iff.1 h)) (is_first (ahead-size v w h))
    go (equal p q) = k (sym p)
    go (longer s3 n p q) =
        let h : length (flat v) < length (flat w) = omega (arith, length-pos s3 n, simp length-append at (ap length p)) in
        rw (smaller-head (sizes_below v) (sizes_below w) (suc-le-suc_iff.1 h)) (is_second (ahead-size w v h))

-- wholes rank as their first parts where these differ, and by what stands behind where they are the same
ranked-first :
    {x y v w : Val} (ys ys' : List ℕ) → (Ahead v w → Ahead x y) → (Ahead w v → Ahead y x) → (v ≡ w → Ranked x y (first_larger ys ys'))
    → Ranked v w (rank v w)
    → Ranked x y (first_larger (sizes v ++ ys) (sizes w ++ ys'))
ranked-first {x} {y} {v} {w} ys ys' f g k = go (rank v w) refl
  where
    first-not-same : ¬ (first ≡ same)
    first-not-same h = let z : ◌≡◌ {A = ℕ} 0 1 = cc in omega arith

    second-not-same : ¬ (second ≡ same)
    second-not-same h = let z : ◌≡◌ {A = ℕ} 0 1 = cc in omega arith

    go : (c : Verdict) → rank v w ≡ c → Ranked v w c → Ranked x y (first_larger (sizes v ++ ys) (sizes w ++ ys'))
    go c e (is_same p) =
        let d : first_larger (sizes v ++ ys) (sizes w ++ ys') ≡ first_larger ys ys' =
        ap (λ (u : Val). first_larger (sizes v ++ ys) (sizes u ++ ys')) (sym p) ∙ equal-front (sizes v) ys ys' in
        rw d (k p)
    go c e (is_first a) = rw (decided first first-not-same (sizes v) (sizes w) ys ys' e) (is_first (f a))
    go c e (is_second a) = rw (decided second second-not-same (sizes v) (sizes w) ys ys' e) (is_second (g a))

-- values of two parts that spell one line rank by the first parts, and by the second where the first are the same
ranked-parts :
    {f : Val → Val → Val} {v1 v2 w1 w2 : Val} (ys ys' : List ℕ) → TwoParts f → flat v1 ++ flat v2 ≡ flat w1 ++ flat w2
    → (flat v1 ≡ flat w1 → Ranked v1 w1 (rank v1 w1))
    → (flat v2 ≡ flat w2 → Ranked v2 w2 (first_larger ys ys'))
    → Ranked (f v1 v2) (f w1 w2) (first_larger (sizes v1 ++ ys) (sizes w1 ++ ys'))
ranked-parts {f} {v1} {v2} {w1} {w2} ys ys' t e k1 k2 =
    ranked-first ys ys' (t.by_first (ap length e)) (t.by_first (ap length (sym e))) behind (ranked-start (flat v2) (flat w2) e k1)
  where
    behind : v1 ≡ w1 → Ranked (f v1 v2) (f w1 w2) (first_larger ys ys')
    behind p =
        let d : flat v2 ≡ flat w2 = append_cancel_left (flat v1) (flat v2) (flat w2) (cc) in
        rw (← p) (ranked-map refl (ap (f v1)) (t.by_second (ap length d)) (t.by_second (ap length (sym d))) (k2 d))

-- the verdict of rank is right
pub rank-view : {r : Exp} {v w : Val} → Reads r v → Reads r w → flat v ≡ flat w → Ranked v w (rank v w)
rank-view reads_void reads_void e = is_same refl
rank-view (reads_byte {c = c} h) (reads_byte {c = d} k) e = let same_byte : c ≡ d = cc in is_same (cc)
rank-view (reads_left {v = v} a) (reads_left {v = w} b) e =
    ranked-map (equal-root (left v) (left w) e) (ap left) (ahead-left (ap length e)) (ahead-left (ap length (sym e))) (rank-view a b e)
rank-view (reads_left {v = v} a) (reads_right {v = w} b) e =
    let h : 0 < suc (length (flat v)) = omega arith in
    rw (equal-root (left v) (right w) e ∙ larger-head (sizes_below v) (sizes w) h) (is_first (ahead-left-right (ap length e)))
rank-view (reads_right {v = v} a) (reads_left {v = w} b) e =
    let h : 0 < suc (length (flat w)) = omega arith in
    rw (equal-root (right v) (left w) e ∙ smaller-head (sizes v) (sizes_below w) h) (is_second (ahead-left-right (ap length (sym e))))
rank-view (reads_right {v = v} a) (reads_right {v = w} b) e =
    ranked-map (equal-root (right v) (right w) e) (ap right) (ahead-right (ap length e)) (ahead-right (ap length (sym e))) (rank-view a b e)
rank-view (reads_pair {v = v1} {w = v2} a1 a2) (reads_pair {v = w1} {w = w2} b1 b2) e =
    rw (equal-root (pair v1 v2) (pair w1 w2) e)
    (ranked-parts (sizes v2) (sizes w2) pair_parts e (rank-view a1 b1) (rank-view a2 b2))
rank-view reads_none reads_none e = is_same refl
rank-view reads_none (reads_more {v = v} {w = w} b n bs) e = absurd (n (start-nil (flat v) (flat w) e))
rank-view (reads_more {v = v} {w = w} a n as') reads_none e = absurd (n (start-nil (flat v) (flat w) (sym e)))
rank-view (reads_more {v = v1} {w = v2} a1 n a2) (reads_more {v = w1} {w = w2} b1 m b2) e =
    rw (equal-root (more v1 v2) (more w1 w2) e)
    (ranked-parts (sizes_below v2) (sizes_below w2) more_parts e (rank-view a1 b1) (λ h. rw (equal-root v2 w2 h) at (rank-view a2 b2 h)))

-- two verdicts that are right are the same
verdict-unique : {v w : Val} {c d : Verdict} → Ranked v w c → Ranked v w d → c ≡ d
verdict-unique (is_same h) (is_same k) = refl
verdict-unique {v} (is_same h) (is_first a) = absurd (ahead-irreflexive v (rw (← h) at a))
verdict-unique {v} (is_same h) (is_second a) = absurd (ahead-irreflexive v (rw (← h) at a))
verdict-unique {v} (is_first a) (is_same h) = absurd (ahead-irreflexive v (rw (← h) at a))
verdict-unique (is_first a) (is_first b) = refl
verdict-unique (is_first a) (is_second b) = absurd (ahead-asymmetric a b)
verdict-unique {v} (is_second a) (is_same h) = absurd (ahead-irreflexive v (rw (← h) at a))
verdict-unique (is_second a) (is_first b) = absurd (ahead-asymmetric a b)
verdict-unique (is_second a) (is_second b) = refl

module _ {r : Exp} {v w : Val} (p : Reads r v) (q : Reads r w) (e : flat v ≡ flat w) where
  -- rank says first just where the first reading ranks ahead
  pub rank-first : (rank v w ≡ first) ↔ Ahead v w
  rank-first = (λ h. told (rw h at (rank-view p q e)), λ a. verdict-unique (rank-view p q e) (is_first a))
    where
      told : Ranked v w first → Ahead v w
      told (is_first a) = a

  -- rank says second just where the second reading ranks ahead
  pub rank-second : (rank v w ≡ second) ↔ Ahead w v
  rank-second = (λ h. told (rw h at (rank-view p q e)), λ a. verdict-unique (rank-view p q e) (is_second a))
    where
      told : Ranked v w second → Ahead w v
      told (is_second a) = a

  -- rank says same just where the readings are the same
  pub rank_same : (rank v w ≡ same) ↔ (v ≡ w)
  rank_same = (λ h. told (rw h at (rank-view p q e)), λ h. verdict-unique (rank-view p q e) (is_same h))
    where
      told : Ranked v w same → v ≡ w
      told (is_same h) = h

  -- two readings of one line are the same, or one of them alone ranks ahead
  pub ranked-once : Once v w
  ranked-once =
      record {
        one = told (rank-view p q e);
        same_not_first = λ h a. ahead-irreflexive v (rw (← h) at a);
        same_not_second = λ h a. ahead-irreflexive v (rw (← h) at a);
        first_not_second = ahead-asymmetric;
      }
    where
      told : {c : Verdict} → Ranked v w c → (v ≡ w) ⊎ Ahead v w ⊎ Ahead w v
      told (is_same h) = inl h
      told (is_first a) = inr (inl a)
      told (is_second a) = inr (inr a)
