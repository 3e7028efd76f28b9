-- The POSIX reading of a line by an exchanged table: that by the first one with Left and Right exchanged at the records whose fields are. It spells the
-- same line in as many records, and its tagged parts are the same.
-- Assumes nothing.
use Prim.Native.Nat.{ℕ, suc, ◌+◌, ◌≤◌, ◌<◌}
use native.Mathlib.Omega.{arith}
use mathlib.Core.Path.{◌≡◌, refl, sym, ◌∙◌, ap, ap₂, subst}
use mathlib.Core.Bool.{Bool, true, false, cond}
use mathlib.Core.List.{List, ◌++◌}
use lib.ListN.{length, length-append}
use Rattle.posix.specs.Expressions.{Exp}
use Rattle.posix.specs.Values.{Val, void, byte, left, right, pair, none, more, flat, records, Reads, reads_void, reads_byte, reads_left, reads_right, reads_pair, reads_none, reads_more}
use Rattle.posix.specs.Language.{L}
use Rattle.posix.specs.Relation.{Posix, posix_void, posix_byte, posix_left, posix_right, posix-pair, posix_none, posix-more}
use Rattle.posix.proofs.Flats.{posix-spelled}
use Rattle.posix.proofs.Languages.{iterated-map}
use Rattle.table.specs.Records.{count, a_at, b_at}
use Rattle.table.specs.Faults.{Passes}
use Rattle.table.specs.Expression.{exp_of}
use Rattle.tokens.specs.Tokens.{placed_below, placed_parts, filter, has_size, tokens_from}
use Rattle.reorder.specs.Exchanges.{Apart}
use Rattle.reorder.proofs.Exchanging.{Exchanged}
use Rattle.reorder.proofs.Checking.{same-a, same-b, crossed-a, crossed-b}
use Rattle.reorder.proofs.Languages.{Twin, twin_empty, twin_letter, twin-or, twin-crossed, twin-seq, twin_star, twin-at, lines-at, twin, same_lines}

-- a value of record j, with Left and Right exchanged at the records at which x is true
abbrev pub moved : (ℕ → Bool) → List ℕ → ℕ → Val → Val
moved x t j void = void
moved x t j (byte c) = byte c
moved x t j (left v) = cond (x j) (right (moved x t (a_at t j) v)) (left (moved x t (a_at t j) v))
moved x t j (right v) = cond (x j) (left (moved x t (b_at t j) v)) (right (moved x t (b_at t j) v))
moved x t j (pair v w) = pair (moved x t (a_at t j) v) (moved x t (b_at t j) w)
moved x t j none = none
moved x t j (more v w) = more (moved x t (a_at t j) v) (moved x t j w)

-- a Left or a Right
flat-either : (y : Bool) (v : Val) → (flat (cond y (right v) (left v)) ≡ flat v) × (flat (cond y (left v) (right v)) ≡ flat v)
flat-either true v = (refl, refl)
flat-either false v = (refl, refl)

records-either : (y : Bool) (v : Val) → (records (cond y (right v) (left v)) ≡ suc (records v)) × (records (cond y (left v) (right v)) ≡ suc (records v))
records-either true v = (refl, refl)
records-either false v = (refl, refl)

module _ (x : ℕ → Bool) (t : List ℕ) where
  -- it spells the same line
  pub moved-flat : (j : ℕ) (v : Val) → flat (moved x t j v) ≡ flat v
  moved-flat j void = refl
  moved-flat j (byte c) = refl
  moved-flat j (left v) = (flat-either (x j) (moved x t (a_at t j) v)).0 ∙ moved-flat (a_at t j) v
  moved-flat j (right v) = (flat-either (x j) (moved x t (b_at t j) v)).1 ∙ moved-flat (b_at t j) v
  moved-flat j (pair v w) = ap₂ ◌++◌ (moved-flat (a_at t j) v) (moved-flat (b_at t j) w)
  moved-flat j none = refl
  moved-flat j (more v w) = ap₂ ◌++◌ (moved-flat (a_at t j) v) (moved-flat j w)

  -- in as many records
  pub moved-records : (j : ℕ) (v : Val) → records (moved x t j v) ≡ records v
  moved-records j void = refl
  moved-records j (byte c) = refl
  moved-records j (left v) = (records-either (x j) (moved x t (a_at t j) v)).0 ∙ ap suc (moved-records (a_at t j) v)
  moved-records j (right v) = (records-either (x j) (moved x t (b_at t j) v)).1 ∙ ap suc (moved-records (b_at t j) v)
  moved-records j (pair v w) = ap suc (ap₂ ◌+◌ (moved-records (a_at t j) v) (moved-records (b_at t j) w))
  moved-records j none = refl
  moved-records j (more v w) = ap₂ ◌+◌ (moved-records (a_at t j) v) (moved-records j w)

-- alternatives that share no line, by their expressions
apart-at :
    {t : List ℕ} {j : ℕ} {r1 r2 : Exp} → Apart t j → exp_of t (a_at t j) ≡ r1 → exp_of t (b_at t j) ≡ r2
    → (s : List ℕ) → length s ≤ 255 → L r1 s → L r2 s → ⊥
apart-at apart ta tb s h y z =
    apart.share_none s h (subst (λ (r : Exp). L r s) (sym ta) y) (subst (λ (r : Exp). L r s) (sym tb) z)

module _ {x : ℕ → Bool} {t u : List ℕ} (e : Exchanged x t u) (p : Passes t) where
  -- the alternatives share no line wherever fields are exchanged, up to record k
  module _ (k : ℕ) (apart : (j : ℕ) → j ≤ k → x j ≡ true → Apart t j) (inside : k < count t) where
    posix-twin :
        (j : ℕ) → j ≤ k → {s : List ℕ} {r r' : Exp} {v : Val} → Posix s r v → length s ≤ 255 → Twin x t u j r r' → Posix s r' (moved x t j v)
    posix-twin j l (posix_void d) h twin_empty = posix_void d
    posix-twin j l (posix_byte c d) h (twin_letter b) = posix_byte c d
    posix-twin j l (posix_left q) h (twin-or g la lb ta tb ua ub) =
        let m : a_at t j < count t = omega arith in
        rw g (posix_left (posix-twin (a_at t j) (omega arith) q h (twin-at ta ua (twin e p (a_at t j) m))))
    posix-twin j l {s} (posix_left q) h (twin-crossed g la lb ta tb ua ub) =
        let m : a_at t j < count t = omega arith in
        let n : b_at t j < count t = omega arith in
        rw g
        (posix_right (posix-twin (a_at t j) (omega arith) q h (twin-at ta ua (twin e p (a_at t j) m)))
        (λ z. apart-at (apart j l g) ta tb s h (posix-spelled q) ((lines-at tb ub (same_lines e p (b_at t j) n) s).1 z)))
    posix-twin j l {s} (posix_right q other) h (twin-or g la lb ta tb ua ub) =
        let m : a_at t j < count t = omega arith in
        let n : b_at t j < count t = omega arith in
        rw g
        (posix_right (posix-twin (b_at t j) (omega arith) q h (twin-at tb ub (twin e p (b_at t j) n))) (λ z. other ((lines-at ta ua (same_lines e p (a_at t j) m) s).1 z)))
    posix-twin j l (posix_right q other) h (twin-crossed g la lb ta tb ua ub) =
        let n : b_at t j < count t = omega arith in
        rw g (posix_left (posix-twin (b_at t j) (omega arith) q h (twin-at tb ub (twin e p (b_at t j) n))))
    posix-twin j l (posix-pair s1 s2 d q q' long) h (twin-seq g la lb ta tb ua ub) =
        let m : a_at t j < count t = omega arith in
        let n : b_at t j < count t = omega arith in
        let size = ap length d ∙ length-append s1 s2 in
        posix-pair s1 s2 d
        (posix-twin (a_at t j) (omega arith) q (omega (arith, size)) (twin-at ta ua (twin e p (a_at t j) m)))
        (posix-twin (b_at t j) (omega arith) q' (omega (arith, size)) (twin-at tb ub (twin e p (b_at t j) n)))
        (λ s3 s4 d' some y z. long s3 s4 d' some ((lines-at ta ua (same_lines e p (a_at t j) m) (s1 ++ s3)).1 y) ((lines-at tb ub (same_lines e p (b_at t j) n) s4).1 z))
    posix-twin j l (posix_none d) h (twin_star g la ta ua) = posix_none d
    posix-twin j l (posix-more s1 s2 d some q q' long) h (twin_star g la ta ua) =
        let m : a_at t j < count t = omega arith in
        let size = ap length d ∙ length-append s1 s2 in
        posix-more s1 s2 d some
        (posix-twin (a_at t j) (omega arith) q (omega (arith, size)) (twin-at ta ua (twin e p (a_at t j) m)))
        (posix-twin j l q' (omega (arith, size)) (twin_star g la ta ua))
        (λ s3 s4 d' n y z.
        long s3 s4 d' n ((lines-at ta ua (same_lines e p (a_at t j) m) (s1 ++ s3)).1 y) (iterated-map (λ v. (lines-at ta ua (same_lines e p (a_at t j) m) v).1) z))

    -- the reading of the line
    pub posix-moved : {s : List ℕ} {v : Val} → Posix s (exp_of t k) v → length s ≤ 255 → Posix s (exp_of u k) (moved x t k v)
    posix-moved q h = posix-twin k (omega arith) q h (twin e p k inside)

  -- its tagged parts, by those below its record
  placed-from :
      (j : ℕ) → j < count t → (v : Val) (at : ℕ) → (Twin x t u j (exp_of t j) (exp_of u j) → placed_below u j (moved x t j v) at ≡ placed_below t j v at)
      → placed_parts u j (moved x t j v) at ≡ placed_parts t j v at
  placed-from j l v at f = rw (e.tag j, moved-flat x t j v, f (twin e p j l))

  placed-twin :
      (j : ℕ) → j < count t → {r r' : Exp} {v : Val} → Reads r v → (at : ℕ) → Twin x t u j r r'
      → placed_below u j (moved x t j v) at ≡ placed_below t j v at
  placed-twin j l reads_void at w = refl
  placed-twin j l (reads_byte h) at w = refl
  placed-twin j l (reads_left {v = v} q) at (twin-or g la lb ta tb ua ub) =
      let m : a_at t j < count t = omega arith in
      rw (g, same-a e j g) (placed-from (a_at t j) m v at (λ w. placed-twin (a_at t j) m q at (twin-at ta ua w)))
  placed-twin j l (reads_left {v = v} q) at (twin-crossed g la lb ta tb ua ub) =
      let m : a_at t j < count t = omega arith in
      rw (g, crossed-b e j g) (placed-from (a_at t j) m v at (λ w. placed-twin (a_at t j) m q at (twin-at ta ua w)))
  placed-twin j l (reads_right {v = v} q) at (twin-or g la lb ta tb ua ub) =
      let n : b_at t j < count t = omega arith in
      rw (g, same-b e j g) (placed-from (b_at t j) n v at (λ w. placed-twin (b_at t j) n q at (twin-at tb ub w)))
  placed-twin j l (reads_right {v = v} q) at (twin-crossed g la lb ta tb ua ub) =
      let n : b_at t j < count t = omega arith in
      rw (g, crossed-a e j g) (placed-from (b_at t j) n v at (λ w. placed-twin (b_at t j) n q at (twin-at tb ub w)))
  placed-twin j l (reads_pair {v = v} {w = w} q q') at (twin-seq g la lb ta tb ua ub) =
      let m : a_at t j < count t = omega arith in
      let n : b_at t j < count t = omega arith in
      let next : ℕ = at + length (flat v) in
      rw (same-a e j g, same-b e j g)
      (ap₂ ◌++◌ (placed-from (a_at t j) m v at (λ w. placed-twin (a_at t j) m q at (twin-at ta ua w)))
      (rw (moved-flat x t (a_at t j) v) (placed-from (b_at t j) n w next (λ w. placed-twin (b_at t j) n q' next (twin-at tb ub w)))))
  placed-twin j l reads_none at w = refl
  placed-twin j l (reads_more {v = v} {w = w} q h q') at (twin_star g la ta ua) =
      let m : a_at t j < count t = omega arith in
      let next : ℕ = at + length (flat v) in
      rw (same-a e j g)
      (ap₂ ◌++◌ (placed-from (a_at t j) m v at (λ w. placed-twin (a_at t j) m q at (twin-at ta ua w)))
      (rw (moved-flat x t (a_at t j) v) (placed-twin j l q' next (twin_star g la ta ua))))

  pub moved-tokens : (j : ℕ) → j < count t → {v : Val} → Reads (exp_of t j) v → (at : ℕ) → tokens_from u j (moved x t j v) at ≡ tokens_from t j v at
  moved-tokens j l {v} q at = ap (filter has_size) (placed-from j l v at (placed-twin j l q at))
