-- The POSIX reading of a line ranks ahead of every other reading of it, and there is one only (document 01, "The relation" and "Precedence
-- of readings").
-- Assumes nothing.
use Prim.Native.Nat.{ℕ}
use mathlib.Core.Path.{◌≡◌, refl, sym, ◌∙◌, ap, ap₂}
use mathlib.Core.List.{List, ◌++◌}
use mathlib.Core.Logic.{◌⊎◌, inl, inr, ⊎_elim, ⊎_map}
use lib.ListN.{length}
use Rattle.posix.specs.Expressions.{Exp, star}
use Rattle.posix.specs.Values.{
  Val,
  left,
  right,
  flat,
  Reads,
  reads_void,
  reads_byte,
  reads_left,
  reads_right,
  reads_pair,
  reads_none,
  reads_more,
}
use Rattle.posix.specs.Language.{L}
use Rattle.posix.specs.Relation.{Longest, Posix, posix_void, posix_byte, posix_left, posix_right, posix-pair, posix_none, posix-more}
use Rattle.posix.specs.Precedence.{Ahead}
use Rattle.posix.proofs.Lists.{Split, shorter, equal, longer, split-cases, start-nil}
use Rattle.posix.proofs.Flats.{reads-spelled, posix-flat, posix-reads}
use Rattle.posix.proofs.Paths.{ahead-irreflexive, ahead-asymmetric}
use Rattle.posix.proofs.Inside.{ahead-size, ahead-left, ahead-right, ahead-left-right, TwoParts, pair_parts, more_parts}

-- the rules Seq and Star: the cut with the longest first part ranks ahead of one with a shorter first part, and between equal cuts the parts
-- decide
parts-ahead :
    {f : Val → Val → Val} {v1 v2 w1 w2 : Val} (A B : List ℕ → Type 0) (s1 s2 : List ℕ) → TwoParts f → Longest A B s1 s2
    → flat v1 ≡ s1
    → flat v2 ≡ s2
    → flat w1 ++ flat w2 ≡ s1 ++ s2
    → A (flat w1)
    → B (flat w2)
    → (flat w1 ≡ s1 → (w1 ≡ v1) ⊎ Ahead v1 w1)
    → (flat w2 ≡ s2 → (w2 ≡ v2) ⊎ Ahead v2 w2)
    → (f w1 w2 ≡ f v1 v2) ⊎ Ahead (f v1 v2) (f w1 w2)
parts-ahead {f} {v1} {v2} {w1} {w2} A B s1 s2 t l e1 e2 e a b k1 k2 = go (split-cases s1 s2 (flat w1) (flat w2) (sym e))
  where
    total : length (flat v1 ++ flat v2) ≡ length (flat w1 ++ flat w2)
    total = rw (e1, e2, e)

    seconds : w1 ≡ v1 → flat w2 ≡ s2 → (w2 ≡ v2) ⊎ Ahead v2 w2 → (f w1 w2 ≡ f v1 v2) ⊎ Ahead (f v1 v2) (f w1 w2)
    seconds h d (inl k) = inl (ap₂ f h k)
    seconds h d (inr c) = inr (rw h (t.by_second (ap length (e2 ∙ sym d)) c))

    firsts : flat w2 ≡ s2 → (w1 ≡ v1) ⊎ Ahead v1 w1 → (f w1 w2 ≡ f v1 v2) ⊎ Ahead (f v1 v2) (f w1 w2)
    firsts d (inl h) = seconds h d (k2 d)
    firsts d (inr c) = inr (t.by_first total c)

    go : Split s1 s2 (flat w1) (flat w2) → (f w1 w2 ≡ f v1 v2) ⊎ Ahead (f v1 v2) (f w1 w2)
    go (shorter h) = inr (t.by_first total (ahead-size v1 w1 (rw e1 h)))
    go (equal c d) = firsts d (k1 c)
    go (longer s3 n c d) = absurd (l s3 (flat w2) d n (rw c at a) b)

-- every reading of the line is the POSIX one or ranks behind it
pub posix-ahead : {s : List ℕ} {r : Exp} {v w : Val} → Posix s r v → Reads r w → flat w ≡ s → (w ≡ v) ⊎ Ahead v w
posix-ahead (posix_void e) reads_void d = inl refl
posix-ahead (posix_byte {c = c} h e) (reads_byte {c = b} k) d = let same_byte : b ≡ c = cc in inl (cc)
posix-ahead (posix_left p) (reads_left q) d =
    ⊎_map (ap left) (ahead-left (ap length (posix-flat p ∙ sym d))) (posix-ahead p q d)
posix-ahead (posix_left p) (reads_right q) d = inr (ahead-left-right (ap length (posix-flat p ∙ sym d)))
posix-ahead (posix_right p n) (reads_left q) d = absurd (n (rw d at (reads-spelled q)))
posix-ahead (posix_right p n) (reads_right q) d =
    ⊎_map (ap right) (ahead-right (ap length (posix-flat p ∙ sym d))) (posix-ahead p q d)
posix-ahead (posix-pair s1 s2 {r1} {r2} e p1 p2 l) (reads_pair q1 q2) d =
    parts-ahead (L r1) (L r2) s1 s2 pair_parts l (posix-flat p1) (posix-flat p2) (d ∙ e) (reads-spelled q1) (reads-spelled q2)
    (posix-ahead p1 q1)
    (posix-ahead p2 q2)
posix-ahead (posix_none e) reads_none d = inl refl
posix-ahead (posix_none e) (reads_more {v} {w} q n qs) d = absurd (n (start-nil (flat v) (flat w) (sym (d ∙ e))))
posix-ahead (posix-more s1 s2 e n p1 p2 l) reads_none d = absurd (n (start-nil s1 s2 (d ∙ e)))
posix-ahead (posix-more s1 s2 {r} e n p1 p2 l) (reads_more q1 m q2) d =
    parts-ahead (L r) (L (star r)) s1 s2 more_parts l (posix-flat p1) (posix-flat p2) (d ∙ e) (reads-spelled q1) (reads-spelled q2)
    (posix-ahead p1 q1)
    (posix-ahead p2 q2)

-- a line has at most one POSIX reading
pub posix-unique : {s : List ℕ} {r : Exp} {v w : Val} → Posix s r v → Posix s r w → v ≡ w
posix-unique p q =
    ⊎_elim sym (λ a. ⊎_elim (λ h. h) (λ b. absurd (ahead-asymmetric a b)) (posix-ahead q (posix-reads p) (posix-flat p)))
    (posix-ahead p (posix-reads q) (posix-flat q))

-- the POSIX reading ranks ahead of every other reading of the line
pub posix-best :
    {s : List ℕ} {r : Exp} {v w : Val} → Posix s r v → Reads r w → flat w ≡ s → ¬ (w ≡ v) → Ahead v w
posix-best p q e n = ⊎_elim (λ h. absurd (n h)) (λ a. a) (posix-ahead p q e)

-- no reading of the line ranks ahead of the POSIX one
pub posix-unbeaten : {s : List ℕ} {r : Exp} {v w : Val} → Posix s r v → Reads r w → flat w ≡ s → ¬ (Ahead w v)
posix-unbeaten {v = v} p q e b =
    ⊎_elim (λ h. ahead-irreflexive v (rw h at b)) (λ a. ahead-asymmetric a b) (posix-ahead p q e)
