-- The lines of an input, joined by byte 10, are the input again, but for a closing byte 10; no line has a byte 10, and no other lines without
-- one are those of an input.
-- Assumes nothing.
use Prim.Native.Nat.{ℕ, zero, suc}
use mathlib.Core.Path.{◌≡◌, refl, sym, ◌∙◌, ap}
use mathlib.Core.Bool.{Bool, true, false}
use mathlib.Core.List.{List, [], ◌∷◌, ◌++◌, append_assoc}
use mathlib.Core.Logic.{◌⊎◌, inl, inr}
use native.Mathlib.Omega.{arith}
use borrow.Author.Tests.{eqb-true, eqb-false}
use lib.Dec.{eqb}
use Rattle.lines.specs.Lines.{pick_lines, on_first, lines_of, join_lines, NoEnd, Plain}
use Rattle.lines.proofs.Nexts.{line-ended}

-- an input without a line is empty
pub none-empty : (s : List ℕ) → lines_of s ≡ [] → s ≡ []
none-empty [] e = refl
none-empty (c ∷ s) e = go (eqb c 10) (lines_of s) e
  where
    go : (b : Bool) (ss : List (List ℕ)) → pick_lines b ([] ∷ ss) (on_first c ss) ≡ [] → (c ∷ s) ≡ []
    go true ss f = let z : ◌≡◌ {A = ℕ} 0 1 = cc in absurd (omega arith)
    go false [] f = let z : ◌≡◌ {A = ℕ} 0 1 = cc in absurd (omega arith)
    go false (u ∷ ss) f = let z : ◌≡◌ {A = ℕ} 0 1 = cc in absurd (omega arith)

join_first : (c : ℕ) (u : List ℕ) (ss : List (List ℕ)) → join_lines ((c ∷ u) ∷ ss) ≡ c ∷ join_lines (u ∷ ss)
join_first c u [] = refl
join_first c u (w ∷ ss) = refl

-- an input is its joined lines, or has a byte 10 behind them
pub lines-joined : (s : List ℕ) → (s ≡ join_lines (lines_of s)) ⊎ (s ≡ join_lines (lines_of s) ++ (10 ∷ []))
lines-joined [] = inl refl
lines-joined (c ∷ s) = go (eqb c 10) refl (lines_of s) (none-empty s) (lines-joined s)
  where
    go :
        (b : Bool) → eqb c 10 ≡ b → (ss : List (List ℕ)) → (ss ≡ [] → s ≡ []) → (s ≡ join_lines ss) ⊎ (s ≡ join_lines ss ++ (10 ∷ []))
        → ((c ∷ s) ≡ join_lines (pick_lines b ([] ∷ ss) (on_first c ss)))
        ⊎ ((c ∷ s) ≡ join_lines (pick_lines b ([] ∷ ss) (on_first c ss)) ++ (10 ∷ []))
    go true f [] none more = let n : c ≡ 10 = eqb-true c 10 f in let e : s ≡ [] = none refl in inr cc
    go true f (u ∷ ss) none (inl e) = let n : c ≡ 10 = eqb-true c 10 f in inl cc
    go true f (u ∷ ss) none (inr e) = let n : c ≡ 10 = eqb-true c 10 f in inr cc
    go false f [] none more = inl (ap (λ (x : List ℕ). c ∷ x) (none refl))
    go false f (u ∷ ss) none (inl e) = inl (ap (λ (x : List ℕ). c ∷ x) e ∙ sym (join_first c u ss))
    go false f (u ∷ ss) none (inr e) =
        inr (ap (λ (x : List ℕ). c ∷ x) e ∙ ap (λ (x : List ℕ). x ++ (10 ∷ [])) (sym (join_first c u ss)))

none_first : (c : ℕ) (s : List ℕ) → (c ≡ 10 → ⊥) → NoEnd s → NoEnd (c ∷ s)
none_first c s n h zero l e = n e
none_first c s n h (suc i) l e = h i (omega arith) e

-- no line has a byte 10
pub lines-plain : (s : List ℕ) → Plain (lines_of s)
lines-plain [] = tt
lines-plain (c ∷ s) = go (eqb c 10) refl (lines_of s) (lines-plain s)
  where
    go : (b : Bool) → eqb c 10 ≡ b → (ss : List (List ℕ)) → Plain ss → Plain (pick_lines b ([] ∷ ss) (on_first c ss))
    go true f ss p = ((λ i l e. absurd (omega arith)), p)
    go false f [] p = (none_first c [] (eqb-false c 10 f) (λ i l e. absurd (omega arith)), tt)
    go false f (u ∷ ss) p = (none_first c u (eqb-false c 10 f) p.0, p.1)

-- so there is no other splitting: lines without a byte 10, each with one behind it, are the lines of what they make
pub lines-back : (u : List ℕ) (ss : List (List ℕ)) → Plain (u ∷ ss) → lines_of (join_lines (u ∷ ss) ++ (10 ∷ [])) ≡ u ∷ ss
lines-back u [] p = line-ended u [] p.0
lines-back u (w ∷ ss) p =
    ap lines_of (append_assoc u (10 ∷ join_lines (w ∷ ss)) (10 ∷ []))
    ∙ line-ended u (join_lines (w ∷ ss) ++ (10 ∷ [])) p.0
    ∙ ap (λ (x : List (List ℕ)). u ∷ x) (lines-back w ss p.1)
