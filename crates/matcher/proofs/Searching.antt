-- The search for the longest first part, downward from the longest one that the area tells.
-- Assumes nothing.
use Prim.Native.Nat.{ℕ, ◌-◌, min, ◌≤◌, ◌<◌}
use native.Mathlib.Nat.{eq-or-lt_of_le}
use native.Mathlib.Omega.{arith}
use mathlib.Core.Path.{◌≡◌, refl, sym, ◌∙◌, subst}
use mathlib.Core.Bool.{Bool, true, false, true≢false}
use mathlib.Core.List.{List}
use mathlib.Core.Logic.{⊎_elim}
use Rattle.rows.specs.Layout.{longest_at, tells}
use Rattle.rows.specs.Rows.{Inside}
use Rattle.rows.proofs.Cuts.{below_or}
use Rattle.rows.proofs.Growing.{told-above}
use Rattle.matcher.specs.Walks.{ToldCut, Searched, LongestCut}
use Rattle.rows.proofs.Places.{row-held}

-- no cut is above c, and c is none below the lowest
pub record Searching (m : ℕ) (w : List ℕ) (a b d e lowest c : ℕ) : Type 0 where
  pub above : lowest ≤ c
  pub inside : c ≤ e
  pub none_larger : (f : ℕ) → c < f → f ≤ e → tells m w a d f ≡ true → tells m w b (d - f) (e - f) ≡ true → ⊥

module _ {m : ℕ} {w : List ℕ} {a b d e lowest : ℕ} (h : Searched m a b d e lowest w) where
  pub search-first : Inside m d a w
  search-first = row-held h.records h.left h.first h.inside h.held

  pub search-second : (c : ℕ) → Inside m (d - c) b w
  search-second c = row-held h.records (omega (arith, h.left)) h.second (omega (arith, h.inside)) h.held

  -- no first part is longer than the row's longest length
  none_above : (f : ℕ) → longest_at w m d a < f → tells m w a d f ≡ true → ⊥
  none_above f l p = true≢false (sym p ∙ sym (told-above w m a d f (longest_at w m d a) (λ z. omega (arith, l, z)) refl l))

  pub search-start : {x c : ℕ} → x ≡ longest_at w m d a → c ≡ min e x → Searching m w a b d e lowest c
  search-start p q =
      record {
        above = ⊎_elim (λ (l : longest_at w m d a < h.some). absurd (none_above h.some l h.has_cut.front))
            (λ (l : h.some ≤ longest_at w m d a). omega (arith, h.has_cut.above, h.has_cut.inside))
            (below_or (longest_at w m d a) h.some);
        inside = omega arith;
        none_larger = λ f l n u v. none_above f (omega arith) u;
      }

  module _ {c : ℕ} (i : Searching m w a b d e lowest c) where
    pub search-found : {x y : Bool} → x ≡ tells m w a d c → x ≡ true → y ≡ tells m w b (d - c) (e - c) → y ≡ true → LongestCut m w a b d e lowest c
    search-found p p' q q' =
        record {
          found = record { above = i.above; inside = i.inside; front = sym p ∙ p'; back = sym q ∙ q' };
          none_larger = i.none_larger;
        }

    lower : lowest < c → (tells m w a d c ≡ true → tells m w b (d - c) (e - c) ≡ true → ⊥) → Searching m w a b d e lowest (c - 1)
    lower l n =
        record {
          above = omega arith;
          inside = omega (arith, i.inside);
          none_larger = λ f j o p q. ⊎_elim
              (λ (u : c ≡ f). n (subst (λ (g : ℕ). tells m w a d g ≡ true) (sym u) p)
              (subst (λ (g : ℕ). tells m w b (d - g) (e - g) ≡ true) (sym u) q))
              (λ (u : c < f). i.none_larger f u o p q)
              (eq-or-lt_of_le (omega arith));
        }

    pub search-not-first : {x : Bool} → lowest < c → x ≡ tells m w a d c → x ≡ false → Searching m w a b d e lowest (c - 1)
    search-not-first l p p' = lower l (λ u v. true≢false (sym u ∙ sym p ∙ p'))

    pub search-not-second : {y : Bool} → lowest < c → y ≡ tells m w b (d - c) (e - c) → y ≡ false → Searching m w a b d e lowest (c - 1)
    search-not-second l q q' = lower l (λ u v. true≢false (sym v ∙ sym q ∙ q'))

    -- at the lowest cut there is no other left
    pub search-end : c ≤ lowest → LongestCut m w a b d e lowest c
    search-end l =
        ⊎_elim
        (λ (u : c ≡ h.some).
        record {
          found = subst (λ (f : ℕ). ToldCut m w a b d e lowest f) (sym u) h.has_cut;
          none_larger = i.none_larger;
        })
        (λ (u : c < h.some).
        absurd (i.none_larger h.some u h.has_cut.inside h.has_cut.front h.has_cut.back))
        (eq-or-lt_of_le (omega (arith, h.has_cut.above)))
