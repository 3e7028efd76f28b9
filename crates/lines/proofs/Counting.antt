-- The number of lines: one for each byte 10, and one where something stands behind the last.
-- Assumes nothing.
use Rattle.std.proofs.Common.{◌≡◌, ℕ, suc, ◌+◌, ◌-◌, Bool, true, false, cond, eqb, List, [], ◌∷◌, length, get_or, count_by, refl, sym, ap, ◌∙◌, arith}
use borrow.Author.Tests.{eq-eqb, ne_eqb}
use Rattle.std.proofs.Common.{Some}
use Rattle.std.specs.List.{slice_get}
use Rattle.std.proofs.lemmas.Option.{get_or_from_slice_get}
use Rattle.std.proofs.lemmas.List.Recursion.{is_count_by}
use Rattle.lines.specs.Lines.{pick_lines, on_first, lines_of}
use Rattle.lines.proofs.Joining.{none-empty}

-- how many bytes end a line
ends : List ℕ → ℕ
ends [] = 0
ends (c ∷ s) = cond (eqb c 10) (1 + ends s) (ends s)

ends-counted : (s : List ℕ) → ends s ≡ count_by (λ b. eqb b 10) s
unfolding ends
ends-counted s = is_count_by ends (λ b. eqb b 10) refl (λ c s. refl) s

-- one where the last byte does not
open_count : List ℕ → ℕ
open_count s = cond (eqb (get_or s (length s - 1) 10) 10) 0 1

length-first : (c : ℕ) (ss : List (List ℕ)) → (ss ≡ [] → ⊥) → length (on_first c ss) ≡ length ss
length-first c [] h = absurd (h refl)
length-first c (u ∷ ss) h = refl

counted : (s : List ℕ) → length (lines_of s) ≡ ends s + open_count s
unfolding ends open_count
counted [] = refl
counted (c ∷ []) = go (eqb c 10)
  where
    go : (b : Bool) → length (pick_lines b ([] ∷ []) ((c ∷ []) ∷ [])) ≡ cond b (1 + 0) 0 + cond b 0 1
    go true = refl
    go false = refl
counted (c ∷ (d ∷ s)) =
    let e : length (c ∷ (d ∷ s)) - 1 ≡ suc (length (d ∷ s) - 1) = omega arith in
    go (counted (d ∷ s)) (eqb c 10) ∙ ap (λ (i : ℕ). ends (c ∷ (d ∷ s)) + cond (eqb (get_or (c ∷ (d ∷ s)) i 10) 10) 0 1) (sym e)
  where
    full : lines_of (d ∷ s) ≡ [] → ⊥
    full f = let z : (d ∷ s) ≡ [] = none-empty (d ∷ s) f in cc

    go :
        length (lines_of (d ∷ s)) ≡ ends (d ∷ s) + open_count (d ∷ s)
        → (b : Bool)
        → length (pick_lines b ([] ∷ lines_of (d ∷ s)) (on_first c (lines_of (d ∷ s)))) ≡ cond b (1 + ends (d ∷ s)) (ends (d ∷ s)) + open_count (d ∷ s)
    go more true = omega (arith, more)
    go more false = length-first c (lines_of (d ∷ s)) full ∙ more

module _ (s : List ℕ) (n last : ℕ) (e : n ≡ count_by (λ b. eqb b 10) s) (at : Some last ≡ slice_get s (length s - 1)) where
  same : get_or s (length s - 1) 10 ≡ last
  same = get_or_from_slice_get s (length s - 1) last 10 (sym at)

  -- by the last byte
  pub counted-open : (last ≡ 10 → ⊥) → n + 1 ≡ length (lines_of s)
  unfolding open_count
  counted-open h =
      let f : open_count s ≡ 1 = rw (same, ne_eqb last 10 h) in
      omega (arith, counted s, ends-counted s)

  pub counted-ended : last ≡ 10 → n ≡ length (lines_of s)
  unfolding open_count
  counted-ended h =
      let f : open_count s ≡ 0 = rw (same, eq-eqb last 10 h) in
      omega (arith, counted s, ends-counted s)
