-- Each Range of a text's tree goes from a byte to one that is not below it.
-- Assumes nothing.
use Prim.Native.Nat.{ℕ, ◌≤◌}
use native.Mathlib.Omega.{arith}
use mathlib.Core.List.{List}
use Rattle.notation.specs.Trees.{Tree, unit, range, alt, cat, many, with_tag}
use Rattle.notation.specs.Grammar.{Letter, letter_plain, letter_escaped, letter_range}
use Rattle.notation.specs.Grammar.{item-letter, item-empty, item-group, item-star, item-tag}
use Rattle.notation.specs.Grammar.{row-item, row_next, Whole, whole_row, whole-next}

-- the bounds of each range are in order
abbrev pub Ordered : Tree → Type 0
Ordered (unit n) = Unit {0}
Ordered (range p q n) = p ≤ q
Ordered (alt t u n) = Ordered t × Ordered u
Ordered (cat t u n) = Ordered t × Ordered u
Ordered (many t n) = Ordered t

-- another tag changes no range, and a letter's bounds are in order
ordered-tag : (t : Tree) (n : ℕ) → Ordered t → Ordered (with_tag t n)
ordered-tag (unit m) n o = o
ordered-tag (range p q m) n o = o
ordered-tag (alt t u m) n o = o
ordered-tag (cat t u m) n o = o
ordered-tag (many t m) n o = o

letter-ordered : {s : List ℕ} {p q : ℕ} → Letter s p q → p ≤ q
letter-ordered (letter_plain c e f) = omega arith
letter-ordered (letter_escaped c e) = omega arith
letter-ordered (letter_range p q l e) = l

-- so the ranges of a text's tree are ordered
pub whole-ordered : {s : List ℕ} {t : Tree} → Whole s t → Ordered t
whole-ordered w =
    elim w as (λ s t i. Ordered t) (λ s t r. Ordered t) (λ s t x. Ordered t) [
      | item-letter l ↦ letter-ordered l
      | item-empty e ↦ tt
      | item-group s e (x → h) ↦ h
      | item-star s e (i → h) ↦ h
      | item-tag s z {t = t} {n = n} e (i → h) g f ↦ ordered-tag t n h
      | row-item (i → h) ↦ h
      | row_next s s' e (r → h) (i → g) ↦ (h, g)
      | whole_row (r → h) ↦ h
      | whole-next s s' e (x → h) (r → g) ↦ (h, g)
    ]
