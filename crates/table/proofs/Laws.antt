-- The expression of a record, one law for each kind. Upper crates go by these and do not unfold `exp_of`.
-- Assumes nothing.
use Prim.Native.Nat.{ℕ, zero, suc, ◌<◌}
use native.Mathlib.Omega.{arith}
use native.Mathlib.Nat.{eq-or-lt_of_le}
use mathlib.Core.Path.{◌≡◌, refl, ◌∙◌}
use mathlib.Core.Logic.{◌⊎◌, ⊎_elim, ◌↔◌}
use mathlib.Core.Bool.{true}
use mathlib.Core.List.{List, [], ◌∷◌}
use lib.ListN.{length, get_or, length-append, get_or-append}
use lib.Seq.{get_or_at}
use Rattle.posix.specs.Expressions.{nothing, empty, letter, or, seq, star}
use Rattle.posix.specs.Language.{L}
use Rattle.posix.proofs.Bytes.{outside-holds}
use Rattle.table.specs.Records.{kind_at, a_at, b_at, is_letter}
use Rattle.table.specs.Expression.{below, exp_of}
use Rattle.table.specs.Letters.{byte_set_at}
use Rattle.table.proofs.Passing.{letter-kinds}

below_length : (t : List ℕ) (k : ℕ) → length (below t k) ≡ k
unfolding below
below_length t zero = refl
below_length t (suc k) = let h = below_length t k in rw length-append (omega arith)

-- the list of the expressions below k holds record j's expression at j
below_last : (t : List ℕ) (k j : ℕ) → j ≡ k → get_or (below t (suc k)) j nothing ≡ exp_of t j
unfolding below exp_of
below_last t k j e = rw e (get_or_at (below t k) _ [] nothing k (below_length t k))

below_more : (t : List ℕ) (k j : ℕ) → j < k → get_or (below t (suc k)) j nothing ≡ get_or (below t k) j nothing
unfolding below
below_more t k j l = get_or-append (below t k) _ nothing j (omega (arith, below_length t k))

below_at : (t : List ℕ) (k j : ℕ) → j < k → get_or (below t k) j nothing ≡ exp_of t j
below_at t zero j h = absurd (omega arith)
below_at t (suc k) j h =
    ⊎_elim
    (λ (e : suc j ≡ suc k). below_last t k j (omega arith))
    (λ (l : suc j < suc k). below_more t k j (omega arith) ∙ below_at t k j (omega arith))
    (eq-or-lt_of_le h)

pub exp-nothing : (t : List ℕ) (k : ℕ) → kind_at t k ≡ 0 → exp_of t k ≡ nothing
unfolding exp_of
exp-nothing t k e = rw e

pub exp-empty : (t : List ℕ) (k : ℕ) → kind_at t k ≡ 1 → exp_of t k ≡ empty
unfolding exp_of
exp-empty t k e = rw e

pub exp-letter : (t : List ℕ) (k : ℕ) → is_letter t k ≡ true → exp_of t k ≡ letter (byte_set_at t k)
unfolding exp_of
exp-letter t k e = ⊎_elim (λ (z : kind_at t k ≡ 2). rw z) (λ (z : kind_at t k ≡ 6). rw z) (letter-kinds t k e)

-- document 02, request 1: an Other spells just the lines of "one byte c with c < a or c > b"
pub other-spells :
    (t : List ℕ) (k : ℕ) → kind_at t k ≡ 6 → (s : List ℕ)
    → L (exp_of t k) s ↔ ((c : ℕ) × (c < 256) × ((c < a_at t k) ⊎ (b_at t k < c)) × (s ≡ c ∷ []))
unfolding exp_of
other-spells t k e s =
    rw e (
      λ l. let p = (outside-holds (a_at t k) (b_at t k) l.0).0 l.1 in (l.0, p.0, p.1, l.2),
      λ p. (p.0, (outside-holds (a_at t k) (b_at t k) p.0).1 (p.1, p.2), p.3),
    )

-- "With a = 0 and b = 255 it spells no line": every byte lies within these bounds
pub other_none : (t : List ℕ) (k : ℕ) → kind_at t k ≡ 6 → a_at t k ≡ 0 → b_at t k ≡ 255 → (s : List ℕ) → ¬ (L (exp_of t k) s)
other_none t k e f g s l =
    let p = (other-spells t k e s).0 l in
    ⊎_elim (λ (low : p.0 < a_at t k). omega (arith, f)) (λ (high : b_at t k < p.0). omega (arith, g, p.1)) p.2

pub exp-or : (t : List ℕ) (k : ℕ) → kind_at t k ≡ 3 → a_at t k < k → b_at t k < k → exp_of t k ≡ or (exp_of t (a_at t k)) (exp_of t (b_at t k))
unfolding exp_of
exp-or t k e la lb = rw e (rw (below_at t k (a_at t k) la, below_at t k (b_at t k) lb))

pub exp-seq : (t : List ℕ) (k : ℕ) → kind_at t k ≡ 4 → a_at t k < k → b_at t k < k → exp_of t k ≡ seq (exp_of t (a_at t k)) (exp_of t (b_at t k))
unfolding exp_of
exp-seq t k e la lb = rw e (rw (below_at t k (a_at t k) la, below_at t k (b_at t k) lb))

pub exp-star : (t : List ℕ) (k : ℕ) → kind_at t k ≡ 5 → a_at t k < k → exp_of t k ≡ star (exp_of t (a_at t k))
unfolding exp_of
exp-star t k e la = rw e (rw (below_at t k (a_at t k) la))
