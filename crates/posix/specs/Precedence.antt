-- Precedence of readings, the order of Okui and Suzuki (document 01, "Precedence of readings").
-- Assumes nothing.
use Rattle.std.specs.Prelude.{ℕ, zero, suc, ◌<◌, ◌≡◌, List, [], ◌∷◌, ◌⊎◌, length}
use Rattle.posix.specs.Values.{Val, void, byte, left, right, pair, none, more, flat}

-- "The size at a path is the number of bytes spelled there, or −1 if the reading has no such path." Kept one higher: 0 says that there is
-- no such path, suc n that n bytes are spelled there. A path is a list of numbers from the root: 0 into Left, 1 into Right, 0 and 1 into
-- Seq, i into iteration i of Stars.
abbrev pub size_at : Val → List ℕ → ℕ
size_at void [] = 1
size_at void (i ∷ p) = 0
size_at (byte c) [] = 2
size_at (byte c) (i ∷ p) = 0
size_at (left v) [] = suc (length (flat v))
size_at (left v) (zero ∷ p) = size_at v p
size_at (left v) (suc i ∷ p) = 0
size_at (right v) [] = suc (length (flat v))
size_at (right v) (zero ∷ p) = 0
size_at (right v) (suc zero ∷ p) = size_at v p
size_at (right v) (suc (suc i) ∷ p) = 0
size_at (pair v w) [] = suc (length (flat (pair v w)))
size_at (pair v w) (zero ∷ p) = size_at v p
size_at (pair v w) (suc zero ∷ p) = size_at w p
size_at (pair v w) (suc (suc i) ∷ p) = 0
size_at none [] = 1
size_at none (i ∷ p) = 0
size_at (more v w) [] = suc (length (flat (more v w)))
size_at (more v w) (zero ∷ p) = size_at v p
size_at (more v w) (suc i ∷ p) = size_at w (i ∷ p)

-- "A path stands before its extensions; otherwise the one with the lower number at the first difference stands first."
pub data Before : List ℕ → List ℕ → Type 0 where
  before_extension : {j : ℕ} {q : List ℕ} → Before [] (j ∷ q)
  before_lower : {i j : ℕ} {p q : List ℕ} → i < j → Before (i ∷ p) (j ∷ q)
  before_later : {i j : ℕ} {p q : List ℕ} → i ≡ j → Before p q → Before (i ∷ p) (j ∷ q)

-- "At the first path where two sizes differ, the larger size ranks ahead": v ranks ahead of w
pub record Ahead (v w : Val) : Type 0 where
  pub path : List ℕ
  pub larger : size_at w path < size_at v path
  pub same_before : (q : List ℕ) → Before q path → size_at v q ≡ size_at w q

-- exactly one holds: the values are the same, the first ranks ahead, the second does
pub record Once (v w : Val) : Type 0 where
  pub one : (v ≡ w) ⊎ Ahead v w ⊎ Ahead w v
  pub same_not_first : v ≡ w → ¬ (Ahead v w)
  pub same_not_second : v ≡ w → ¬ (Ahead w v)
  pub first_not_second : Ahead v w → ¬ (Ahead w v)
