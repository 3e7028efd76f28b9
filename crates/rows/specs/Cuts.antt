-- Cuts of a part of the line in two, as rows are joined for Seq and Star: a part is given by its length, and what its two sides are said to
-- spell by Boolean functions of lengths.
-- Assumes nothing.
use Rattle.std.specs.Prelude.{ℕ, zero, suc, ◌-◌, Bool, false, ◌&&◌, ◌||◌, leb}

-- some number below n passes the test
unfoldable pub some : (ℕ → Bool) → ℕ → Bool
some f zero = false
some f (suc n) = some f n || f n

-- the part of e bytes may be cut behind c bytes: c is not below low, A holds of the c bytes, and B of the e - c bytes behind them
unfoldable pub cut_at : (ℕ → Bool) → (ℕ → ℕ → Bool) → ℕ → ℕ → ℕ → Bool
cut_at A B low e c = leb low c && (leb c e && (A c && B c (e - c)))
