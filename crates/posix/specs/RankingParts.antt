-- The comparison of two readings by parts, as the walks over both go: by lengths, and by one part after the other.
-- Assumes nothing.
use Rattle.std.specs.Prelude.{ℕ, ltb}
use Rattle.posix.specs.Values.{Val}
use Rattle.posix.specs.Ranking.{Verdict, same, first, second, sizes_below, choose, first_larger}

-- the first verdict that is not `same`
abbrev pub then_by : Verdict → Verdict → Verdict
then_by same d = d
then_by first d = first
then_by second d = second

-- the verdict of two lengths, and where they are equal another
abbrev pub by_size : ℕ → ℕ → Verdict → Verdict
by_size m n d = choose (ltb n m) first (choose (ltb m n) second d)

-- the verdict below the roots of two readings
abbrev pub rank_below : Val → Val → Verdict
rank_below v w = first_larger (sizes_below v) (sizes_below w)
