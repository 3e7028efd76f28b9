-- How two readings rank by their records, held against each other one by one: what only the functions inside go by (document 01, "Precedence of
-- readings", and document 02, request 6).
-- Assumes nothing.
use Rattle.std.specs.declared.cmp.Ordering.{Ordering}
use Rattle.std.specs.declared.cmp.Ordering.TheVariants.{Less, Equal, Greater}
use Rattle.std.specs.Prelude.{ℕ, ◌<◌, ◌≡◌, List, [], ◌∷◌}
use Rattle.posix.specs.Ranking.{Verdict, same}
use Rattle.posix.specs.RankingParts.{by_size}
use Rattle.reading.specs.Codec.{Record}

-- the first place where the lengths or the kinds differ decides: the longer is ahead, and of one length the lower kind, as Left of Right.
-- Arguments and table record numbers do not matter.
abbrev pub rank_records : List Record → List Record → Verdict
rank_records [] qs = same
rank_records (r ∷ rs) [] = same
rank_records (r ∷ rs) (q ∷ qs) = by_size r.size q.size (by_size q.kind r.kind (rank_records rs qs))

-- x is the verdict of two records alone: 1 if the first is ahead, 2 if the second is, 0 if neither
pub record RecordVerdict (r q : Record) (x : ℕ) : Type 0 where
  pub longer_first : q.size < r.size → x ≡ 1
  pub longer_second : r.size < q.size → x ≡ 2
  pub lower_first : r.size ≡ q.size → r.kind < q.kind → x ≡ 1
  pub lower_second : r.size ≡ q.size → q.kind < r.kind → x ≡ 2
  pub neither_ahead : r.size ≡ q.size → r.kind ≡ q.kind → x ≡ 0

-- Compare's number for an order of two readings, by which the greater ranks ahead
abbrev pub order_number : Ordering → ℕ
order_number Equal = 0
order_number Greater = 1
order_number Less = 2
