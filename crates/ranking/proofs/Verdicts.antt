-- Verdicts as numbers: what holding two records against each other finds, and then two readings, record by record.
-- Assumes nothing.
use Prim.Native.Nat.{ℕ, ◌+◌, ◌≤◌, ◌<◌, min}
use Rattle.std.specs.declared.cmp.Ordering.{Ordering}
use Rattle.std.specs.declared.cmp.Ordering.TheVariants.{Less, Equal, Greater}
use Rattle.std.specs.Ordering.{ordering_index}
use Rattle.std.specs.Bool.{◌==◌}
use mathlib.Core.Path.{◌≡◌, refl, sym, ◌∙◌, ap, ap₂}
use mathlib.Core.Bool.{Bool, true, false, not, false≢true}
use mathlib.Core.List.{List, [], ◌∷◌}
use mathlib.Core.Logic.{◌⊎◌, inl, inr, ⊎_elim}
use Rattle.std.proofs.lemmas.Bool.{cases_lt}
use native.Mathlib.Omega.{arith}
use borrow.Author.Tests.{ltb-true, ltb-false}
use lib.Dec.{ltb}
use lib.ListN.{length, drop}
use Rattle.posix.specs.Ranking.{Verdict, same, first, second, choose}
use Rattle.posix.specs.RankingParts.{by_size, then_by}
use Rattle.reading.specs.Codec.{record_size, Record, record_at, records_of}
use Rattle.reading.proofs.Places.{records-next, records-end}
use Rattle.ranking.specs.Answers.{verdict_number}
use Rattle.ranking.specs.Records.{rank_records, RecordVerdict, order_number}
use Rattle.ranking.proofs.Records.{size-then, ranked}

-- the verdict of two records alone, as a number
alone : (r q : Record) (x : ℕ) → RecordVerdict r q x → x ≡ verdict_number (rank_records (r ∷ []) (q ∷ []))
alone r q x v = go (ltb q.size r.size) (ltb r.size q.size) (ltb r.kind q.kind) (ltb q.kind r.kind) refl refl refl refl
  where
    equal : (m n : ℕ) → ltb n m ≡ false → ltb m n ≡ false → m ≡ n
    equal m n e f = omega (arith, ltb-false n m e, ltb-false m n f)

    go :
        (a b c d : Bool) → ltb q.size r.size ≡ a → ltb r.size q.size ≡ b → ltb r.kind q.kind ≡ c → ltb q.kind r.kind ≡ d
        → x ≡ verdict_number (choose a first (choose b second (choose c first (choose d second same))))
    go true b c d e f g h = v.longer_first (ltb-true q.size r.size e)
    go false true c d e f g h = v.longer_second (ltb-true r.size q.size f)
    go false false true d e f g h = v.lower_first (equal r.size q.size e f) (ltb-true r.kind q.kind g)
    go false false false true e f g h = v.lower_second (equal r.size q.size e f) (ltb-true q.kind r.kind h)
    go false false false false e f g h = v.neither_ahead (equal r.size q.size e f) (equal r.kind q.kind h g)

-- the verdict of two records, then that of those behind them
one_more :
    (r q : Record) (rs qs : List Record) → rank_records (r ∷ rs) (q ∷ qs) ≡ then_by (rank_records (r ∷ []) (q ∷ [])) (rank_records rs qs)
one_more r q rs qs =
    sym (size-then r.size q.size (by_size q.kind r.kind same) (rank_records rs qs)
    ∙ ap (by_size r.size q.size) (size-then q.kind r.kind same (rank_records rs qs)))

-- none is ahead of no records
none-second : (rs qs : List Record) → qs ≡ [] → rank_records rs qs ≡ same
none-second [] qs e = refl
none-second (r ∷ rs) qs e = rw e

-- a verdict other than 0 stands, and after 0 the next one does
this-stands : (v : ℕ) (d e : Verdict) → v ≡ verdict_number d → ¬ (v ≡ 0) → v ≡ verdict_number (then_by d e)
this-stands v same e f n = absurd (n f)
this-stands v first e f n = f
this-stands v second e f n = f

next-stands : (v : ℕ) (d e : Verdict) → v ≡ verdict_number d → v ≡ 0 → then_by d e ≡ e
next-stands v same e f z = refl
next-stands v first e f z = absurd (omega arith)
next-stands v second e f z = absurd (omega arith)

-- the verdict of the two records at a place
abbrev ranked_at : List ℕ → List ℕ → ℕ → Verdict
ranked_at bs cs at = rank_records (record_at bs at ∷ []) (record_at cs at ∷ [])

-- an order is Equal just where its number is 0
pub not-equal : (o : Ordering) → not (ordering_index o == 1) ≡ true → ¬ (order_number o ≡ 0)
not-equal Less e = λ z. omega (arith, z)
not-equal Equal e = absurd (false≢true e)
not-equal Greater e = λ z. omega (arith, z)

pub equal : (o : Ordering) → not (ordering_index o == 1) ≡ false → order_number o ≡ 0
equal Less e = absurd (false≢true (sym e))
equal Equal e = refl
equal Greater e = absurd (false≢true (sym e))

-- less than a record is left of the shorter of two
pub shorter-over : (m n at : ℕ) → min m n < at + record_size → (m < at + record_size) ⊎ (n < at + record_size)
shorter-over m n at h = ⊎_elim (λ l. inl (omega (arith, h, l))) (λ l. inr (omega (arith, h, l))) (cases_lt m n)

-- the records before a place agree: those from there on decide
pub record Agreeing (bs cs : List ℕ) (at : ℕ) : Type 0 where
  decide : ranked (drop at bs) (drop at cs) ≡ ranked bs cs

pub agree-start : (bs cs : List ℕ) → Agreeing bs cs 0
agree-start bs cs = record { decide = refl }

module _ (bs cs : List ℕ) (at : ℕ) (a : Agreeing bs cs at) where
  -- the records at the place differ, or agree too
  module _ (h : at + record_size ≤ length bs) (i : at + record_size ≤ length cs) {v : ℕ} (e : RecordVerdict (record_at bs at) (record_at cs at) v) where
    abbrev later : Verdict
    later = ranked (drop (at + record_size) bs) (drop (at + record_size) cs)

    here : ranked bs cs ≡ then_by (ranked_at bs cs at) later
    here =
        sym a.decide ∙ ap₂ rank_records (records-next bs at h) (records-next cs at i)
        ∙ one_more (record_at bs at) (record_at cs at) (records_of (drop (at + record_size) bs)) (records_of (drop (at + record_size) cs))

    number : v ≡ verdict_number (ranked_at bs cs at)
    number = alone (record_at bs at) (record_at cs at) v e

    pub agree-ends : ¬ (v ≡ 0) → v ≡ verdict_number (ranked bs cs)
    agree-ends n = this-stands v (ranked_at bs cs at) later number n ∙ ap verdict_number (sym here)

    pub agree-next : v ≡ 0 → Agreeing bs cs (at + record_size)
    agree-next z = record { decide = sym (here ∙ next-stands v (ranked_at bs cs at) later number z) }

  -- no record is left of one of the two
  pub agree-over : (length bs < at + record_size) ⊎ (length cs < at + record_size) → 0 ≡ verdict_number (ranked bs cs)
  agree-over o = ap verdict_number (sym (⊎_elim first-over second-over o) ∙ a.decide)
    where
      first-over : length bs < at + record_size → ranked (drop at bs) (drop at cs) ≡ same
      first-over h = rw (records-end bs at h)

      second-over : length cs < at + record_size → ranked (drop at bs) (drop at cs) ≡ same
      second-over h = none-second (records_of (drop at bs)) (records_of (drop at cs)) (records-end cs at h)
