-- The shape of the record at a place, one law for each way in which the code tells it.
-- Assumes nothing.
use Rattle.std.specs.Prelude.{Option, None}
use Prim.Native.Nat.{ℕ, ◌+◌, ◌≤◌, ◌<◌}
use mathlib.Core.Path.{◌≡◌, sym, ◌∙◌}
use mathlib.Core.List.{List}
use borrow.Author.Tests.{le-leb, lt-leb, eq-eqb, ne_eqb}
use lib.ListN.{length}
use Rattle.table.specs.Records.{kind_at, a_at, b_at}
use Rattle.reading.specs.declared.Shape.{Shape}
use Rattle.reading.specs.Codec.{record_size, record_at}
use Rattle.reading.specs.Walks.{shape_of, shape_at}

-- the shape of the record at a place: none where less than a record is left, or its number is another
pub look-short : (t : List ℕ) (k : ℕ) (bs : List ℕ) (at : ℕ) → length bs < at + record_size → None ≡ shape_at t k bs at
unfolding shape_at
look-short t k bs at h = rw (lt-leb (at + record_size) (length bs) h)

pub look-other :
    (t : List ℕ) (k : ℕ) (bs : List ℕ) (at number : ℕ) → at + record_size ≤ length bs → number ≡ (record_at bs at).number → ¬ (number ≡ k)
    → None ≡ shape_at t k bs at
unfolding shape_at
look-other t k bs at number h e n =
    rw (le-leb (at + record_size) (length bs) h, ne_eqb (record_at bs at).number k (λ z. n (e ∙ z)))

pub look-full :
    (t : List ℕ) (k : ℕ) (bs : List ℕ) (at number kind a b x y : ℕ) (s : Option Shape) → at + record_size ≤ length bs
    → number ≡ (record_at bs at).number
    → number ≡ k
    → kind ≡ kind_at t k
    → a ≡ a_at t k
    → b ≡ b_at t k
    → x ≡ (record_at bs at).kind
    → y ≡ (record_at bs at).argument
    → s ≡ shape_of kind a b x y
    → s ≡ shape_at t k bs at
unfolding shape_at
look-full t k bs at number kind a b x y s h en n ek ea eb ex ey e =
    rw (le-leb (at + record_size) (length bs) h, eq-eqb (record_at bs at).number k (sym en ∙ n)) (rw (ek, ea, eb, ex, ey) at e)
