-- Places in a byte sequence: the record that stands there, and the records from there on.
-- Assumes nothing.
use Prim.Native.Nat.{ℕ, suc, ◌+◌, ◌≤◌, ◌<◌}
use mathlib.Core.Path.{◌≡◌, refl, ◌∙◌, ap}
use mathlib.Core.List.{List, [], ◌∷◌, ◌++◌}
use native.Mathlib.Omega.{arith}
use borrow.Author.Tests.{le-leb, lt-leb}
use lib.ListN.{length, get_or, drop, length-drop}
use lib.Seq.{drop-cons}
use Rattle.reading.specs.Codec.{record_size, record_bytes, record_at, records_of}
use Rattle.reading.specs.Fitting.{stepped}

-- a place with a record left: its bytes, and the bytes after it
pub drop-record :
    (bs : List ℕ) (at : ℕ) → at + record_size ≤ length bs → drop at bs ≡ record_bytes (record_at bs at) ++ drop (at + record_size) bs
drop-record bs at h =
    let e1 : suc at ≡ at + 1 = omega arith in
    let e2 : suc (suc at) ≡ at + 2 = omega arith in
    let e3 : suc (suc (suc at)) ≡ at + 3 = omega arith in
    let e4 : suc (suc (suc (suc at))) ≡ at + 4 = omega arith in
    drop-cons bs at 0 (omega arith)
    ∙ ap (λ (r : List ℕ). get_or bs at 0 ∷ r) (drop-cons bs (suc at) 0 (omega arith)
    ∙ ap (λ (r : List ℕ). get_or bs (suc at) 0 ∷ r) (drop-cons bs (suc (suc at)) 0 (omega arith)
    ∙ ap (λ (r : List ℕ). get_or bs (suc (suc at)) 0 ∷ r) (drop-cons bs (suc (suc (suc at))) 0 (omega arith))))
    ∙ rw (← e1, ← e2, ← e3, ← e4) refl

-- a place moves on by one record
pub stepped-on : (bs : List ℕ) (at : ℕ) → at + record_size ≤ length bs → stepped bs at ≡ at + record_size
stepped-on bs at h = rw (le-leb (at + record_size) (length bs) h)

-- and stays where less than a record is left
pub stepped-not : (bs : List ℕ) (at : ℕ) → length bs < at + record_size → stepped bs at ≡ at
stepped-not bs at h = rw (lt-leb (at + record_size) (length bs) h)

-- the record at a place, and those behind it
pub records-next :
    (bs : List ℕ) (at : ℕ) → at + record_size ≤ length bs → records_of (drop at bs) ≡ record_at bs at ∷ records_of (drop (at + record_size) bs)
records-next bs at h = ap records_of (drop-record bs at h)

-- no record where less than one is left
records-short : (bs : List ℕ) → length bs < record_size → records_of bs ≡ []
records-short [] h = refl
records-short (x ∷ []) h = refl
records-short (x ∷ (y ∷ [])) h = refl
records-short (x ∷ (y ∷ (n ∷ []))) h = refl
records-short (x ∷ (y ∷ (n ∷ (k ∷ bs)))) h = absurd (omega arith)

pub records-end : (bs : List ℕ) (at : ℕ) → length bs < at + record_size → records_of (drop at bs) ≡ []
records-end bs at h = records-short (drop at bs) (omega (arith, length-drop at bs))
