-- How long a fitting reading can be (document 01, "Readings"): "A fitting reading that spells n bytes has at most m times max(n, 1) records".
-- Assumes nothing.
use Prim.Native.Nat.{ℕ, ◌*◌, ◌≤◌, ◌<◌, max}
use mathlib.Core.Path.{ap}
use mathlib.Core.List.{List}
use native.Mathlib.Nat.{mul-le-mul_right}
use native.Mathlib.Omega.{arith}
use lib.ListN.{length}
use Rattle.posix.specs.Nodes.{nodes}
use Rattle.posix.specs.Values.{Val, flat, records, Reads}
use Rattle.posix.proofs.Count.{records-bound}
use Rattle.table.specs.Records.{count}
use Rattle.table.specs.Faults.{Passes}
use Rattle.table.specs.Expression.{exp_of}
use Rattle.table.proofs.Nodes.{nodes-bound}
use Rattle.reading.specs.Codec.{record_size}
use Rattle.reading.specs.Fitting.{Fits, spelled}
use Rattle.reading.proofs.Lengths.{encode-length, spelled-fits}

-- a value that record k reads
pub records-reads :
    (t : List ℕ) → Passes t → (k : ℕ) → k < count t → {v : Val} → Reads (exp_of t k) v → records v ≤ count t * max (length (flat v)) 1
records-reads t p k l {v} r =
    let n : ℕ = max (length (flat v)) 1 in
    let b : nodes (exp_of t k) ≤ count t = omega (arith, nodes-bound t p k l) in
    let c : nodes (exp_of t k) * n ≤ count t * n = mul-le-mul_right n b in
    omega (arith, records-bound r)

-- a fitting reading has at most m times max (n, 1) records, where n is the number of bytes that it spells
pub records-fits :
    (t : List ℕ) → Passes t → (k : ℕ) → k < count t → (bs : List ℕ) (f : Fits t k bs)
    → records f.value ≤ count t * max (length (spelled bs)) 1
records-fits t p k l bs f = rw (spelled-fits f) (records-reads t p k l f.reads)

-- the same in bytes
pub bytes-fits :
    (t : List ℕ) → Passes t → (k : ℕ) → k < count t → (bs : List ℕ) → Fits t k bs
    → length bs ≤ record_size * (count t * max (length (spelled bs)) 1)
bytes-fits t p k l bs f = omega (arith, records-fits t p k l bs f, encode-length t k f.reads, ap length f.encoded)
