-- The bound on a reading's records (document 01, "Readings": "A fitting reading that spells n bytes has at most m times max(n, 1) records").
-- Assumes nothing.
use Prim.Native.Nat.{ℕ, suc, ◌+◌, ◌*◌, ◌≤◌, max}
use native.Mathlib.Nat.{suc-mul, add-mul, mul-add, mul-le-mul_left}
use native.Mathlib.Omega.{arith}
use lib.ListN.{length, length-append}
use Rattle.posix.specs.Expressions.{Exp, empty, letter, or, seq, star}
use Rattle.posix.specs.Nodes.{nodes}
use Rattle.posix.specs.Values.{Val, flat, records, Reads, reads_void, reads_byte, reads_left, reads_right, reads_pair, reads_none, reads_more}
use Rattle.posix.proofs.Lists.{length-pos}

-- a record over z records in two parts of lengths k and l, in a line of length m
sum_bound :
    (x y z a b k l m : ℕ) → z ≤ x + y → x ≤ a * max k 1 → y ≤ b * max l 1 → k ≤ m → l ≤ m → suc z ≤ suc (a + b) * max m 1
sum_bound x y z a b k l m s p q k-fits l-fits =
    let p' : a * max k 1 ≤ a * max m 1 = mul-le-mul_left a (omega arith) in
    let q' : b * max l 1 ≤ b * max m 1 = mul-le-mul_left b (omega arith) in
    rw (suc-mul, add-mul) (omega arith)

-- an iteration of length k before others of length l
more-bound : (x y a k l : ℕ) → 1 ≤ k → x ≤ a * max k 1 → y ≤ 1 + a * l → x + y ≤ 1 + a * (k + l)
more-bound x y a k l h p q =
    let e : a * max k 1 ≤ a * k = mul-le-mul_left a (omega arith) in
    rw mul-add (omega arith)

-- the sharper bound for a star implies the general one
star-weaker : (x a l : ℕ) → x ≤ 1 + a * l → x ≤ suc a * max l 1
star-weaker x a l h =
    let e : a * l ≤ a * max l 1 = mul-le-mul_left a (omega arith) in
    rw suc-mul (omega arith)

-- the sharper bound for a star, from the bound for its iterations
star-bound :
    {a : Exp} {w : Val} → ((v : Val) → Reads a v → records v ≤ nodes a * max (length (flat v)) 1)
    → Reads (star a) w
    → records w ≤ 1 + nodes a * length (flat w)
star-bound f reads_none = omega arith
star-bound {a} f (reads_more {v} {w} p n q) =
    rw (length-append (flat v) (flat w)) (more-bound _ _ (nodes a) _ _ (length-pos (flat v) n) (f v p) (star-bound f q))

-- the bound, by the expression
exp-bound : (r : Exp) (v : Val) → Reads r v → records v ≤ nodes r * max (length (flat v)) 1
exp-bound empty v reads_void = omega arith
exp-bound (letter b) v (reads_byte h) = omega arith
exp-bound (or r1 r2) v (reads_left {v = u} p) =
    let n : ℕ = length (flat u) in
    sum_bound (records u) 0 _ (nodes r1) (nodes r2) n 0 n (omega arith) (exp-bound r1 u p) (omega arith) (omega arith) (omega arith)
exp-bound (or r1 r2) v (reads_right {v = u} p) =
    let n : ℕ = length (flat u) in
    sum_bound 0 (records u) _ (nodes r1) (nodes r2) 0 n n (omega arith) (omega arith) (exp-bound r2 u p) (omega arith) (omega arith)
exp-bound (seq r1 r2) v (reads_pair {v = u} {w} p q) =
    let k : ℕ = length (flat u) in
    let l : ℕ = length (flat w) in
    rw (length-append (flat u) (flat w))
    (sum_bound (records u) (records w) _ (nodes r1) (nodes r2) k l (k + l) (omega arith)
    (exp-bound r1 u p) (exp-bound r2 w q) (omega arith) (omega arith))
exp-bound (star r) v p = star-weaker _ (nodes r) _ (star-bound (exp-bound r) p)
exp-bound Rattle.posix.specs.Expressions.nothing v p = elim p [ ]

-- a reading of a star has at most one record, and nodes a for each byte
pub records-star : {a : Exp} {w : Val} → Reads (star a) w → records w ≤ 1 + nodes a * length (flat w)
records-star {a} p = star-bound (exp-bound a) p

-- a reading that spells n bytes has at most nodes r times max n 1 records
pub records-bound : {r : Exp} {v : Val} → Reads r v → records v ≤ nodes r * max (length (flat v)) 1
records-bound {r} {v} p = exp-bound r v p
