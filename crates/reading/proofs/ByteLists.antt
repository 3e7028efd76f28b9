-- The encoding of a reading of at most 255 line bytes, by a record of a table that passes, is a byte sequence.
-- Assumes nothing.
use mathlib.Core.Path.{subst}
use Prim.Native.Nat.{ℕ, ◌+◌, ◌≤◌, ◌<◌}
use mathlib.Core.List.{List, ◌∷◌, ◌++◌}
use native.Mathlib.Omega.{arith}
use lib.ListN.{length, length-append}
use Rattle.posix.specs.Expressions.{Exp, star}
use Rattle.posix.specs.Values.{Val, void, byte, left, right, pair, none, more, flat, Reads, reads_void, reads_byte, reads_left, reads_right, reads_pair, reads_none, reads_more}
use Rattle.posix.specs.Language.{Bytes}
use Rattle.posix.proofs.Lists.{length-pos}
use Rattle.posix.proofs.Bytes.{bytes-nil, bytes-cons, bytes-append, holds-byte}
use Rattle.table.specs.Records.{count, a_at, b_at}
use Rattle.table.specs.Faults.{Passes}
use Rattle.table.specs.Expression.{exp_of}
use Rattle.table.proofs.Passing.{count-bound}
use Rattle.table.proofs.Children.{Node, node_or, node_seq, node_star, node}
use Rattle.reading.specs.Codec.{record_bytes, head_of, kind_of, argument_of, encode_below, encode}

-- a star has at most as many iterations as bytes
pub iterations-bound : {r : Exp} {w : Val} → Reads (star r) w → argument_of w ≤ length (flat w)
iterations-bound reads_none = omega arith
iterations-bound (reads_more {v = v} {w = w} p n q) =
    omega (arith, iterations-bound q, length-pos (flat v) n, length-append (flat v) (flat w))

-- a kind is one of 0 to 5, and an argument a byte
kind-byte : (v : Val) → kind_of v < 256
kind-byte void = omega arith
kind-byte (byte c) = omega arith
kind-byte (left v) = omega arith
kind-byte (right v) = omega arith
kind-byte (pair v w) = omega arith
kind-byte none = omega arith
kind-byte (more v w) = omega arith

argument-byte : {r : Exp} {v : Val} → Reads r v → length (flat v) ≤ 255 → argument_of v < 256
argument-byte reads_void h = omega arith
argument-byte (reads_byte {b = b} {c = c} k) h = holds-byte b c k
argument-byte (reads_left p) h = omega arith
argument-byte (reads_right p) h = omega arith
argument-byte (reads_pair p q) h = omega arith
argument-byte reads_none h = omega arith
argument-byte (reads_more p n q) h = omega (arith, iterations-bound (reads_more p n q))

-- a record, then bytes
head_bytes : (k : ℕ) {r : Exp} {v : Val} (bs : List ℕ) → k < 256 → Reads r v → length (flat v) ≤ 255 → Bytes bs → Bytes (record_bytes (head_of k v) ++ bs)
head_bytes k {v = v} bs l p h b =
    bytes-cons (kind_of v) (argument_of v ∷ length (flat v) ∷ k ∷ bs) (kind-byte v)
    (bytes-cons (argument_of v) (length (flat v) ∷ k ∷ bs) (argument-byte p h)
    (bytes-cons (length (flat v)) (k ∷ bs) (omega arith) (bytes-cons k bs l b)))

module _ (t : List ℕ) (passes : Passes t) where
  small : (k : ℕ) → k < count t → k < 256
  small k l = omega (arith, count-bound t passes)

  -- a part's bytes, by those below its record
  part_bytes : (k : ℕ) → k < count t → {r : Exp} {v : Val} → Reads r v → length (flat v) ≤ 255 → (Node t k (exp_of t k) → Bytes (encode_below t k v)) → Bytes (encode t k v)
  part_bytes k l {v = v} p h f = head_bytes k (encode_below t k v) (small k l) p h (f (node t passes k l))

  below-bytes : (k : ℕ) → k < count t → {r : Exp} {v : Val} → Reads r v → length (flat v) ≤ 255 → Node t k r → Bytes (encode_below t k v)
  below-bytes k l reads_void h b = bytes-nil
  below-bytes k l (reads_byte z) h b = bytes-nil
  below-bytes k l (reads_left p) h (node_or x y e f) = part_bytes (a_at t k) (omega arith) p h (λ z. below-bytes (a_at t k) (omega arith) p h (subst (Node t (a_at t k)) e z))
  below-bytes k l (reads_right p) h (node_or x y e f) = part_bytes (b_at t k) (omega arith) p h (λ z. below-bytes (b_at t k) (omega arith) p h (subst (Node t (b_at t k)) f z))
  below-bytes k l (reads_pair {v = v} {w = w} p q) h (node_seq x y e f) =
      let s : length (flat v) + length (flat w) ≤ 255 = rw (← length-append (flat v) (flat w)) h in
      bytes-append (encode t (a_at t k) v) (encode t (b_at t k) w)
      (part_bytes (a_at t k) (omega arith) p (omega arith) (λ z. below-bytes (a_at t k) (omega arith) p (omega arith) (subst (Node t (a_at t k)) e z)))
      (part_bytes (b_at t k) (omega arith) q (omega arith) (λ z. below-bytes (b_at t k) (omega arith) q (omega arith) (subst (Node t (b_at t k)) f z)))
  below-bytes k l reads_none h b = bytes-nil
  below-bytes k l (reads_more {v = v} {w = w} p n q) h (node_star x e) =
      let s : length (flat v) + length (flat w) ≤ 255 = rw (← length-append (flat v) (flat w)) h in
      bytes-append (encode t (a_at t k) v) (encode_below t k w)
      (part_bytes (a_at t k) (omega arith) p (omega arith) (λ z. below-bytes (a_at t k) (omega arith) p (omega arith) (subst (Node t (a_at t k)) e z)))
      (below-bytes k l q (omega arith) (node_star x e))

  pub encode-bytes : (k : ℕ) → k < count t → {v : Val} → Reads (exp_of t k) v → length (flat v) ≤ 255 → Bytes (encode t k v)
  encode-bytes k l p h = part_bytes k l p h (below-bytes k l p h)
