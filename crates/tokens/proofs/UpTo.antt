-- The tokens of a reading by a table that passes are those by any table with the same records up to the reading's, because children stand
-- below their parents.
-- Assumes nothing.
use Prim.Native.Nat.{ℕ, ◌+◌, ◌≤◌, ◌<◌}
use native.Mathlib.Omega.{arith}
use mathlib.Core.Path.{◌≡◌, refl, ap, ap₂, subst}
use mathlib.Core.List.{List, ◌++◌}
use lib.ListN.{length}
use Rattle.posix.specs.Expressions.{Exp}
use Rattle.posix.specs.Values.{Val, flat, Reads, reads_void, reads_byte, reads_left, reads_right, reads_pair, reads_none, reads_more}
use Rattle.table.specs.Records.{count, up_to, a_at, b_at}
use Rattle.table.specs.Faults.{Passes}
use Rattle.table.specs.Expression.{exp_of}
use Rattle.table.proofs.Children.{Node, node_or, node_seq, node_star, node}
use Rattle.table.proofs.UpTo.{SameRecords, up-to-records}
use Rattle.tokens.specs.Tokens.{placed_below, placed_parts, filter, has_size, tokens_from}

module _ {t u : List ℕ} {n : ℕ} (s : SameRecords t u n) (p : Passes t) (m : n ≤ count t) where
  -- the outermost tagged parts of a part, by those below its record
  same_from :
      (j : ℕ) → j < n → (v : Val) (at : ℕ) → (Node t j (exp_of t j) → placed_below u j v at ≡ placed_below t j v at)
      → placed_parts u j v at ≡ placed_parts t j v at
  same_from j l v at f = rw (s.tag j l, f (node t p j (omega arith)))

  same-below : (j : ℕ) → j < n → {e : Exp} {v : Val} → Reads e v → (at : ℕ) → Node t j e → placed_below u j v at ≡ placed_below t j v at
  same-below j l reads_void at b = refl
  same-below j l (reads_byte h) at b = refl
  same-below j l (reads_left {v = v} r) at (node_or x y e f) =
      rw (s.a j l) (same_from (a_at t j) (omega arith) v at (λ z. same-below (a_at t j) (omega arith) r at (subst (Node t (a_at t j)) e z)))
  same-below j l (reads_right {v = v} r) at (node_or x y e f) =
      rw (s.b j l) (same_from (b_at t j) (omega arith) v at (λ z. same-below (b_at t j) (omega arith) r at (subst (Node t (b_at t j)) f z)))
  same-below j l (reads_pair {v = v} {w = w} r q) at (node_seq x y e f) =
      let next : ℕ = at + length (flat v) in
      rw (s.a j l, s.b j l)
      (ap₂ ◌++◌
      (same_from (a_at t j) (omega arith) v at (λ z. same-below (a_at t j) (omega arith) r at (subst (Node t (a_at t j)) e z)))
      (same_from (b_at t j) (omega arith) w next (λ z. same-below (b_at t j) (omega arith) q next (subst (Node t (b_at t j)) f z))))
  same-below j l reads_none at b = refl
  same-below j l (reads_more {v = v} r h q) at (node_star x e) =
      rw (s.a j l)
      (ap₂ ◌++◌
      (same_from (a_at t j) (omega arith) v at (λ z. same-below (a_at t j) (omega arith) r at (subst (Node t (a_at t j)) e z)))
      (same-below j l q (at + length (flat v)) (node_star x e)))

pub up-to-tokens :
    (t : List ℕ) (k : ℕ) → Passes t → k < count t → (v : Val) → Reads (exp_of t k) v → (at : ℕ) → tokens_from (up_to t k) k v at ≡ tokens_from t k v at
up-to-tokens t k p l v r at =
    ap (filter has_size)
    (same_from (up-to-records t k) p (omega arith) k (omega arith) v at (same-below (up-to-records t k) p (omega arith) k (omega arith) r at))
