-- A record of a table that passes, by its kind: its expression, whose children's records stand below it.
-- Assumes nothing.
use Prim.Native.Nat.{ℕ, zero, suc, ◌<◌}
use native.Mathlib.Omega.{arith}
use mathlib.Core.Path.{◌≡◌, refl}
use mathlib.Core.Logic.{inl, inr}
use mathlib.Core.List.{List}
use Rattle.posix.specs.Expressions.{Exp, nothing, empty, letter, or, seq, star}
use Rattle.table.specs.Records.{count, kind_at, a_at, b_at}
use Rattle.table.specs.Faults.{Passes}
use Rattle.table.specs.Expression.{exp_of}
use Rattle.table.specs.Letters.{byte_set_at}
use Rattle.table.proofs.Laws.{exp-nothing, exp-empty, exp-letter, exp-or, exp-seq, exp-star}
use Rattle.table.proofs.Passing.{letter_at, kind-small, a-below, b-below, star-a-below}

-- record k's expression, by the expressions of the records that it names
pub data Node (t : List ℕ) (k : ℕ) : Exp → Type 0 where
  node_nothing : Node t k nothing
  node_empty : Node t k empty
  node_letter : Node t k (letter (byte_set_at t k))
  node_or : {r1 r2 : Exp} → a_at t k < k → b_at t k < k → exp_of t (a_at t k) ≡ r1 → exp_of t (b_at t k) ≡ r2 → Node t k (or r1 r2)
  node_seq : {r1 r2 : Exp} → a_at t k < k → b_at t k < k → exp_of t (a_at t k) ≡ r1 → exp_of t (b_at t k) ≡ r2 → Node t k (seq r1 r2)
  node_star : {r : Exp} → a_at t k < k → exp_of t (a_at t k) ≡ r → Node t k (star r)

pub node : (t : List ℕ) → Passes t → (k : ℕ) → k < count t → Node t k (exp_of t k)
node t p k l = go (kind_at t k) refl
  where
    go : (n : ℕ) → kind_at t k ≡ n → Node t k (exp_of t k)
    go zero e = rw (exp-nothing t k e) node_nothing
    go (suc zero) e = rw (exp-empty t k e) node_empty
    go (suc (suc zero)) e = rw (exp-letter t k (letter_at t k refl (inl e))) node_letter
    go (suc (suc (suc zero))) e =
        let x : a_at t k < k = a-below t p k l (inl e) in
        let y : b_at t k < k = b-below t p k l (inl e) in
        rw (exp-or t k e x y) (node_or x y refl refl)
    go (suc (suc (suc (suc zero)))) e =
        let x : a_at t k < k = a-below t p k l (inr e) in
        let y : b_at t k < k = b-below t p k l (inr e) in
        rw (exp-seq t k e x y) (node_seq x y refl refl)
    go (suc (suc (suc (suc (suc zero))))) e =
        let x : a_at t k < k = star-a-below t p k l e in
        rw (exp-star t k e x) (node_star x refl)
    go (suc (suc (suc (suc (suc (suc zero)))))) e = rw (exp-letter t k (letter_at t k refl (inr e))) node_letter
    go (suc (suc (suc (suc (suc (suc (suc n))))))) e = absurd (omega (arith, kind-small t p k l))
