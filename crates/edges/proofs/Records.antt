-- The byte of a record from those of its children, one law for each kind; and the bytes of the records below the next one.
-- Assumes nothing.
use Prim.Native.Nat.{ℕ, suc, ◌+◌, ◌≤◌, ◌<◌}
use native.Mathlib.Omega.{arith}
use native.Mathlib.Nat.{eq-or-lt_of_le}
use mathlib.Core.Path.{◌≡◌, sym, ◌∙◌}
use mathlib.Core.Logic.{⊎_elim}
use mathlib.Core.Bool.{true, false}
use mathlib.Core.List.{List, []}
use lib.Bits.{bit_or, bit_and}
use lib.ListN.{length, get_or, set, length-set}
use lib.Seq.{get_or-set_same, get_or-set_other}
use Rattle.posix.specs.Expressions.{holds}
use Rattle.posix.specs.Spells.{spells}
use Rattle.table.specs.Records.{kind_at, a_at, b_at, is_letter}
use Rattle.table.specs.Letters.{byte_set}
use Rattle.table.specs.Expression.{exp_of}
use Rattle.table.proofs.Laws.{exp-nothing, exp-empty, exp-letter, exp-or, exp-seq, exp-star}
use Rattle.edges.specs.Edges.{edge}
use Rattle.edges.specs.Bits.{bits, bits_at, SeqBits, Found, Near}
use Rattle.edges.proofs.Bits.{or-bits, star-bits, no_start, no_end}

module _ (t : List ℕ) (first last k : ℕ) where
  pub nothing-bits : kind_at t k ≡ 0 → 0 ≡ bits_at t first last k
  nothing-bits z = rw (exp-nothing t k z)

  pub empty-bits : kind_at t k ≡ 1 → 128 ≡ bits_at t first last k
  empty-bits z = rw (exp-empty t k z)

  pub letter-found : (kind a b : ℕ) → kind ≡ kind_at t k → a ≡ a_at t k → b ≡ b_at t k → is_letter t k ≡ true → (r : ℕ)
      → r ≡ bits false (holds (byte_set kind a b) first) (holds (byte_set kind a b) last)
      → r ≡ bits_at t first last k
  letter-found kind a b ek ea eb z r e = rw (exp-letter t k z) (rw (ek, ea, eb) at e)

  -- a line that may not start, or end, so
  pub start-missing : (r : ℕ) → r ≡ bits_at t first last k → bit_and r 1 ≡ 0 → edge false (exp_of t k) first ≡ false
  start-missing r e z = no_start (spells (exp_of t k) []) (edge false (exp_of t k) first) (edge true (exp_of t k) last) (rw e at z)

  pub end-missing : (r : ℕ) → r ≡ bits_at t first last k → bit_and r 2 ≡ 0 → edge true (exp_of t k) last ≡ false
  end-missing r e z = no_end (spells (exp_of t k) []) (edge false (exp_of t k) first) (edge true (exp_of t k) last) (rw e at z)

module _ (t : List ℕ) (first last k : ℕ) (found : List ℕ) (w : Found t first last k found) where
  module _ (a b : ℕ) (ea : a ≡ a_at t k) (eb : b ≡ b_at t k) (la : a_at t k < k) where
    at_a : get_or found a 0 ≡ bits_at t first last (a_at t k)
    at_a = rw ea (w.right (a_at t k) la)

    pub star-found : kind_at t k ≡ 5 → bit_or (get_or found a 0) 128 ≡ bits_at t first last k
    star-found z =
        rw (exp-star t k z la)
        (rw at_a (star-bits (spells (exp_of t (a_at t k)) []) (edge false (exp_of t (a_at t k)) first) (edge true (exp_of t (a_at t k)) last)))

    module _ (lb : b_at t k < k) where
      at_b : get_or found b 0 ≡ bits_at t first last (b_at t k)
      at_b = rw eb (w.right (b_at t k) lb)

      pub or-found : kind_at t k ≡ 3 → bit_or (get_or found a 0) (get_or found b 0) ≡ bits_at t first last k
      or-found z =
          rw (exp-or t k z la lb)
          (rw (at_a, at_b)
          (or-bits (spells (exp_of t (a_at t k)) []) (edge false (exp_of t (a_at t k)) first) (edge true (exp_of t (a_at t k)) last) (spells (exp_of t (b_at t k)) []) (edge false (exp_of t (b_at t k)) first) (edge true (exp_of t (b_at t k)) last)))

      pub seq-found : kind_at t k ≡ 4 → (r : ℕ) → SeqBits (get_or found a 0) (get_or found b 0) r → r ≡ bits_at t first last k
      seq-found z r h =
          rw (exp-seq t k z la lb)
          (h (spells (exp_of t (a_at t k)) []) (edge false (exp_of t (a_at t k)) first) (edge true (exp_of t (a_at t k)) last) (spells (exp_of t (b_at t k)) []) (edge false (exp_of t (b_at t k)) first) (edge true (exp_of t (b_at t k)) last) at_a at_b)

-- record j's byte is stored
pub found-next :
    (t : List ℕ) (first last j : ℕ) (found : List ℕ) (r : ℕ) → j < 256 → Found t first last j found → r ≡ bits_at t first last j
    → Found t first last (j + 1) (set found j r)
found-next t first last j found r l w e = record { long = length-set found j r ∙ w.long; right = right }
  where
    right : (i : ℕ) → i < j + 1 → get_or (set found j r) i 0 ≡ bits_at t first last i
    right i m =
        let m' : suc i ≤ suc j = omega arith in
        ⊎_elim
        (λ (q : suc i ≡ suc j).
        let same : i ≡ j = omega arith in
        rw same (get_or-set_same found j r 0 (omega (arith, w.long)) ∙ e))
        (λ (q : suc i < suc j). get_or-set_other found j i r 0 (omega arith) ∙ w.right i (omega arith))
        (eq-or-lt_of_le m')

-- it is the one below the next record
pub near_next : (j : ℕ) (found : List ℕ) (r : ℕ) → j < length found → Near (set found j r) (j + 1) r
near_next j found r l i e =
    let same : i ≡ j = omega arith in
    rw same (sym (get_or-set_same found j r 0 l))
