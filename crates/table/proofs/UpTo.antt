-- A table lent up to one of its records: it passes where the whole table does, and its records' fields and expressions are the same.
-- Assumes nothing.
use Prim.Native.Nat.{ℕ, zero, suc, ◌+◌, ◌*◌, ◌%◌, ◌≤◌, ◌<◌}
use native.Mathlib.Omega.{arith}
use mathlib.Core.Path.{◌≡◌, refl}
use mathlib.Core.Bool.{false}
use mathlib.Core.List.{List}
use lib.ListN.{length}
use lib.Seq.{length-take-le, get_or-take}
use borrow.Author.Tests.{le-ltb, eq-eqb, ne_eqb}
use Rattle.table.specs.Records.{count, size_up_to, up_to, kind_at, a_at, b_at, tag_at}
use Rattle.table.specs.Faults.{bad_size, named_below, Passes}
use Rattle.table.specs.Expression.{below, exp_of}
use Rattle.table.proofs.Passing.{count-bound}

-- the first n records of table u are those of table t
pub record SameRecords (t u : List ℕ) (n : ℕ) : Type 0 where
  pub kind : (j : ℕ) → j < n → kind_at u j ≡ kind_at t j
  pub a : (j : ℕ) → j < n → a_at u j ≡ a_at t j
  pub b : (j : ℕ) → j < n → b_at u j ≡ b_at t j
  pub tag : (j : ℕ) → j < n → tag_at u j ≡ tag_at t j

module _ {t u : List ℕ} {n : ℕ} (s : SameRecords t u n) where
  same-below : (j : ℕ) → j ≤ n → below u j ≡ below t j
  unfolding below
  same-below zero l = refl
  same-below (suc j) l = rw (same-below j (omega arith), s.kind j l, s.a j l, s.b j l)

  same-exp : (j : ℕ) → j < n → exp_of u j ≡ exp_of t j
  unfolding exp_of
  same-exp j l = rw (same-below j (omega arith), s.kind j l, s.a j l, s.b j l)

  same-named : (j c : ℕ) → j ≤ n → named_below u j c ≡ named_below t j c
  same-named zero c l = refl
  same-named (suc j) c l = rw (s.kind j l, s.a j l, s.b j l, same-named j c (omega arith))

  -- a table of these records alone passes where the other does
  same-passes : Passes t → n ≤ count t → count u ≡ n → bad_size u ≡ false → Passes u
  same-passes p m e f =
      record {
        free_1 = f;
        free_2 = λ j l. rw (s.kind j (omega arith)) (p.free_2 j (omega arith));
        free_3 = λ j l. let h : j < n = omega arith in rw (s.kind j h, s.a j h, s.b j h) (p.free_3 j (omega arith));
        free_4 = λ j l. let h : j < n = omega arith in rw (s.kind j h, s.a j h, s.b j h) (p.free_4 j (omega arith));
        free_5 = λ j l. let h : j < n = omega arith in rw (s.kind j h, s.a j h, s.b j h) (p.free_5 j (omega arith));
        free_6 = λ j l.
            let h : j < n = omega arith in
            rw (s.kind j h, s.a j h, s.b j h, same-named j (a_at t j) (omega arith), same-named j (b_at t j) (omega arith))
            (p.free_6 j (omega arith));
      }

-- a table of 1 to 255 records has the right size
size_right : (t : List ℕ) (n : ℕ) → length t ≡ 4 * n → 1 ≤ n → n ≤ 255 → bad_size t ≡ false
size_right t n e l m =
    rw (ne_eqb (length t) 0 (λ (z : length t ≡ 0). omega arith), le-ltb 1020 (length t) (omega arith), eq-eqb (length t % 4) 0 (omega arith))

-- the fields, and so the expressions, of records 0 to k
pub up-to-records : (t : List ℕ) (k : ℕ) → SameRecords t (up_to t k) (k + 1)
up-to-records t k =
    record {
      kind = λ j l. get_or-take (size_up_to k) t (4 * j) 0 (omega arith);
      a = λ j l. get_or-take (size_up_to k) t (4 * j + 1) 0 (omega arith);
      b = λ j l. get_or-take (size_up_to k) t (4 * j + 2) 0 (omega arith);
      tag = λ j l. get_or-take (size_up_to k) t (4 * j + 3) 0 (omega arith);
    }

pub up-to-exp : (t : List ℕ) (k j : ℕ) → j ≤ k → exp_of (up_to t k) j ≡ exp_of t j
up-to-exp t k j l = same-exp (up-to-records t k) j (omega arith)

-- records 0 to k are a table that passes
pub up-to-passes : (t : List ℕ) (k : ℕ) → Passes t → k < count t → Passes (up_to t k) × (count (up_to t k) ≡ k + 1)
up-to-passes t k p l = (
  same-passes (up-to-records t k) p (omega arith) counted (size_right (up_to t k) (k + 1) size (omega arith) (omega (arith, count-bound t p))),
  counted,
)
  where
    size : length (up_to t k) ≡ 4 * (k + 1)
    size = length-take-le (size_up_to k) t (omega (arith, count-bound t p))

    counted : count (up_to t k) ≡ k + 1
    counted = omega (arith, size)
