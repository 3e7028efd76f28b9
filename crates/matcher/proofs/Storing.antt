-- Bytes stored one after the other: room for the parts, and the parts joined.
-- Assumes nothing.
use Prim.Native.Nat.{ℕ, ◌+◌, ◌≤◌}
use native.Mathlib.Omega.{arith}
use mathlib.Core.Path.{◌≡◌, refl, sym, ◌∙◌, ap}
use mathlib.Core.Bool.{Bool, true, false}
use mathlib.Core.List.{List, [], ◌++◌}
use lib.ListN.{length, length-append}
use lib.Seq.{sets}
use Rattle.reading.specs.Codec.{record_size, record_with}
use Rattle.reading.specs.Writing.{wrote}
use Rattle.reading.proofs.Writing.{wrote-more, wrote-length}
use Rattle.matcher.specs.Walks.{Room, Stored}

-- nothing is stored yet
pub stored-none : (o : List ℕ) (at : ℕ) (b : Bool) → Stored [] o at b o at
stored-none o at true = record { next = omega arith; buffer = refl }
stored-none o at false = record { next = omega arith; buffer = refl }

module _ (x y n k : ℕ) (o : List ℕ) (at : ℕ) {b : Bool} where
  -- there is room for a record that is to be stored
  pub record-room : b ≡ true → Room (record_with x y n k) o at b → at + record_size ≤ length o
  record-room e r = omega (arith, r.inside e)

  -- one record is stored, or counted
  pub stored-record : b ≡ true → {o1 : List ℕ} → o1 ≡ sets o at (record_with x y n k) → Stored (record_with x y n k) o at b o1 (at + record_size)
  stored-record e f = record { next = refl; buffer = f ∙ ap (λ (z : Bool). wrote z o at (record_with x y n k)) (sym e) }

  pub counted-record : b ≡ false → {o1 : List ℕ} → o1 ≡ o → Stored (record_with x y n k) o at b o1 (at + record_size)
  counted-record e f = record { next = refl; buffer = f ∙ ap (λ (z : Bool). wrote z o at (record_with x y n k)) (sym e) }

module _ {xs o : List ℕ} {at : ℕ} {b : Bool} {o1 : List ℕ} {n : ℕ} (p : Stored xs o at b o1 n) where
  -- the buffer keeps its length
  pub stored-length : length o1 ≡ length o
  stored-length = ap length p.buffer ∙ wrote-length b o at xs

  -- bytes stored behind others
  pub stored-join : {ys o2 : List ℕ} {m : ℕ} → Stored ys o1 n b o2 m → Stored (xs ++ ys) o at b o2 m
  stored-join {ys} {o2} {m} q =
      record {
        next = omega (arith, p.next, q.next, length-append xs ys);
        buffer =
            q.buffer ∙ ap (λ (u : List ℕ). wrote b u n ys) p.buffer ∙ wrote-more b xs ys o at n p.next;
      }

-- room for the first of two parts, and for the second behind it
pub room-first : (xs ys : List ℕ) {o : List ℕ} {at : ℕ} {b : Bool} → Room (xs ++ ys) o at b → Room xs o at b
room-first xs ys r =
    record {
      small = omega (arith, r.small, length-append xs ys);
      inside = λ e. omega (arith, r.inside e, length-append xs ys);
    }

pub room-rest :
    (xs ys : List ℕ) {o : List ℕ} {at : ℕ} {b : Bool} {o1 : List ℕ} {n : ℕ} → Room (xs ++ ys) o at b → Stored xs o at b o1 n → Room ys o1 n b
room-rest xs ys r p =
    record {
      small = omega (arith, r.small, p.next, length-append xs ys);
      inside = λ e. omega (arith, r.inside e, p.next, length-append xs ys, stored-length p);
    }
