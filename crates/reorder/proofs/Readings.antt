-- The bytes that Read writes by a table with alternatives exchanged that share no line: those by the first table, with Left and Right exchanged at the
-- records whose fields are.
-- Assumes nothing.
use Prim.Native.Nat.{ℕ, suc, ◌<◌}
use native.Mathlib.Omega.{arith}
use mathlib.Core.Path.{◌≡◌, refl, sym, ◌∙◌, ap, ap₂}
use mathlib.Core.Bool.{Bool, true, false, cond}
use mathlib.Core.List.{List, [], ◌++◌, append_assoc, append-nil}
use Rattle.posix.specs.Expressions.{Exp}
use Rattle.posix.specs.Values.{Val, void, byte, left, right, pair, none, more, Reads, reads_void, reads_byte, reads_left, reads_right, reads_pair, reads_none, reads_more}
use Rattle.table.specs.Records.{count, a_at, b_at}
use Rattle.table.specs.Faults.{Passes}
use Rattle.table.specs.Expression.{exp_of}
use Rattle.reading.specs.Codec.{Record, record_bytes, kind_of, argument_of, head_of, encode_below, encode}
use Rattle.reorder.specs.Readings.{other_side, mirror, mirrored}
use Rattle.reorder.proofs.Exchanging.{Exchanged}
use Rattle.reorder.proofs.Checking.{same-a, same-b, crossed-a, crossed-b}
use Rattle.reorder.proofs.Languages.{Twin, twin-at, twin-or, twin-crossed, twin-seq, twin_star, twin}
use Rattle.reorder.proofs.Values.{moved, moved-flat}

cond_same : (y : Bool) (n : ℕ) → cond y n n ≡ n
cond_same true n = refl
cond_same false n = refl

argument-either : (y : Bool) (v : Val) → (argument_of (cond y (right v) (left v)) ≡ 0) × (argument_of (cond y (left v) (right v)) ≡ 0)
argument-either true v = (refl, refl)
argument-either false v = (refl, refl)

-- the argument of a value's record
moved-argument : (x : ℕ → Bool) (t : List ℕ) (j : ℕ) (v : Val) → argument_of (moved x t j v) ≡ argument_of v
moved-argument x t j void = refl
moved-argument x t j (byte c) = refl
moved-argument x t j (left v) = (argument-either (x j) (moved x t (a_at t j) v)).0
moved-argument x t j (right v) = (argument-either (x j) (moved x t (b_at t j) v)).1
moved-argument x t j (pair v w) = refl
moved-argument x t j none = refl
moved-argument x t j (more v w) = ap suc (moved-argument x t j w)

module _ {x : ℕ → Bool} {t u : List ℕ} (e : Exchanged x t u) (p : Passes t) where
  -- its kind
  mirror-kind : (j : ℕ) {r r' : Exp} {v : Val} → Reads r v → Twin x t u j r r' → cond (x j) (other_side (kind_of v)) (kind_of v) ≡ kind_of (moved x t j v)
  mirror-kind j reads_void w = cond_same (x j) 0
  mirror-kind j (reads_byte h) w = cond_same (x j) 1
  mirror-kind j (reads_left q) (twin-or g la lb ta tb ua ub) = rw g
  mirror-kind j (reads_left q) (twin-crossed g la lb ta tb ua ub) = rw g
  mirror-kind j (reads_right q) (twin-or g la lb ta tb ua ub) = rw g
  mirror-kind j (reads_right q) (twin-crossed g la lb ta tb ua ub) = rw g
  mirror-kind j (reads_pair q q') w = cond_same (x j) 4
  mirror-kind j reads_none w = cond_same (x j) 5
  mirror-kind j (reads_more q h q') w = cond_same (x j) 5

  mirror-head : (j : ℕ) {r r' : Exp} {v : Val} → Reads r v → Twin x t u j r r' → mirror x (head_of j v) ≡ head_of j (moved x t j v)
  mirror-head j {v = v} q w = rw (mirror-kind j q w, moved-argument x t j v, moved-flat x t j v)

  -- a part's records, by those below its own
  mirror-from :
      (j : ℕ) → j < count t → {r r' : Exp} {v : Val} → exp_of t j ≡ r → exp_of u j ≡ r' → Reads r v → (rest : List ℕ)
      → (Twin x t u j r r' → mirrored x (encode_below t j v ++ rest) ≡ encode_below u j (moved x t j v) ++ mirrored x rest)
      → mirrored x (encode t j v ++ rest) ≡ encode u j (moved x t j v) ++ mirrored x rest
  mirror-from j l {r} {r'} y z q rest f =
      let w : Twin x t u j r r' = twin-at y z (twin e p j l) in
      ap₂ (λ (h : Record) (bs : List ℕ). record_bytes h ++ bs) (mirror-head j q w) (f w)

  mirror-below :
      (j : ℕ) → j < count t → {r r' : Exp} {v : Val} → Reads r v → Twin x t u j r r' → (rest : List ℕ)
      → mirrored x (encode_below t j v ++ rest) ≡ encode_below u j (moved x t j v) ++ mirrored x rest
  mirror-below j l reads_void w rest = refl
  mirror-below j l (reads_byte h) w rest = refl
  mirror-below j l (reads_left q) (twin-or g la lb ta tb ua ub) rest =
      let m : a_at t j < count t = omega arith in
      rw (g, same-a e j g) (mirror-from (a_at t j) m ta ua q rest (λ w. mirror-below (a_at t j) m q w rest))
  mirror-below j l (reads_left q) (twin-crossed g la lb ta tb ua ub) rest =
      let m : a_at t j < count t = omega arith in
      rw (g, crossed-b e j g) (mirror-from (a_at t j) m ta ua q rest (λ w. mirror-below (a_at t j) m q w rest))
  mirror-below j l (reads_right q) (twin-or g la lb ta tb ua ub) rest =
      let n : b_at t j < count t = omega arith in
      rw (g, same-b e j g) (mirror-from (b_at t j) n tb ub q rest (λ w. mirror-below (b_at t j) n q w rest))
  mirror-below j l (reads_right q) (twin-crossed g la lb ta tb ua ub) rest =
      let n : b_at t j < count t = omega arith in
      rw (g, crossed-a e j g) (mirror-from (b_at t j) n tb ub q rest (λ w. mirror-below (b_at t j) n q w rest))
  mirror-below j l (reads_pair {v = v} {w = v'} q q') (twin-seq g la lb ta tb ua ub) rest =
      let m : a_at t j < count t = omega arith in
      let n : b_at t j < count t = omega arith in
      let second : List ℕ = encode t (b_at t j) v' ++ rest in
      rw (same-a e j g, same-b e j g)
      (ap (mirrored x) (append_assoc (encode t (a_at t j) v) (encode t (b_at t j) v') rest)
      ∙ mirror-from (a_at t j) m ta ua q second (λ w. mirror-below (a_at t j) m q w second)
      ∙ ap (λ (bs : List ℕ). encode u (a_at t j) (moved x t (a_at t j) v) ++ bs)
      (mirror-from (b_at t j) n tb ub q' rest (λ w. mirror-below (b_at t j) n q' w rest))
      ∙ sym (append_assoc (encode u (a_at t j) (moved x t (a_at t j) v)) (encode u (b_at t j) (moved x t (b_at t j) v')) (mirrored x rest)))
  mirror-below j l reads_none w rest = refl
  mirror-below j l (reads_more {v = v} {w = v'} q h q') (twin_star g la ta ua) rest =
      let m : a_at t j < count t = omega arith in
      let second : List ℕ = encode_below t j v' ++ rest in
      rw (same-a e j g)
      (ap (mirrored x) (append_assoc (encode t (a_at t j) v) (encode_below t j v') rest)
      ∙ mirror-from (a_at t j) m ta ua q second (λ w. mirror-below (a_at t j) m q w second)
      ∙ ap (λ (bs : List ℕ). encode u (a_at t j) (moved x t (a_at t j) v) ++ bs) (mirror-below j l q' (twin_star g la ta ua) rest)
      ∙ sym (append_assoc (encode u (a_at t j) (moved x t (a_at t j) v)) (encode_below u j (moved x t j v')) (mirrored x rest)))

  -- the whole reading
  pub moved-encode : (j : ℕ) → j < count t → {v : Val} → Reads (exp_of t j) v → encode u j (moved x t j v) ≡ mirrored x (encode t j v)
  moved-encode j l {v} q =
      sym (append-nil (encode u j (moved x t j v)))
      ∙ sym (mirror-from j l refl refl q [] (λ w. mirror-below j l q w []))
      ∙ ap (mirrored x) (append-nil (encode t j v))
