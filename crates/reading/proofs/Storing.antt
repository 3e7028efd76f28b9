-- A reading's record stored byte by byte.
-- Assumes nothing.
use Prim.Native.Nat.{ℕ, suc, ◌+◌, ◌≤◌, ◌<◌}
use mathlib.Core.Path.{◌≡◌}
use mathlib.Core.List.{List}
use native.Mathlib.Omega.{arith}
use lib.ListN.{length, set, length-set}
use lib.Seq.{sets}
use Rattle.reading.specs.Codec.{record_size, record_with}

module _ (l : List ℕ) (at x y n k : ℕ) where
  pub room-2 : at + record_size ≤ length l → at + 1 < length (set l at x)
  room-2 h = omega (arith, length-set l at x)

  pub room-3 : at + record_size ≤ length l → at + 2 < length (set (set l at x) (at + 1) y)
  room-3 h = omega (arith, length-set l at x, length-set (set l at x) (at + 1) y)

  pub room-4 : at + record_size ≤ length l → at + 3 < length (set (set (set l at x) (at + 1) y) (at + 2) n)
  room-4 h = omega (arith, length-set l at x, length-set (set l at x) (at + 1) y, length-set (set (set l at x) (at + 1) y) (at + 2) n)

  pub stored_bytes :
      set (set (set (set l at x) (at + 1) y) (at + 2) n) (at + 3) k ≡ sets l at (record_with x y n k)
  stored_bytes =
      let e1 : at + 1 ≡ suc at = omega arith in
      let e2 : at + 2 ≡ suc (suc at) = omega arith in
      let e3 : at + 3 ≡ suc (suc (suc at)) = omega arith in
      rw (e1, e2, e3)
