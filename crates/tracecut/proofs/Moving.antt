-- No more lines end than bytes are taken.
-- Assumes nothing.
use Prim.Native.Nat.{ℕ, ◌+◌, ◌-◌, ◌≤◌}
use mathlib.Core.List.{List}
use native.Mathlib.Omega.{arith}
use lib.ListN.{length, take, drop, length-drop}
use lib.Seq.{length-take-le}
use Rattle.stream.specs.Blocks.{Took}
use Rattle.stream.proofs.Whole.{took-few}

-- a part of a block is taken: the lines ended and the bytes left are no more than before
pub onward :
    {t u : List ℕ} {n : ℕ} {block out u' : List ℕ} {n' taken written : ℕ} {final : List ℕ}
    → Took t u n block out u' n' taken written final → (m : ℕ) → n + length block ≤ m → n' + length (take (length block - taken) (drop taken block)) ≤ m
onward {block = block} {taken = taken} x m h =
    omega (arith, took-few x, x.within, length-take-le (length block - taken) (drop taken block) (omega (arith, length-drop taken block)))
