-- A byte against a letter's bounds, one law for each way in which the code tells whether the letter holds it; and whether it holds some byte.
-- Assumes nothing.
use Prim.Native.Nat.{ℕ, ◌≤◌, ◌<◌}
use mathlib.Core.Path.{◌≡◌, refl, sym}
use mathlib.Core.Bool.{Bool, true, false, ◌&&◌}
use lib.Dec.{leb, ltb}
use borrow.Author.Tests.{le-leb, lt-leb, lt-ltb, le-ltb, ne_eqb}
use Rattle.posix.specs.Expressions.{holds}
use Rattle.posix.specs.Extends.{holds_some}
use Rattle.table.specs.Letters.{byte_set}

and-true : (x : Bool) → (x && true) ≡ x
and-true true = refl
and-true false = refl

module _ (kind a b c : ℕ) (byte : c < 256) where
  pub other-below : kind ≡ 6 → c < a → ltb c a ≡ holds (byte_set kind a b) c
  other-below e l = rw (e, lt-ltb c 256 byte, lt-ltb c a l)

  pub other-not-below : kind ≡ 6 → a ≤ c → ltb b c ≡ holds (byte_set kind a b) c
  other-not-below e l = rw (e, lt-ltb c 256 byte, le-ltb c a l)

  pub range-below : ¬ (kind ≡ 6) → c < a → leb a c ≡ holds (byte_set kind a b) c
  range-below n l = rw (ne_eqb kind 6 n, lt-ltb c 256 byte, lt-leb a c l)

  pub range-not-below : ¬ (kind ≡ 6) → a ≤ c → leb c b ≡ holds (byte_set kind a b) c
  range-not-below n l = rw (ne_eqb kind 6 n, lt-ltb c 256 byte, le-leb a c l)

-- the same of whether the letter holds some byte
module _ (kind a b : ℕ) where
  pub other-some : kind ≡ 6 → 0 < a → ltb 0 a ≡ holds_some (byte_set kind a b)
  other-some e l = rw (e, lt-ltb 0 a l)

  pub other-from-0 : kind ≡ 6 → a ≤ 0 → ltb b 255 ≡ holds_some (byte_set kind a b)
  other-from-0 e l = rw (e, le-ltb 0 a l)

  pub range-some : ¬ (kind ≡ 6) → a < 256 → leb a b ≡ holds_some (byte_set kind a b)
  range-some n byte = rw (ne_eqb kind 6 n, lt-ltb a 256 byte) (sym (and-true (leb a b)))
