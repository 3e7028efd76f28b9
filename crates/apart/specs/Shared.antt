-- What two expressions share, in one byte: bit 128, both spell the empty line; bit 1, lines of both may start with a byte that is asked for;
-- bit 2, lines of both may end with it.
-- Assumes nothing.
use Rattle.std.specs.Prelude.{ℕ, zero, suc, ◌≡◌, Bool, true, false, not, ◌&&◌, ◌||◌, []}
use Rattle.posix.specs.Expressions.{Exp}
use Rattle.posix.specs.Spells.{spells}
use Rattle.edges.specs.Edges.{edge}
use Rattle.edges.specs.Bits.{bits}
use Rattle.reorder.specs.Tests.{none_shared}

-- by byte c
abbrev pub shared_bits : Exp → Exp → ℕ → ℕ
shared_bits r1 r2 c = bits (spells r1 [] && spells r2 []) (edge false r1 c && edge false r2 c) (edge true r1 c && edge true r2 c)

-- by some byte below n
unfoldable pub shared_below : Exp → Exp → ℕ → ℕ
shared_below r1 r2 zero = 0
shared_below r1 r2 (suc n) =
    bits (spells r1 [] && spells r2 []) (not (none_shared false r1 r2 (suc n))) (not (none_shared true r1 r2 (suc n)))

-- r is whether the byte tells the two apart: the empty line is not shared, and either no first byte is or no last byte
abbrev pub Told : ℕ → Bool → Type 0
Told shared r = (e f l : Bool) → shared ≡ bits e (not f) (not l) → r ≡ (not e && (f || l))
