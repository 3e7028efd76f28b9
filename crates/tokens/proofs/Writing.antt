-- Bytes written one after another at an index of the buffer, or only counted.
-- Assumes nothing.
use Prim.Native.Nat.{ℕ, suc, ◌+◌, ◌≤◌, ◌<◌}
use mathlib.Core.Path.{◌≡◌, refl, ◌∙◌, ap}
use mathlib.Core.Bool.{Bool, true, false}
use mathlib.Core.List.{List, [], ◌∷◌, ◌++◌}
use native.Mathlib.Omega.{arith}
use lib.ListN.{length, set, length-set}
use Rattle.tokens.specs.Tokens.{Token, token_bytes}
use Rattle.reading.specs.Writing.{wrote}

-- the bytes of two token lists
pub bytes-append : (xs ys : List Token) → token_bytes (xs ++ ys) ≡ token_bytes xs ++ token_bytes ys
bytes-append [] ys = refl
bytes-append (x ∷ xs) ys = ap (λ (s : List ℕ). x.tag ∷ x.offset ∷ x.size ∷ s) (bytes-append xs ys)

-- the three bytes of one token: room for the second and the third, and what the stores leave
pub second-room : (out : List ℕ) (at tag : ℕ) → at + 3 ≤ length out → at + 1 < length (set out at tag)
second-room out at tag h = omega (arith, length-set out at tag)

pub third-room : (out : List ℕ) (at tag offset : ℕ) → at + 3 ≤ length out → at + 2 < length (set (set out at tag) (at + 1) offset)
third-room out at tag offset h = omega (arith, length-set out at tag, length-set (set out at tag) (at + 1) offset)

pub put-stored :
    (writing : Bool) (out new : List ℕ) (at tag offset size : ℕ) → writing ≡ true
    → new ≡ set (set (set out at tag) (at + 1) offset) (at + 2) size
    → new ≡ wrote writing out at (tag ∷ offset ∷ size ∷ [])
put-stored writing out new at tag offset size w e =
    let f : at + 1 ≡ suc at = omega arith in
    let g : at + 2 ≡ suc (suc at) = omega arith in
    rw w
    (e ∙ ap (λ (i : ℕ). set (set (set out at tag) i offset) (at + 2) size) f
    ∙ ap (λ (i : ℕ). set (set (set out at tag) (suc at) offset) i size) g)

pub put-counted :
    (writing : Bool) (out new : List ℕ) (at tag offset size : ℕ) → writing ≡ false → new ≡ out
    → new ≡ wrote writing out at (tag ∷ offset ∷ size ∷ [])
put-counted writing out new at tag offset size w e = rw w e
