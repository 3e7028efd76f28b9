-- Bytes written one behind the other, and at the front of a buffer: the laws of every function that writes at a moving position.
-- Assumes nothing.
use Prim.Native.Nat.{ℕ, suc, ◌+◌, ◌≤◌}
use mathlib.Core.Path.{◌≡◌, refl, ◌∙◌, ap}
use mathlib.Core.Bool.{Bool, true, false}
use mathlib.Core.List.{List, [], ◌∷◌, ◌++◌}
use native.Mathlib.Omega.{arith}
use lib.ListN.{length, drop, set}
use lib.Seq.{sets, length-sets, sets-eq}
use Rattle.reading.specs.Writing.{wrote}

-- bytes behind bytes are the two lists joined
pub sets_more : (xs ys out : List ℕ) (to next : ℕ) → next ≡ to + length xs → sets (sets out to xs) next ys ≡ sets out to (xs ++ ys)
sets_more [] ys out to next e = let f : next ≡ to = omega arith in ap (λ (i : ℕ). sets out i ys) f
sets_more (x ∷ xs) ys out to next e = sets_more xs ys (set out to x) (suc to) next (omega arith)

pub wrote-more :
    (writing : Bool) (xs ys out : List ℕ) (to next : ℕ) → next ≡ to + length xs
    → wrote writing (wrote writing out to xs) next ys ≡ wrote writing out to (xs ++ ys)
wrote-more true xs ys out to next e = sets_more xs ys out to next e
wrote-more false xs ys out to next e = refl

-- no bytes
pub wrote_none : (writing : Bool) (out : List ℕ) (to : ℕ) → wrote writing out to [] ≡ out
wrote_none true out to = refl
wrote_none false out to = refl

-- the buffer keeps its length
pub wrote-length : (writing : Bool) (out : List ℕ) (to : ℕ) (xs : List ℕ) → length (wrote writing out to xs) ≡ length out
wrote-length true out to xs = length-sets out to xs
wrote-length false out to xs = refl

-- bytes at the front of the buffer, with its later bytes left
pub sets-front : (xs out : List ℕ) → length xs ≤ length out → sets out 0 xs ≡ xs ++ drop (length xs) out
sets-front xs out h =
    let e : 0 + length xs ≡ length xs = omega arith in
    sets-eq xs out 0 (omega arith) ∙ ap (λ (i : ℕ). xs ++ drop i out) e
