-- What `|`, `&` and a mask do to the three bits of a record.
-- Assumes nothing.
use Prim.Native.Nat.{ℕ, ◌*◌, ◌/◌, ◌^◌}
use native.Mathlib.Omega.{arith}
use mathlib.Core.Path.{◌≡◌, refl}
use mathlib.Core.Bool.{Bool, true, false, ◌&&◌, ◌||◌}
use lib.Bits.{bit_or, bit_and}
use Rattle.edges.specs.Edges.{edge_of_seq}
use Rattle.edges.specs.Bits.{bits, SeqBits}

pub or-bits :
    (e1 f1 l1 e2 f2 l2 : Bool) → bit_or (bits e1 f1 l1) (bits e2 f2 l2) ≡ bits (e1 || e2) (f1 || f2) (l1 || l2)
or-bits false false false false false false = refl
or-bits false false false false false true = refl
or-bits false false false false true false = refl
or-bits false false false false true true = refl
or-bits false false false true false false = refl
or-bits false false false true false true = refl
or-bits false false false true true false = refl
or-bits false false false true true true = refl
or-bits false false true false false false = refl
or-bits false false true false false true = refl
or-bits false false true false true false = refl
or-bits false false true false true true = refl
or-bits false false true true false false = refl
or-bits false false true true false true = refl
or-bits false false true true true false = refl
or-bits false false true true true true = refl
or-bits false true false false false false = refl
or-bits false true false false false true = refl
or-bits false true false false true false = refl
or-bits false true false false true true = refl
or-bits false true false true false false = refl
or-bits false true false true false true = refl
or-bits false true false true true false = refl
or-bits false true false true true true = refl
or-bits false true true false false false = refl
or-bits false true true false false true = refl
or-bits false true true false true false = refl
or-bits false true true false true true = refl
or-bits false true true true false false = refl
or-bits false true true true false true = refl
or-bits false true true true true false = refl
or-bits false true true true true true = refl
or-bits true false false false false false = refl
or-bits true false false false false true = refl
or-bits true false false false true false = refl
or-bits true false false false true true = refl
or-bits true false false true false false = refl
or-bits true false false true false true = refl
or-bits true false false true true false = refl
or-bits true false false true true true = refl
or-bits true false true false false false = refl
or-bits true false true false false true = refl
or-bits true false true false true false = refl
or-bits true false true false true true = refl
or-bits true false true true false false = refl
or-bits true false true true false true = refl
or-bits true false true true true false = refl
or-bits true false true true true true = refl
or-bits true true false false false false = refl
or-bits true true false false false true = refl
or-bits true true false false true false = refl
or-bits true true false false true true = refl
or-bits true true false true false false = refl
or-bits true true false true false true = refl
or-bits true true false true true false = refl
or-bits true true false true true true = refl
or-bits true true true false false false = refl
or-bits true true true false false true = refl
or-bits true true true false true false = refl
or-bits true true true false true true = refl
or-bits true true true true false false = refl
or-bits true true true true false true = refl
or-bits true true true true true false = refl
or-bits true true true true true true = refl

-- what `seq_bits` computes
abbrev pub seq_bits : (a b : ℕ) → ℕ
seq_bits a b =
    bit_or (bit_and a (bit_or (b / 2 ^ 7 * 255) 1)) (bit_and b (bit_or (a / 2 ^ 7 * 255) 2))

seq-bits :
    (e1 f1 l1 e2 f2 l2 : Bool)
    → seq_bits (bits e1 f1 l1) (bits e2 f2 l2) ≡ bits (e1 && e2) (edge_of_seq f1 e1 f2) (edge_of_seq l2 e2 l1)
seq-bits false false false false false false = refl
seq-bits false false false false false true = refl
seq-bits false false false false true false = refl
seq-bits false false false false true true = refl
seq-bits false false false true false false = refl
seq-bits false false false true false true = refl
seq-bits false false false true true false = refl
seq-bits false false false true true true = refl
seq-bits false false true false false false = refl
seq-bits false false true false false true = refl
seq-bits false false true false true false = refl
seq-bits false false true false true true = refl
seq-bits false false true true false false = refl
seq-bits false false true true false true = refl
seq-bits false false true true true false = refl
seq-bits false false true true true true = refl
seq-bits false true false false false false = refl
seq-bits false true false false false true = refl
seq-bits false true false false true false = refl
seq-bits false true false false true true = refl
seq-bits false true false true false false = refl
seq-bits false true false true false true = refl
seq-bits false true false true true false = refl
seq-bits false true false true true true = refl
seq-bits false true true false false false = refl
seq-bits false true true false false true = refl
seq-bits false true true false true false = refl
seq-bits false true true false true true = refl
seq-bits false true true true false false = refl
seq-bits false true true true false true = refl
seq-bits false true true true true false = refl
seq-bits false true true true true true = refl
seq-bits true false false false false false = refl
seq-bits true false false false false true = refl
seq-bits true false false false true false = refl
seq-bits true false false false true true = refl
seq-bits true false false true false false = refl
seq-bits true false false true false true = refl
seq-bits true false false true true false = refl
seq-bits true false false true true true = refl
seq-bits true false true false false false = refl
seq-bits true false true false false true = refl
seq-bits true false true false true false = refl
seq-bits true false true false true true = refl
seq-bits true false true true false false = refl
seq-bits true false true true false true = refl
seq-bits true false true true true false = refl
seq-bits true false true true true true = refl
seq-bits true true false false false false = refl
seq-bits true true false false false true = refl
seq-bits true true false false true false = refl
seq-bits true true false false true true = refl
seq-bits true true false true false false = refl
seq-bits true true false true false true = refl
seq-bits true true false true true false = refl
seq-bits true true false true true true = refl
seq-bits true true true false false false = refl
seq-bits true true true false false true = refl
seq-bits true true true false true false = refl
seq-bits true true true false true true = refl
seq-bits true true true true false false = refl
seq-bits true true true true false true = refl
seq-bits true true true true true false = refl
seq-bits true true true true true true = refl

pub seq-right : (a b : ℕ) → SeqBits a b (seq_bits a b)
seq-right a b e1 f1 l1 e2 f2 l2 m n = rw (m, n) (seq-bits e1 f1 l1 e2 f2 l2)

pub star-bits : (e f l : Bool) → bit_or (bits e f l) 128 ≡ bits true f l
star-bits false false false = refl
star-bits false false true = refl
star-bits false true false = refl
star-bits false true true = refl
star-bits true false false = refl
star-bits true false true = refl
star-bits true true false = refl
star-bits true true true = refl

-- bits 1 and 2
pub no_start : (e f l : Bool) → bit_and (bits e f l) 1 ≡ 0 → f ≡ false
no_start false false false z = refl
no_start false false true z = refl
no_start false true false z = absurd (let o : ◌≡◌ {A = ℕ} 1 0 = z in omega arith)
no_start false true true z = absurd (let o : ◌≡◌ {A = ℕ} 1 0 = z in omega arith)
no_start true false false z = refl
no_start true false true z = refl
no_start true true false z = absurd (let o : ◌≡◌ {A = ℕ} 1 0 = z in omega arith)
no_start true true true z = absurd (let o : ◌≡◌ {A = ℕ} 1 0 = z in omega arith)

pub no_end : (e f l : Bool) → bit_and (bits e f l) 2 ≡ 0 → l ≡ false
no_end false false false z = refl
no_end false false true z = absurd (let o : ◌≡◌ {A = ℕ} 2 0 = z in omega arith)
no_end false true false z = refl
no_end false true true z = absurd (let o : ◌≡◌ {A = ℕ} 2 0 = z in omega arith)
no_end true false false z = refl
no_end true false true z = absurd (let o : ◌≡◌ {A = ℕ} 2 0 = z in omega arith)
no_end true true false z = refl
no_end true true true z = absurd (let o : ◌≡◌ {A = ℕ} 2 0 = z in omega arith)
