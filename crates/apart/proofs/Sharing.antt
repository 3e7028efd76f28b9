-- What `&`, `|` and two tests do to the bits of what two records share.
-- Assumes nothing.
use Prim.Native.Nat.{ℕ, zero, suc, ◌+◌}
use native.Mathlib.Numerals.{add-one}
use native.Mathlib.Omega.{arith}
use mathlib.Core.Path.{◌≡◌, refl, ◌∙◌}
use mathlib.Core.Bool.{Bool, true, false, not, ◌&&◌, ◌||◌}
use mathlib.Core.List.{List, []}
use lib.Bits.{bit_or, bit_and}
use lib.Dec.{eqb}
use borrow.Author.Tests.{eqb-true}
use Rattle.posix.specs.Expressions.{Exp}
use Rattle.posix.specs.Spells.{spells}
use Rattle.posix.proofs.Spells.{each}
use Rattle.table.specs.Expression.{exp_of}
use Rattle.edges.specs.Edges.{edge}
use Rattle.edges.specs.Bits.{bits, bits_at}
use Rattle.edges.proofs.Bits.{or-bits}
use Rattle.reorder.specs.Tests.{none_shared, edges_apart}
use Rattle.apart.specs.Shared.{shared_bits, shared_below, Told}

-- a test of Bools that holds of both
abbrev both : (Bool → Bool) → Bool
both P = P true && P false

at_both : (P : Bool → Bool) → both P ≡ true → (b : Bool) → P b ≡ true
at_both P h true = (each (P true) (P false) h).0
at_both P h false = (each (P true) (P false) h).1

-- `&` of two bytes
abbrev and-test : (e1 f1 l1 e2 f2 l2 : Bool) → Bool
and-test e1 f1 l1 e2 f2 l2 = eqb (bit_and (bits e1 f1 l1) (bits e2 f2 l2)) (bits (e1 && e2) (f1 && f2) (l1 && l2))

and-bits :
    (e1 f1 l1 e2 f2 l2 : Bool) → bit_and (bits e1 f1 l1) (bits e2 f2 l2) ≡ bits (e1 && e2) (f1 && f2) (l1 && l2)
and-bits e1 f1 l1 e2 f2 l2 =
    eqb-true (bit_and (bits e1 f1 l1) (bits e2 f2 l2)) (bits (e1 && e2) (f1 && f2) (l1 && l2))
    (at_both (and-test e1 f1 l1 e2 f2)
    (at_both (λ x. both (and-test e1 f1 l1 e2 x))
    (at_both (λ y. both (λ x. both (and-test e1 f1 l1 y x)))
    (at_both (λ z. both (λ y. both (λ x. both (and-test e1 f1 z y x))))
    (at_both (λ u. both (λ z. both (λ y. both (λ x. both (and-test e1 u z y x)))))
    (at_both (λ v. both (λ u. both (λ z. both (λ y. both (λ x. both (and-test v u z y x)))))) refl e1) f1) l1) e2) f2) l2)

pub bits-shared :
    (t : List ℕ) (i j c x y : ℕ) → x ≡ bits_at t c c i → y ≡ bits_at t c c j → bit_and x y ≡ shared_bits (exp_of t i) (exp_of t j) c
bits-shared t i j c x y e f =
    rw (e, f)
    (and-bits (spells (exp_of t i) []) (edge false (exp_of t i) c) (edge true (exp_of t i) c) (spells (exp_of t j) []) (edge false (exp_of t j) c) (edge true (exp_of t j) c))

-- one more byte
joined : (x y : Bool) → (not y || x) ≡ not (not x && y)
joined true true = refl
joined true false = refl
joined false true = refl
joined false false = refl

twice : (e : Bool) → (e || e) ≡ e
twice true = refl
twice false = refl

next-bits :
    (d e f y l z : Bool) → (d || e) ≡ e → bit_or (bits d (not y) (not z)) (bits e f l) ≡ bits e (not (not f && y)) (not (not l && z))
next-bits d e f y l z h = or-bits d (not y) (not z) e f l ∙ rw (h, joined f y, joined l z)

-- no byte is looked at yet
pub shared-none : (r1 r2 : Exp) → 0 ≡ shared_below r1 r2 0
unfolding shared_below
shared-none r1 r2 = refl

shared-suc : (r1 r2 : Exp) (n : ℕ) → bit_or (shared_below r1 r2 n) (shared_bits r1 r2 n) ≡ shared_below r1 r2 (suc n)
unfolding shared_below
shared-suc r1 r2 zero =
    next-bits false (spells r1 [] && spells r2 []) (edge false r1 0 && edge false r2 0) true (edge true r1 0 && edge true r2 0) true refl
shared-suc r1 r2 (suc n) =
    next-bits (spells r1 [] && spells r2 []) (spells r1 [] && spells r2 [])
    (edge false r1 (suc n) && edge false r2 (suc n)) (none_shared false r1 r2 (suc n))
    (edge true r1 (suc n) && edge true r2 (suc n)) (none_shared true r1 r2 (suc n))
    (twice (spells r1 [] && spells r2 []))

pub shared-next :
    (r1 r2 : Exp) (n x y : ℕ) → x ≡ shared_below r1 r2 n → y ≡ shared_bits r1 r2 n → bit_or x y ≡ shared_below r1 r2 (n + 1)
shared-next r1 r2 n x y e f = rw (add-one, e, f) (shared-suc r1 r2 n)

-- the two tests
pub told-empty : (s : ℕ) → ¬ (bit_and s 128 ≡ 0) → Told s false
told-empty s h true f l e = refl
told-empty s h false true true e = absurd (h (rw e))
told-empty s h false true false e = absurd (h (rw e))
told-empty s h false false true e = absurd (h (rw e))
told-empty s h false false false e = absurd (h (rw e))

pub told-edges : (s : ℕ) → bit_and s 128 ≡ 0 → Told s (not (eqb (bit_and s 3) 3))
told-edges s h false true true e = rw e
told-edges s h false true false e = rw e
told-edges s h false false true e = rw e
told-edges s h false false false e = rw e
told-edges s h true true true e = absurd (let z : ◌≡◌ {A = ℕ} 128 0 = rw e at h in omega arith)
told-edges s h true true false e = absurd (let z : ◌≡◌ {A = ℕ} 128 0 = rw e at h in omega arith)
told-edges s h true false true e = absurd (let z : ◌≡◌ {A = ℕ} 128 0 = rw e at h in omega arith)
told-edges s h true false false e = absurd (let z : ◌≡◌ {A = ℕ} 128 0 = rw e at h in omega arith)

-- what they tell of all bytes
pub told-all : (r1 r2 : Exp) (s : ℕ) (r : Bool) → s ≡ shared_below r1 r2 256 → Told s r → r ≡ edges_apart r1 r2
unfolding shared_below
told-all r1 r2 s r e h = h (spells r1 [] && spells r2 []) (none_shared false r1 r2 256) (none_shared true r1 r2 256) e
