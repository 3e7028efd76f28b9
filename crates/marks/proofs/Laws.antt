-- Laws of marks: bits of words, what a mark adds, which numbers a word of no bits or its trailing zeros pass, and copied words.
-- Assumes nothing.
use Prim.Native.Nat.{ℕ, ◌+◌, ◌-◌, ◌*◌, ◌/◌, ◌%◌, ◌^◌, ◌≤◌, ◌<◌, min, max}
use native.Mathlib.Nat.{le-max_left, le-max_right, max-eq_left, max-eq_right, div-one, div-le_self, zero-div}
use native.Mathlib.Omega.{arith}
use mathlib.Core.Path.{◌≡◌, refl, sym, ap, ◌∙◌, subst}
use mathlib.Core.Logic.{◌⊎◌, ◌≢◌, inl, inr, ⊎_elim, ⊎_map}
use mathlib.Core.Bool.{Bool, true, false}
use mathlib.Core.List.{List}
use lib.Bits.{bit_or}
use lib.Count.{count_trailing_zeros, trailing_le}
use lib.Dec.{eqb, ltb}
use lib.ListN.{length, get_or, set, take, drop, length-set}
use lib.Pow.{shr-shr, shr_lt}
use lib.Seq.{get_or-set_same, get_or-set_other}
use borrow.Author.Tests.{eq-eqb, ne_eqb, eqb-true, eqb-false, ltb-true, ltb-false}
use Rattle.std.specs.List.{slice_range}
use Rattle.std.proofs.Common.{w64}
use Rattle.std.proofs.lemmas.Bool.{cases_lt}
use Rattle.std.proofs.lemmas.Nat.{one_shl}
use Rattle.std.proofs.lemmas.Nat.Bits.{bit_at_or, bit_at_above, bit_at-pow_same, bit_at-pow_other, bit_at-trailing_zeros}
use Rattle.std.proofs.lemmas.List.{get_or-take, get_or-drop, get_or_past}
use Rattle.marks.specs.Marks.{marked, MarkedAll, MarkedToo, FromWord, NextMarked, Copied}

-- a mark is a bit that is 1
pub bit_is : (ws : List ℕ) (i : ℕ) → eqb (get_or ws (i / 64) 0 / 2 ^ (i % 64) % 2) 1 ≡ marked ws i
unfolding marked
bit_is ws i = refl

pub marked-bit : (ws : List ℕ) (i : ℕ) → get_or ws (i / 64) 0 / 2 ^ (i % 64) % 2 ≡ 1 → marked ws i ≡ true
unfolding marked
marked-bit ws i e = eq-eqb _ 1 e

pub bit-marked : (ws : List ℕ) (i : ℕ) → marked ws i ≡ true → get_or ws (i / 64) 0 / 2 ^ (i % 64) % 2 ≡ 1
unfolding marked
bit-marked ws i e = eqb-true _ 1 e

pub unmarked-bit : (ws : List ℕ) (i : ℕ) → get_or ws (i / 64) 0 / 2 ^ (i % 64) % 2 ≡ 0 → marked ws i ≡ false
unfolding marked
unmarked-bit ws i e = ne_eqb _ 1 (λ (q : get_or ws (i / 64) 0 / 2 ^ (i % 64) % 2 ≡ 1). omega arith)

-- nothing is marked behind the last word
pub marked-inside : (ws : List ℕ) (i : ℕ) → 64 * length ws ≤ i → ¬ (marked ws i ≡ true)
marked-inside ws i l m =
    let none : get_or ws (i / 64) 0 ≡ 0 = get_or_past ws (i / 64) 0 (omega arith) in
    let z : 0 / 2 ^ (i % 64) % 2 ≡ 1 = rw none at (bit-marked ws i m) in
    let e : ◌≡◌ {A = ℕ} 0 1 = sym (ap (λ (x : ℕ). x % 2) (zero-div (2 ^ (i % 64)))) ∙ z in
    omega arith

-- the same bit of the same word is marked alike
pub marked-alike : (us ws : List ℕ) (i j : ℕ) → get_or us (i / 64) 0 ≡ get_or ws (j / 64) 0 → i % 64 ≡ j % 64 → marked us i ≡ marked ws j
unfolding marked
marked-alike us ws i j w b = rw (w, b)

-- a bit of `|`
pub bit_or_left : (a b k : ℕ) → a / 2 ^ k % 2 ≡ 1 → bit_or a b / 2 ^ k % 2 ≡ 1
bit_or_left a b k e = omega (arith, bit_at_or a b k, le-max_left (a / 2 ^ k % 2) (b / 2 ^ k % 2))

pub bit_or_right : (a b k : ℕ) → b / 2 ^ k % 2 ≡ 1 → bit_or a b / 2 ^ k % 2 ≡ 1
bit_or_right a b k e = omega (arith, bit_at_or a b k, le-max_right (a / 2 ^ k % 2) (b / 2 ^ k % 2))

-- a bit of `|` is one of either
max-one : (x y : ℕ) → max x y ≡ 1 → (x ≡ 1) ⊎ (y ≡ 1)
max-one x y e = go (ltb x y) refl
  where
    go : (b : Bool) → ltb x y ≡ b → (x ≡ 1) ⊎ (y ≡ 1)
    go true h = inr (sym (max-eq_right (omega (arith, ltb-true x y h))) ∙ e)
    go false h = inl (sym (max-eq_left (ltb-false x y h)) ∙ e)

or-bit : (a b k : ℕ) → bit_or a b / 2 ^ k % 2 ≡ 1 → (a / 2 ^ k % 2 ≡ 1) ⊎ (b / 2 ^ k % 2 ≡ 1)
or-bit a b k e = max-one (a / 2 ^ k % 2) (b / 2 ^ k % 2) (sym (bit_at_or a b k) ∙ e)

-- 1 << k has no other bit
one-bit-only : (k j : ℕ) → k < 64 → 1 * 2 ^ k % 2 ^ 64 / 2 ^ j % 2 ≡ 1 → j ≡ k
one-bit-only k j h e =
    let exact : 2 ^ k / 2 ^ j % 2 ≡ 1 = ap (λ (n : ℕ). n / 2 ^ j % 2) (sym (one_shl k 64 h)) ∙ e in
    let other : j ≢ k → ⊥ = λ (n : j ≢ k). let none : 2 ^ k / 2 ^ j % 2 ≡ 0 = bit_at-pow_other k j n in omega arith in
    ⊎_elim
    (λ (l : j < k). absurd (other (λ (q : j ≡ k). omega arith)))
    (λ (l : k ≤ j). ⊎_elim (λ (m : k < j). absurd (other (λ (q : j ≡ k). omega arith))) (λ (m : j ≤ k). omega arith) (cases_lt k j))
    (cases_lt j k)

-- bit k of 1 << k
one_bit : (k : ℕ) → k < 64 → 1 * 2 ^ k % 2 ^ 64 / 2 ^ k % 2 ≡ 1
one_bit k h = ap (λ (n : ℕ). n / 2 ^ k % 2) (one_shl k 64 h) ∙ bit_at-pow_same k

-- what is marked too, by another test that is true of the same numbers
pub marked-as : {P Q : ℕ → Type 0} {ws ws' : List ℕ} → ((j : ℕ) → P j → Q j) → ((j : ℕ) → Q j → P j) → MarkedAll P ws ws' → MarkedAll Q ws ws'
marked-as f g p =
    record { size = p.size; kept = p.kept; new = λ j q. p.new j (g j q); only = λ j m. ⊎_map (f j) (λ (h : _). h) (p.only j m) }

-- nothing is marked too
pub marked-none : {P : ℕ → Type 0} {ws : List ℕ} → ((j : ℕ) → ¬ (P j)) → MarkedAll P ws ws
marked-none n = record { size = refl; kept = λ j m. m; new = λ j p. absurd (n j p); only = λ j m. inr m }

-- first the numbers of P, then those of Q
pub marked-then :
    {P Q R : ℕ → Type 0} {us vs ws : List ℕ} → ((j : ℕ) → R j → P j ⊎ Q j) → ((j : ℕ) → P j → R j) → ((j : ℕ) → Q j → R j)
    → MarkedAll P us vs
    → MarkedAll Q vs ws
    → MarkedAll R us ws
marked-then {P} {Q} {R} {us} {vs} {ws} f g h p q =
    record {
      size = q.size ∙ p.size;
      kept = λ j m. q.kept j (p.kept j m);
      new = λ j r. ⊎_elim (λ (x : P j). q.kept j (p.new j x)) (λ (x : Q j). q.new j x) (f j r);
      only = λ j m.
          ⊎_elim
          (λ (x : Q j). inl (h j x))
          (λ (x : marked vs j ≡ true). ⊎_elim (λ (y : P j). inl (g j y)) (λ (y : marked us j ≡ true). inr y) (p.only j x))
          (q.only j m);
    }

-- the numbers of word q whose bits are those of x
abbrev pub InWord : ℕ → ℕ → ℕ → Type 0
InWord q x j = (j / 64 ≡ q) × (x / 2 ^ (j % 64) % 2 ≡ 1)

-- a word joined with x marks the numbers of its bits
pub word-joined : (ws : List ℕ) (q x : ℕ) → q < length ws → MarkedAll (InWord q x) ws (set ws q (bit_or (get_or ws q 0) x))
word-joined ws q x l =
    record {
      size = length-set ws q v;
      kept = λ j m. marked-bit (set ws q v) j (still j (eqb (j / 64) q) refl (bit-marked ws j m));
      new = λ j p. marked-bit (set ws q v) j (rw (p.0, here) (bit_or_right (get_or ws q 0) x (j % 64) p.1));
      only = λ j m. was j (eqb (j / 64) q) refl (bit-marked (set ws q v) j m);
    }
  where
    v : ℕ
    v = bit_or (get_or ws q 0) x

    here : get_or (set ws q v) q 0 ≡ v
    here = get_or-set_same ws q v 0 l

    still : (j : ℕ) (b : Bool) → eqb (j / 64) q ≡ b → get_or ws (j / 64) 0 / 2 ^ (j % 64) % 2 ≡ 1 → get_or (set ws q v) (j / 64) 0 / 2 ^ (j % 64) % 2 ≡ 1
    still j true e m =
        let same : j / 64 ≡ q = eqb-true (j / 64) q e in
        let old : get_or ws q 0 / 2 ^ (j % 64) % 2 ≡ 1 = rw same at m in
        rw (same, here) (bit_or_left (get_or ws q 0) x (j % 64) old)
    still j false e m = rw (get_or-set_other ws q (j / 64) v 0 (eqb-false (j / 64) q e)) m

    was : (j : ℕ) (b : Bool) → eqb (j / 64) q ≡ b → get_or (set ws q v) (j / 64) 0 / 2 ^ (j % 64) % 2 ≡ 1 → InWord q x j ⊎ (marked ws j ≡ true)
    was j true e m =
        let same : j / 64 ≡ q = eqb-true (j / 64) q e in
        let both : v / 2 ^ (j % 64) % 2 ≡ 1 = rw (same, here) at m in
        ⊎_elim
        (λ (old : get_or ws q 0 / 2 ^ (j % 64) % 2 ≡ 1). inr (marked-bit ws j (rw same old)))
        (λ (new : x / 2 ^ (j % 64) % 2 ≡ 1). inl (same, new))
        (or-bit (get_or ws q 0) x (j % 64) both)
    was j false e m = inr (marked-bit ws j (rw (get_or-set_other ws q (j / 64) v 0 (eqb-false (j / 64) q e)) at m))

-- setting bit i % 64 of word i / 64 marks i
pub marked-too : (ws : List ℕ) (i : ℕ) → i < 64 * length ws
    → MarkedToo i ws (set ws (i / 64) (bit_or (get_or ws (i / 64) 0) (1 * 2 ^ (i % 64) % 2 ^ 64)))
marked-too ws i l = marked-as one one-back (word-joined ws (i / 64) (1 * 2 ^ (i % 64) % 2 ^ 64) (omega arith))
  where
    one : (j : ℕ) → InWord (i / 64) (1 * 2 ^ (i % 64) % 2 ^ 64) j → j ≡ i
    one j p = let bits : j % 64 ≡ i % 64 = one-bit-only (i % 64) (j % 64) (omega arith) p.1 in omega (arith, p.0)

    one-back : (j : ℕ) → j ≡ i → InWord (i / 64) (1 * 2 ^ (i % 64) % 2 ^ 64) j
    one-back j e = rw e (refl, one_bit (i % 64) (omega arith))

-- the words of `from` up to n, joined to those of `to` from word `at` on
abbrev pub JoinedTo : ℕ → ℕ → List ℕ → List ℕ → List ℕ → Type 0
JoinedTo n at from = MarkedAll (λ j. FromWord at from j × (j < 64 * (at + n)))

pub joined-none : (at : ℕ) (from to : List ℕ) → JoinedTo 0 at from to to
joined-none at from to = marked-none (λ j p. omega (arith, p.0.0, p.1))

pub joined-more :
    (n at : ℕ) (from to to' : List ℕ) → JoinedTo n at from to to' → at + n < length to'
    → JoinedTo (n + 1) at from to (set to' (at + n) (bit_or (get_or to' (at + n) 0) (get_or from n 0)))
joined-more n at from to to' p l = marked-then split earlier here p (word-joined to' (at + n) (get_or from n 0) l)
  where
    split :
        (j : ℕ) → FromWord at from j × (j < 64 * (at + (n + 1)))
        → (FromWord at from j × (j < 64 * (at + n))) ⊎ InWord (at + n) (get_or from n 0) j
    split j (f, g) =
        ⊎_elim
        (λ (k : j < 64 * (at + n)). inl (f, k))
        (λ (k : 64 * (at + n) ≤ j).
        let word : (j - 64 * at) / 64 ≡ n = omega (arith, f.0) in
        let bit : (j - 64 * at) % 64 ≡ j % 64 = omega (arith, f.0) in
        let set-bit : get_or from n 0 / 2 ^ (j % 64) % 2 ≡ 1 = rw (word, bit) at (bit-marked from (j - 64 * at) f.1) in
        inr (omega (arith, f.0), set-bit))
        (cases_lt j (64 * (at + n)))

    earlier : (j : ℕ) → FromWord at from j × (j < 64 * (at + n)) → FromWord at from j × (j < 64 * (at + (n + 1)))
    earlier j (f, g) = (f, omega arith)

    here : (j : ℕ) → InWord (at + n) (get_or from n 0) j → FromWord at from j × (j < 64 * (at + (n + 1)))
    here j (w, b) =
        let word : (j - 64 * at) / 64 ≡ n = omega arith in
        let bit : (j - 64 * at) % 64 ≡ j % 64 = omega arith in
        ((omega arith, marked-bit from (j - 64 * at) (rw (word, bit) b)), omega arith)

-- all words of `from`; behind them nothing is marked
pub joined-all :
    (n at : ℕ) (from to to' : List ℕ) → length from ≤ n → JoinedTo n at from to to' → MarkedAll (FromWord at from) to to'
joined-all n at from to to' l p = marked-as (λ j q. q.0) within p
  where
    within : (j : ℕ) → FromWord at from j → FromWord at from j × (j < 64 * (at + n))
    within j q =
        ⊎_elim
        (λ (k : j < 64 * (at + n)). (q, k))
        (λ (k : 64 * (at + n) ≤ j). absurd (marked-inside from (j - 64 * at) (omega (arith, q.0)) q.1))
        (cases_lt j (64 * (at + n)))

-- the bits below the trailing zeros' end are 0
below-trailing : (n i : ℕ) → n < 2 ^ 64 → (n ≡ 0 → ⊥) → i < count_trailing_zeros 64 n → n / 2 ^ i % 2 ≡ 0
below-trailing n i b z h = (bit_at-trailing_zeros w64 n (omega arith) b).2 i h

-- a word of m bits that is not 0 has fewer than m trailing zeros
trailing-short : (n m : ℕ) → n < 2 ^ m → n < 2 ^ 64 → (n ≡ 0 → ⊥) → count_trailing_zeros 64 n < m
trailing-short n m h b z =
    let one : n / 2 ^ count_trailing_zeros 64 n % 2 ≡ 1 = (bit_at-trailing_zeros w64 n (omega arith) b).1 in
    ⊎_elim
    (λ (l : count_trailing_zeros 64 n < m). l)
    (λ (l : m ≤ count_trailing_zeros 64 n).
    let none : n / 2 ^ count_trailing_zeros 64 n % 2 ≡ 0 = bit_at_above n m (count_trailing_zeros 64 n) h l in
    absurd (omega arith))
    (cases_lt (count_trailing_zeros 64 n) m)

-- no number from a on below b is marked
abbrev pub Passed : List ℕ → ℕ → ℕ → Type 0
Passed ws a b = (j : ℕ) → a ≤ j → j < b → marked ws j ≡ false

pub passed_on : (ws : List ℕ) (a b c : ℕ) → Passed ws a b → Passed ws b c → Passed ws a c
passed_on ws a b c p q j l h = ⊎_elim (λ (k : j < b). p j l k) (λ (k : b ≤ j). q j k h) (cases_lt j b)

-- the n bits of word q from bit s on are 0
pub bits-passed : (ws : List ℕ) (q s n : ℕ) → s + n ≤ 64 → ((d : ℕ) → d < n → get_or ws q 0 / 2 ^ s / 2 ^ d % 2 ≡ 0)
    → Passed ws (64 * q + s) (64 * q + s + n)
bits-passed ws q s n f z j l h =
    let word : j / 64 ≡ q = omega arith in
    let bit : j % 64 ≡ s + (j - (64 * q + s)) = omega arith in
    unmarked-bit ws j
    (rw (word, bit) (ap (λ (x : ℕ). x % 2) (sym (shr-shr (get_or ws q 0) s (j - (64 * q + s)))) ∙ z (j - (64 * q + s)) (omega arith)))

-- the rest of the word of `from`: nothing is marked where it is 0, and before its lowest bit
pub rest-passed : (ws : List ℕ) (from : ℕ) → get_or ws (from / 64) 0 / 2 ^ (from % 64) ≡ 0 → Passed ws from (64 * (from / 64 + 1))
rest-passed ws from e =
    let start : 64 * (from / 64) + from % 64 ≡ from = omega arith in
    let stop : 64 * (from / 64) + from % 64 + (64 - from % 64) ≡ 64 * (from / 64 + 1) = omega arith in
    let p : Passed ws (64 * (from / 64) + from % 64) (64 * (from / 64) + from % 64 + (64 - from % 64)) =
    bits-passed ws (from / 64) (from % 64) (64 - from % 64) (omega arith) (λ d l. rw e (ap (λ (x : ℕ). x % 2) (zero-div (2 ^ d)))) in
    λ j l h. p j (omega arith) (omega arith)

pub lowest-passed : (ws : List ℕ) (from : ℕ) → get_or ws (from / 64) 0 < 2 ^ 64 → (get_or ws (from / 64) 0 / 2 ^ (from % 64) ≡ 0 → ⊥)
    → Passed ws from (from + count_trailing_zeros 64 (get_or ws (from / 64) 0 / 2 ^ (from % 64)))
lowest-passed ws from b n =
    let word : ℕ = get_or ws (from / 64) 0 / 2 ^ (from % 64) in
    let sum : 64 ≡ 64 - from % 64 + from % 64 = omega arith in
    let small : word < 2 ^ 64 = omega (arith, div-le_self (get_or ws (from / 64) 0) (2 ^ (from % 64))) in
    let few : count_trailing_zeros 64 word < 64 - from % 64 =
    trailing-short word (64 - from % 64) (shr_lt (64 - from % 64) (from % 64) (subst (λ (x : ℕ). get_or ws (from / 64) 0 < 2 ^ x) sum b)) small n in
    let p : Passed ws (64 * (from / 64) + from % 64) (64 * (from / 64) + from % 64 + count_trailing_zeros 64 word) =
    bits-passed ws (from / 64) (from % 64) (count_trailing_zeros 64 word) (omega arith) (λ d l. below-trailing word d small n l) in
    λ j l h. p j (omega arith) (omega arith)

-- a whole word
pub word-passed : (ws : List ℕ) (q : ℕ) → get_or ws q 0 ≡ 0 → Passed ws (64 * q) (64 * (q + 1))
word-passed ws q e =
    let p : Passed ws (64 * q + 0) (64 * q + 0 + 64) =
    bits-passed ws q 0 64 (omega arith)
    (λ d l. rw e (ap (λ (x : ℕ). x / 2 ^ d % 2) (zero-div (2 ^ 0)) ∙ ap (λ (x : ℕ). x % 2) (zero-div (2 ^ d)))) in
    λ j l h. p j (omega arith) (omega arith)

pub word-lowest : (ws : List ℕ) (q : ℕ) → get_or ws q 0 < 2 ^ 64 → (get_or ws q 0 ≡ 0 → ⊥) → Passed ws (64 * q) (64 * q + count_trailing_zeros 64 (get_or ws q 0))
word-lowest ws q b z =
    let n : ℕ = count_trailing_zeros 64 (get_or ws q 0) in
    let p : Passed ws (64 * q + 0) (64 * q + 0 + n) =
    bits-passed ws q 0 n (omega (arith, trailing_le 64 (get_or ws q 0)))
    (λ d l. ap (λ (x : ℕ). x / 2 ^ d % 2) (div-one (get_or ws q 0)) ∙ below-trailing (get_or ws q 0) d b z l) in
    λ j l h. p j (omega arith) (omega arith)

-- the lesser of a place that nothing marked stands before, and `end`
pub next-lesser : (ws : List ℕ) (from end a r : ℕ) → from ≤ a → from ≤ end → Passed ws from a → r ≡ min end a → NextMarked ws from end r
next-lesser ws from end a r l h p e =
    record { not_before = omega arith; not_behind = omega arith; passed = λ j x y. p j x (omega arith) }

-- words that are those of `from` from word `at` on
pub copied :
    (at : ℕ) (from to to' : List ℕ) → length to' ≡ length to → to' ≡ slice_range from at (at + length to)
    → Copied at from to to'
copied at from to to' l e =
    record {
      size = l;
      same = λ i h.
          let word : (64 * at + i) / 64 ≡ at + i / 64 = omega arith in
          let inside : get_or (take (at + length to - at) (drop at from)) (i / 64) 0 ≡ get_or (drop at from) (i / 64) 0 =
          get_or-take (at + length to - at) (drop at from) (i / 64) 0 (omega arith) in
          let there : get_or to' (i / 64) 0 ≡ get_or from (at + i / 64) 0 =
          ap (λ (ws : List ℕ). get_or ws (i / 64) 0) e ∙ inside ∙ get_or-drop at from (i / 64) 0 in
          marked-alike to' from i (64 * at + i) (rw word there) (omega arith);
    }
