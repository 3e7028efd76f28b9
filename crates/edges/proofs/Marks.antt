-- Marks of the bytes that letters hold: a run of bits in a word, what a letter adds, and a line with a byte that is not marked.
-- Assumes nothing.
use Prim.Native.Nat.{ℕ, suc, ◌+◌, ◌-◌, ◌*◌, ◌/◌, ◌%◌, ◌^◌, ◌≤◌, ◌<◌}
use native.Mathlib.Nat.{pow-suc}
use native.Mathlib.Omega.{arith}
use mathlib.Core.Path.{◌≡◌, refl, sym, ap, ◌∙◌, subst}
use mathlib.Core.Logic.{◌⊎◌, inl, inr, ⊎_elim}
use mathlib.Core.Bool.{Bool, true, false, ◌&&◌, ◌||◌, true≢false}
use mathlib.Core.List.{List}
use lib.Bits.{bit_or, bit_and, and_mask, and_mod}
use lib.Dec.{eqb, ltb, leb}
use lib.ListN.{length, get_or, set, length-set}
use lib.Pow.{shl_exact, shl-shr, shr-shr, shr_lt, pow_pos, ones_split, ones_lt, high}
use lib.Seq.{get_or-set_same, get_or-set_other}
use borrow.Author.Tests.{eqb-true, eqb-false, ltb-true, ltb-false, leb-true}
use Rattle.posix.specs.Expressions.{holds}
use Rattle.posix.specs.Spells.{spells}
use Rattle.table.specs.Records.{count, kind_at, a_at, b_at}
use Rattle.table.specs.Faults.{Passes}
use Rattle.table.specs.Letters.{byte_set_at}
use Rattle.table.specs.Expression.{exp_of}
use Rattle.table.proofs.Passing.{or-true, and_both}
use Rattle.marks.specs.Marks.{marked}
use Rattle.marks.proofs.Laws.{marked-bit, bit-marked, unmarked-bit, bit_or_left, bit_or_right}
use Rattle.edges.specs.Held.{MarkedFrom, LettersMarked, Unmarked}
use Rattle.edges.proofs.Held.{byte-held}

-- an index is below a bound or not
below_or : (x y : ℕ) → (x < y) ⊎ (y ≤ x)
below_or x y = go (ltb x y) refl
  where
    go : (b : Bool) → ltb x y ≡ b → (x < y) ⊎ (y ≤ x)
    go true h = inl (ltb-true x y h)
    go false h = inr (ltb-false x y h)

odd-ones : (j : ℕ) → (2 ^ suc j - 1) % 2 ≡ 1
odd-ones j = omega (arith, pow-suc 2 j, pow_pos j)

-- bit m of at least m + 1 ones
one-of-ones : (n j m : ℕ) → n ≡ suc j + m → (2 ^ n - 1) / 2 ^ m % 2 ≡ 1
one-of-ones n j m e =
    rw e
    (ap (λ (x : ℕ). x / 2 ^ m % 2) (ones_split (suc j) m)
    ∙ ap (λ (x : ℕ). x % 2) (high (2 ^ suc j - 1) m (ones_lt m))
    ∙ odd-ones j)

-- the top n of 64 ones, shifted down: its n lowest bits are ones, and it is below 2 ^ n
run-bit : (n i : ℕ) → n ≤ 64 → i < n → (2 ^ 64 - 1) / 2 ^ (64 - n) / 2 ^ i % 2 ≡ 1
run-bit n i l h =
    ap (λ (x : ℕ). x % 2) (shr-shr (2 ^ 64 - 1) (64 - n) i)
    ∙ one-of-ones 64 (n - i - 1) (64 - n + i) (omega arith)

run_small : (n : ℕ) → n ≤ 64 → (2 ^ 64 - 1) / 2 ^ (64 - n) < 2 ^ n
run_small n l =
    let sum : 64 ≡ n + (64 - n) = omega arith in
    shr_lt n (64 - n) (subst (λ (x : ℕ). 2 ^ 64 - 1 < 2 ^ x) sum (ones_lt 64))

-- and the same run from bit s on
shifted-bit : (n s i : ℕ) → n + s ≤ 64 → s ≤ i → i < s + n
    → (2 ^ 64 - 1) / 2 ^ (64 - n) * 2 ^ s % 2 ^ 64 / 2 ^ i % 2 ≡ 1
shifted-bit n s i l h g =
    let x : ℕ = (2 ^ 64 - 1) / 2 ^ (64 - n) in
    let sum : i ≡ s + (i - s) = omega arith in
    ap (λ (y : ℕ). y / 2 ^ i % 2) (shl_exact n s 64 (run_small n (omega arith)) l)
    ∙ ap (λ (y : ℕ). x * 2 ^ s / 2 ^ y % 2) sum
    ∙ ap (λ (y : ℕ). y % 2) (sym (shr-shr (x * 2 ^ s) s (i - s)))
    ∙ ap (λ (y : ℕ). y / 2 ^ (i - s) % 2) (shl-shr x s)
    ∙ run-bit n (i - s) (omega arith) (omega arith)

-- the run of bits of one word marks its numbers
module _ (ws : List ℕ) (low high : ℕ) (size : length ws ≡ 4) (some : low < high) (word : high ≤ 64 * (low / 64 + 1)) (top : high ≤ 256) where
  abbrev run : ℕ
  run = (2 ^ 64 - 1) / 2 ^ (64 - (high - low)) * 2 ^ (low % 64) % 2 ^ 64

  pub run-marked : MarkedFrom low high ws (set ws (low / 64) (bit_or (get_or ws (low / 64) 0) run))
  run-marked =
      record {
        size = length-set ws (low / 64) v;
        kept = λ j m. marked-bit (set ws (low / 64) v) j (still j (eqb (j / 64) (low / 64)) refl (bit-marked ws j m));
        new = λ j l h.
            let same : j / 64 ≡ low / 64 = omega arith in
            marked-bit (set ws (low / 64) v) j
            (rw (same, here)
            (bit_or_right (get_or ws (low / 64) 0) run (j % 64)
            (shifted-bit (high - low) (low % 64) (j % 64) (omega arith) (omega arith) (omega arith))));
      }
    where
      v : ℕ
      v = bit_or (get_or ws (low / 64) 0) run

      here : get_or (set ws (low / 64) v) (low / 64) 0 ≡ v
      here = get_or-set_same ws (low / 64) v 0 (omega arith)

      still : (j : ℕ) (b : Bool) → eqb (j / 64) (low / 64) ≡ b → get_or ws (j / 64) 0 / 2 ^ (j % 64) % 2 ≡ 1
          → get_or (set ws (low / 64) v) (j / 64) 0 / 2 ^ (j % 64) % 2 ≡ 1
      still j true e m =
          let same : j / 64 ≡ low / 64 = eqb-true (j / 64) (low / 64) e in
          let old : get_or ws (low / 64) 0 / 2 ^ (j % 64) % 2 ≡ 1 = rw same at m in
          rw (same, here) (bit_or_left (get_or ws (low / 64) 0) run (j % 64) old)
      still j false e m = rw (get_or-set_other ws (low / 64) (j / 64) v 0 (eqb-false (j / 64) (low / 64) e)) m

-- the bytes that a letter holds are marked
module _ (t : List ℕ) (k : ℕ) where
  byte-held-by : (c : ℕ) → holds (byte_set_at t k) c ≡ true → c < 256
  byte-held-by c h = ltb-true c 256 (and_both (ltb c 256) _ h).0

  range-holds : (c : ℕ) → kind_at t k ≡ 2 → holds (byte_set_at t k) c ≡ true → (a_at t k ≤ c) × (c ≤ b_at t k)
  range-holds c e h =
      let g : (ltb c 256 && (leb (a_at t k) c && leb c (b_at t k))) ≡ true = rw e at h in
      let p = and_both (leb (a_at t k) c) (leb c (b_at t k)) (and_both (ltb c 256) _ g).1 in
      (leb-true _ _ p.0, leb-true _ _ p.1)

  other-holds : (c : ℕ) → kind_at t k ≡ 6 → holds (byte_set_at t k) c ≡ true → (c < a_at t k) ⊎ (b_at t k < c)
  other-holds c e h =
      let g : (ltb c 256 && (ltb c (a_at t k) || ltb (b_at t k) c)) ≡ true = rw e at h in
      ⊎_elim
      (λ (z : ltb c (a_at t k) ≡ true). inl (ltb-true _ _ z))
      (λ (z : ltb (b_at t k) c ≡ true). inr (ltb-true _ _ z))
      (or-true (ltb c (a_at t k)) (ltb (b_at t k) c) (and_both (ltb c 256) _ g).1)

  module _ (a b : ℕ) (ea : a ≡ a_at t k) (eb : b ≡ b_at t k) (ws : List ℕ) (p : LettersMarked t k ws) where
    letters-more : (ws' : List ℕ) → length ws' ≡ length ws → ((j : ℕ) → marked ws j ≡ true → marked ws' j ≡ true)
        → ((c : ℕ) → holds (byte_set_at t k) c ≡ true → marked ws' c ≡ true)
        → LettersMarked t (k + 1) ws'
    letters-more ws' size kept new =
        record {
          size = size ∙ p.size;
          right = λ i c x z h.
              ⊎_elim
              (λ (y : i < k). kept c (p.right i c y z h))
              (λ (y : k ≤ i). let same : i ≡ k = omega arith in new c (rw same at h))
              (below_or i k);
        }

    pub range-marked : kind_at t k ≡ 2 → (ws' : List ℕ) → MarkedFrom a (b + 1) ws ws' → LettersMarked t (k + 1) ws'
    range-marked e ws' q =
        letters-more ws' q.size q.kept
        (λ c h. let r = range-holds c e h in q.new c (omega arith) (omega arith))

    pub other-marked : kind_at t k ≡ 6 → (ws' ws'' : List ℕ) → MarkedFrom 0 a ws ws' → MarkedFrom (b + 1) 256 ws' ws'' → LettersMarked t (k + 1) ws''
    other-marked e ws' ws'' q r =
        letters-more ws'' (r.size ∙ q.size) (λ j m. r.kept j (q.kept j m))
        (λ c h.
        ⊎_elim
        (λ (y : c < a_at t k). r.kept c (q.new c (omega arith) (omega arith)))
        (λ (y : b_at t k < c). r.new c (omega arith) (byte-held-by c h))
        (other-holds c e h))

-- a byte of the line whose bit is not set is not marked
abbrev pub from_mark : List ℕ → ℕ → ℕ
from_mark ws c = get_or ws (c / 64) 0 / 2 ^ (c % 64)

even-unmarked : (s ws : List ℕ) (i : ℕ) → i < length s → from_mark ws (get_or s i 0) % 2 ≡ 0 → Unmarked s ws
even-unmarked s ws i l e = record { place = i; within = l; none = unmarked-bit ws (get_or s i 0) e }

pub byte-unmarked : (s ws : List ℕ) (i : ℕ) → i < length s → (x : ℕ) → x ≡ from_mark ws (get_or s i 0) → bit_and x 1 ≡ 0 → Unmarked s ws
byte-unmarked s ws i l x q e =
    even-unmarked s ws i l (rw q at (sym (and_mask x 1) ∙ e))

-- of two numbers whose `&` is even one is
one-even : (x y : ℕ) → bit_and (bit_and x y) 1 ≡ 0 → (x % 2 ≡ 0) ⊎ (y % 2 ≡ 0)
one-even x y e = go (below_or 0 (x % 2)) (below_or 0 (y % 2))
  where
    both : bit_and (x % 2) (y % 2) ≡ 0
    both = sym (and_mod x y 1) ∙ sym (and_mask (bit_and x y) 1) ∙ e

    go : (0 < x % 2) ⊎ (x % 2 ≤ 0) → (0 < y % 2) ⊎ (y % 2 ≤ 0) → (x % 2 ≡ 0) ⊎ (y % 2 ≡ 0)
    go (inr a) b = inl (omega arith)
    go (inl a) (inr b) = inr (omega arith)
    go (inl a) (inl b) =
        let p : x % 2 ≡ 1 = omega arith in
        let q : y % 2 ≡ 1 = omega arith in
        absurd (let z : ◌≡◌ {A = ℕ} 1 0 = rw (p, q) at both in omega arith)

pub pair-unmarked :
    (s ws : List ℕ) (i : ℕ) → i + 1 < length s → (x y : ℕ) → x ≡ from_mark ws (get_or s i 0) → y ≡ from_mark ws (get_or s (i + 1) 0)
    → bit_and (bit_and x y) 1 ≡ 0 → Unmarked s ws
pair-unmarked s ws i l x y p q e =
    ⊎_elim
    (λ (z : x % 2 ≡ 0). even-unmarked s ws i (omega arith) (rw p at z))
    (λ (z : y % 2 ≡ 0). even-unmarked s ws (i + 1) l (rw q at z))
    (one-even x y e)

never_true : (a : Bool) → ¬ (a ≡ true) → a ≡ false
never_true true n = absurd (n refl)
never_true false n = refl

-- then the record does not spell the line
pub unmarked-none : (t : List ℕ) → Passes t → (s ws : List ℕ) (k : ℕ) → k < count t → LettersMarked t (k + 1) ws → Unmarked s ws
    → spells (exp_of t k) s ≡ false
unmarked-none t p s ws k l m u =
    never_true (spells (exp_of t k) s)
    (λ (h : spells (exp_of t k) s ≡ true).
    let f = byte-held t p k l s h u.place u.within in
    true≢false (sym (m.right f.0 (get_or s u.place 0) (omega (arith, f.1)) f.2 f.3) ∙ u.none))
