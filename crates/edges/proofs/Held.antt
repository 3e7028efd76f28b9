-- Every byte of a line that a record spells is held by a letter of the table, up to that record.
-- Assumes nothing.
use Prim.Native.Nat.{ℕ, zero, suc, ◌+◌, ◌-◌, ◌≤◌, ◌<◌}
use native.Mathlib.Omega.{arith}
use mathlib.Core.Path.{◌≡◌, refl, ap, ◌∙◌}
use mathlib.Core.Logic.{◌⊎◌, inl, inr, ⊎_elim}
use mathlib.Core.Bool.{Bool, true, false}
use mathlib.Core.List.{List, ◌++◌}
use lib.Dec.{ltb}
use lib.ListN.{length, get_or, length-append, get_or-append}
use lib.Seq.{get_or-append-add}
use borrow.Author.Tests.{ltb-true, ltb-false}
use Rattle.posix.specs.Expressions.{holds, Exp, nothing, empty, letter, or, seq, star}
use Rattle.posix.specs.Language.{Iterated, no_more, one_more, L}
use Rattle.posix.specs.Spells.{spells}
use Rattle.posix.proofs.Spells.{spells-sound}
use Rattle.table.specs.Records.{count, kind_at, a_at, b_at, is_letter}
use Rattle.table.specs.Faults.{Passes}
use Rattle.table.specs.Letters.{LetterKind, byte_set_at}
use Rattle.table.specs.Expression.{exp_of}
use Rattle.table.proofs.Passing.{kinds, kind-small, letter_at, a-below, b-below, star-a-below}
use Rattle.table.proofs.Laws.{exp-nothing, exp-empty, exp-letter, exp-or, exp-seq, exp-star}

-- a letter of the expression holds the byte
abbrev HeldIn : Exp → ℕ → Type 0
HeldIn nothing c = ⊥
HeldIn empty c = ⊥
HeldIn (letter b) c = holds b c ≡ true
HeldIn (or r1 r2) c = HeldIn r1 c ⊎ HeldIn r2 c
HeldIn (seq r1 r2) c = HeldIn r1 c ⊎ HeldIn r2 c
HeldIn (star r) c = HeldIn r c

-- a byte of two joined lines is one of the first or of the second
of-joined :
    (s1 s2 s : List ℕ) (i : ℕ) → s ≡ s1 ++ s2 → i < length s
    → ((i < length s1) × (get_or s i 0 ≡ get_or s1 i 0)) ⊎ ((j : ℕ) × (j < length s2) × (get_or s i 0 ≡ get_or s2 j 0))
of-joined s1 s2 s i e l = go (ltb i (length s1)) refl
  where
    go :
        (b : Bool) → ltb i (length s1) ≡ b
        → ((i < length s1) × (get_or s i 0 ≡ get_or s1 i 0)) ⊎ ((j : ℕ) × (j < length s2) × (get_or s i 0 ≡ get_or s2 j 0))
    go true h =
        let k : i < length s1 = ltb-true i (length s1) h in
        inl (k, ap (λ (u : List ℕ). get_or u i 0) e ∙ get_or-append s1 s2 0 i k)
    go false h =
        let k : length s1 ≤ i = ltb-false i (length s1) h in
        let n : length s ≡ length s1 + length s2 = ap length e ∙ length-append s1 s2 in
        let j : i ≡ length s1 + (i - length s1) = omega arith in
        inr (
          i - length s1,
          omega arith,
          ap (λ (u : List ℕ). get_or u i 0) e ∙ ap (λ (m : ℕ). get_or (s1 ++ s2) m 0) j ∙ get_or-append-add s1 s2 (i - length s1) 0,
        )

-- every byte of a row of parts is held where every byte of a part is
iterated-held :
    {A : List ℕ → Type 0} {s : List ℕ} (H : ℕ → Type 0) → ((t : List ℕ) → A t → (i : ℕ) → i < length t → H (get_or t i 0))
    → Iterated A s → (i : ℕ) → i < length s → H (get_or s i 0)
iterated-held {A} {s} H f (no_more e) i l = absurd (let n : length s ≡ 0 = ap length e in omega arith)
iterated-held {A} {s} H f (one_more s1 s2 e a r) i l =
    ⊎_elim
    (λ (p : (i < length s1) × (get_or s i 0 ≡ get_or s1 i 0)). rw p.1 (f s1 a i p.0))
    (λ (p : (j : ℕ) × (j < length s2) × (get_or s i 0 ≡ get_or s2 j 0)). rw p.2 (iterated-held H f r p.0 p.1))
    (of-joined s1 s2 s i e l)

-- every byte of a line of L is held by a letter of the expression
held_in : (r : Exp) (s : List ℕ) → L r s → (i : ℕ) → i < length s → HeldIn r (get_or s i 0)
held_in nothing s h i l = h
held_in empty s h i l = absurd (let n : length s ≡ 0 = ap length h in omega arith)
held_in (letter b) s h i l =
    let n : length s ≡ 1 = ap length h.2 in
    let z : i ≡ 0 = omega arith in
    rw h.2 (rw z h.1)
held_in (or r1 r2) s (inl h) i l = inl (held_in r1 s h i l)
held_in (or r1 r2) s (inr h) i l = inr (held_in r2 s h i l)
held_in (seq r1 r2) s h i l =
    ⊎_elim
    (λ (p : (i < length h.s1) × (get_or s i 0 ≡ get_or h.s1 i 0)). rw p.1 (inl (held_in r1 h.s1 h.first i p.0)))
    (λ (p : (j : ℕ) × (j < length h.s2) × (get_or s i 0 ≡ get_or h.s2 j 0)).
    rw p.2 (inr (held_in r2 h.s2 h.second p.0 p.1)))
    (of-joined h.s1 h.s2 s i h.joined l)
held_in (star r) s h i l = iterated-held (HeldIn r) (held_in r) h i l

-- a letter of the table up to record k holds the byte
abbrev HeldBy : List ℕ → (k c : ℕ) → Type 0
HeldBy t k c = (j : ℕ) × (j ≤ k) × (is_letter t j ≡ true) × (holds (byte_set_at t j) c ≡ true)

held-higher : (t : List ℕ) (a k c : ℕ) → a ≤ k → HeldBy t a c → HeldBy t k c
held-higher t a k c l h = (h.0, omega (arith, h.1), h.2, h.3)

-- a letter of a record's expression is one of the table up to it: n bounds the record's number
held_by : (n : ℕ) (t : List ℕ) → Passes t → (k : ℕ) → k < n → k < count t → (c : ℕ) → HeldIn (exp_of t k) c → HeldBy t k c
held_by zero t p k m l c h = absurd (omega arith)
held_by (suc n) t p k m l c h =
    ⊎_elim
    (⊎_elim
    (λ (z : kind_at t k ≡ 0). absurd (rw (exp-nothing t k z) at h))
    (⊎_elim
    (λ (z : kind_at t k ≡ 1). absurd (rw (exp-empty t k z) at h))
    (λ (z : LetterKind (kind_at t k)).
    let i : is_letter t k ≡ true = letter_at t k refl z in
    (k, omega arith, i, rw (exp-letter t k i) at h))))
    (⊎_elim
    (λ (z : (kind_at t k ≡ 3) ⊎ (kind_at t k ≡ 4)).
    let a : a_at t k < k = a-below t p k l z in
    let b : b_at t k < k = b-below t p k l z in
    let both : HeldIn (exp_of t (a_at t k)) c ⊎ HeldIn (exp_of t (b_at t k)) c =
    ⊎_elim
    (λ (y : kind_at t k ≡ 3). rw (exp-or t k y a b) at h)
    (λ (y : kind_at t k ≡ 4). rw (exp-seq t k y a b) at h)
    z in
    ⊎_elim
    (λ y. held-higher t (a_at t k) k c (omega arith) (held_by n t p (a_at t k) (omega arith) (omega arith) c y))
    (λ y. held-higher t (b_at t k) k c (omega arith) (held_by n t p (b_at t k) (omega arith) (omega arith) c y))
    both)
    (λ (z : kind_at t k ≡ 5).
    let a : a_at t k < k = star-a-below t p k l z in
    held-higher t (a_at t k) k c (omega arith) (held_by n t p (a_at t k) (omega arith) (omega arith) c (rw (exp-star t k z a) at h))))
    (kinds (kind_at t k) (kind-small t p k l))

pub byte-held :
    (t : List ℕ) → Passes t → (k : ℕ) → k < count t → (s : List ℕ) → spells (exp_of t k) s ≡ true → (i : ℕ) → i < length s
    → (j : ℕ) × (j ≤ k) × (is_letter t j ≡ true) × (holds (byte_set_at t j) (get_or s i 0) ≡ true)
byte-held t p k l s h i m =
    held_by (suc k) t p k (omega arith) l (get_or s i 0) (held_in (exp_of t k) s (spells-sound (exp_of t k) s h) i m)
