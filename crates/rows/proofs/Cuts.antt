-- Laws of `some` and `cut_at`.
-- Assumes nothing.
use Prim.Native.Nat.{ℕ, zero, suc, ◌-◌, ◌≤◌, ◌<◌}
use native.Mathlib.Nat.{eq-or-lt_of_le}
use native.Mathlib.Omega.{arith}
use mathlib.Core.Path.{◌≡◌, refl, sym, ◌∙◌}
use mathlib.Core.Logic.{⊎_elim}
use mathlib.Core.Bool.{Bool, true, false, true≢false}
use lib.Dec.{leb}
use borrow.Author.Tests.{leb-true, le-leb}
pub use Rattle.std.proofs.lemmas.Bool.{cases_lt as below_or, false_from_ne_true as never_true}
use Rattle.posix.proofs.Spells.{either, each, or-second}
use Rattle.rows.specs.Cuts.{some, cut_at}

-- two tests that are true together are equal
pub same_truth : (a b : Bool) → (a ≡ true → b ≡ true) → (b ≡ true → a ≡ true) → a ≡ b
same_truth true b f g = sym (f refl)
same_truth false true f g = g refl
same_truth false false f g = refl

pub some-found : (f : ℕ → Bool) (n : ℕ) → some f n ≡ true → (c : ℕ) × (c < n) × (f c ≡ true)
unfolding some
some-found f zero h = absurd (true≢false (sym h))
some-found f (suc n) h =
    ⊎_elim
    (λ (l : some f n ≡ true). let p = some-found f n l in (p.0, omega arith, p.2))
    (λ (r : f n ≡ true). (n, omega arith, r))
    (either (some f n) (f n) h)

pub some_holds : (f : ℕ → Bool) (n c : ℕ) → c < n → f c ≡ true → some f n ≡ true
unfolding some
some_holds f zero c l h = absurd (omega arith)
some_holds f (suc n) c l h =
    ⊎_elim
    (λ (e : suc c ≡ suc n). let i : c ≡ n = omega arith in or-second (some f n) (rw i at h))
    (λ (i : suc c < suc n). rw (some_holds f n c (omega arith) h))
    (eq-or-lt_of_le l)

-- tests that agree below n
pub some_same : (f g : ℕ → Bool) (n : ℕ) → ((c : ℕ) → c < n → f c ≡ g c) → some f n ≡ some g n
unfolding some
some_same f g zero h = refl
some_same f g (suc n) h = rw (some_same f g n (λ c l. h c (omega arith)), h n (omega arith))

-- numbers that do not pass may be left out at the end
pub some-skip : (f : ℕ → Bool) (a b : ℕ) → a ≤ b → ((c : ℕ) → a ≤ c → c < b → f c ≡ false) → some f b ≡ some f a
some-skip f a b l h =
    same_truth (some f b) (some f a)
    (λ t. let p = some-found f b t in
    ⊎_elim
    (λ (i : p.0 < a). some_holds f a p.0 i p.2)
    (λ (i : a ≤ p.0). absurd (true≢false (sym p.2 ∙ h p.0 i p.1)))
    (below_or p.0 a))
    (λ t. let p = some-found f a t in some_holds f b p.0 (omega arith) p.2)

module _ (A : ℕ → Bool) (B : ℕ → ℕ → Bool) (low e c : ℕ) where
  -- what a cut gives, and what gives a cut
  pub cut-true : cut_at A B low e c ≡ true → (low ≤ c) × (c ≤ e) × (A c ≡ true) × (B c (e - c) ≡ true)
  unfolding cut_at
  cut-true h =
      let p = each (leb low c) _ h in
      let q = each (leb c e) _ p.1 in
      let r = each (A c) _ q.1 in
      (leb-true low c p.0, leb-true c e q.0, r.0, r.1)

  pub cut_holds : low ≤ c → c ≤ e → A c ≡ true → B c (e - c) ≡ true → cut_at A B low e c ≡ true
  unfolding cut_at
  cut_holds l h a b = rw (le-leb low c l, le-leb c e h, a, b)

  -- below low and beyond the part there is no cut, and none whose first side does not hold
  pub cut_low : c < low → cut_at A B low e c ≡ false
  cut_low l = never_true (cut_at A B low e c) (λ h. let p = cut-true h in omega arith)

  pub cut-past : e < c → cut_at A B low e c ≡ false
  cut-past l = never_true (cut_at A B low e c) (λ h. let p = cut-true h in omega arith)

  pub cut-unset : A c ≡ false → cut_at A B low e c ≡ false
  cut-unset z = never_true (cut_at A B low e c) (λ h. true≢false (sym (cut-true h).2 ∙ z))

  -- a cut whose first side holds is one exactly where its second does
  pub cut-second : low ≤ c → c ≤ e → A c ≡ true → cut_at A B low e c ≡ B c (e - c)
  cut-second l h a = same_truth (cut_at A B low e c) (B c (e - c)) (λ t. (cut-true t).3) (cut_holds l h a)

-- cuts of sides that agree within the part agree
pub cut-same : (A A' : ℕ → Bool) (B B' : ℕ → ℕ → Bool) (low e c : ℕ)
    → (low ≤ c → c ≤ e → A c ≡ A' c)
    → (low ≤ c → c ≤ e → B c (e - c) ≡ B' c (e - c))
    → cut_at A B low e c ≡ cut_at A' B' low e c
cut-same A A' B B' low e c a b =
    same_truth (cut_at A B low e c) (cut_at A' B' low e c)
    (λ h. let p = cut-true A B low e c h in
    cut_holds A' B' low e c p.0 p.1 (sym (a p.0 p.1) ∙ p.2) (sym (b p.0 p.1) ∙ p.3))
    (λ h. let p = cut-true A' B' low e c h in
    cut_holds A B low e c p.0 p.1 (a p.0 p.1 ∙ p.2) (b p.0 p.1 ∙ p.3))
