-- The marks that the loops of the search have set so far.
-- Assumes nothing.
use Prim.Native.Nat.{ℕ, ◌+◌, ◌-◌, ◌≤◌, ◌<◌}
use native.Mathlib.Omega.{arith}
use mathlib.Core.Path.{◌≡◌, sym, ◌∙◌, subst}
use mathlib.Core.Bool.{Bool, true, false, true≢false}
use mathlib.Core.Logic.{◌⊎◌, inl, inr, ⊎_elim}
use mathlib.Core.List.{List}
use Rattle.marks.specs.Marks.{marked, MarkedAll, NextMarked}
use Rattle.marks.proofs.Laws.{marked-as, marked-none, marked-then}
use Rattle.rows.specs.Layout.{tells}
use Rattle.rows.proofs.Cuts.{below_or}
use Rattle.reach.specs.Reaching.{place, If, RestOf, RestOfRow}

-- the numbers of P where the test is true
pub marked-if : {P : ℕ → Type 0} {ws ws' : List ℕ} {b : Bool} → b ≡ true → MarkedAll P ws ws' → MarkedAll (If b P) ws ws'
marked-if e = marked-as (λ j p. (e, p)) (λ j p. p.1)

pub marked-if-not : {P : ℕ → Type 0} {ws : List ℕ} {b : Bool} → b ≡ false → MarkedAll (If b P) ws ws
marked-if-not e = marked-none (λ j p. true≢false (sym p.0 ∙ e))

-- the rests behind parts of fewer than n bytes
pub record RestBelow (n m : ℕ) (w : List ℕ) (of to d i : ℕ) : Type 0 where
  pub one : RestOf m w of to d i
  pub below : one.cut < n

module _ {m : ℕ} {w : List ℕ} {of to d : ℕ} {us : List ℕ} where
  pub rests-none : {e : ℕ} → e ≤ 0 → MarkedAll (RestBelow e m w of to d) us us
  rests-none l = marked-none (λ j p. omega (arith, p.below))

  pub rests-more :
      (e : ℕ) {vs ws : List ℕ} {b : Bool} → e ≤ d → MarkedAll (RestBelow e m w of to d) us vs → b ≡ tells m w of d e
      → MarkedAll (If b (λ j. j ≡ place to (d - e))) vs ws
      → MarkedAll (RestBelow (e + 1) m w of to d) us ws
  rests-more e {vs} {ws} l p f q =
      marked-then which earlier here p (subst (λ (x : Bool). MarkedAll (If x (λ j. j ≡ place to (d - e))) vs ws) f q)
    where
      which : (j : ℕ) → RestBelow (e + 1) m w of to d j → RestBelow e m w of to d j ⊎ If (tells m w of d e) (λ i. i ≡ place to (d - e)) j
      which j x =
          ⊎_elim
          (λ (h : x.one.cut < e). inl (record { one = x.one; below = h }))
          (λ (h : e ≤ x.one.cut).
          let same : x.one.cut ≡ e = omega (arith, x.below) in
          inr (
            subst (λ (c : ℕ). tells m w of d c ≡ true) same x.one.told,
            subst (λ (c : ℕ). j ≡ place to (d - c)) same x.one.number,
          ))
          (below_or x.one.cut e)

      earlier : (j : ℕ) → RestBelow e m w of to d j → RestBelow (e + 1) m w of to d j
      earlier j x = record { one = x.one; below = omega (arith, x.below) }

      here : (j : ℕ) → If (tells m w of d e) (λ i. i ≡ place to (d - e)) j → RestBelow (e + 1) m w of to d j
      here j (t, n) = record { one = record { cut = e; inside = l; told = t; number = n }; below = omega arith }

  pub rests-all : (e : ℕ) {vs : List ℕ} → d < e → MarkedAll (RestBelow e m w of to d) us vs → MarkedAll (RestOf m w of to d) us vs
  rests-all e l = marked-as (λ j x. x.one) (λ j x. record { one = x; below = omega (arith, x.inside) })

-- the marks of the row below `end`
pub record RowBelow (end m : ℕ) (w row : List ℕ) (n of to i : ℕ) : Type 0 where
  pub one : RestOfRow m w row n of to i
  pub below : one.left < end

module _ {m : ℕ} {w row : List ℕ} {n of to : ℕ} {us : List ℕ} where
  -- no mark stands before the first
  pub row-none : {d : ℕ} → NextMarked row 0 (n + 1) d → MarkedAll (RowBelow d m w row n of to) us us
  row-none p = marked-none (λ j x. true≢false (sym x.one.there ∙ p.passed x.one.left (omega arith) x.below))

  -- the row's mark d, and none up to the next
  pub row_more :
      (d : ℕ) {e : ℕ} {vs ws : List ℕ} → d ≤ n → MarkedAll (RowBelow d m w row n of to) us vs
      → MarkedAll (If (marked row d) (RestOf m w of to d)) vs ws
      → NextMarked row (d + 1) (n + 1) e
      → MarkedAll (RowBelow e m w row n of to) us ws
  row_more d {e} l p q r = marked-then which earlier here p q
    where
      which : (j : ℕ) → RowBelow e m w row n of to j → RowBelow d m w row n of to j ⊎ If (marked row d) (RestOf m w of to d) j
      which j x =
          ⊎_elim
          (λ (h : x.one.left < d). inl (record { one = x.one; below = h }))
          (λ (h : d ≤ x.one.left).
          ⊎_elim
          (λ (g : x.one.left < d + 1).
          let same : x.one.left ≡ d = omega arith in
          inr (
            subst (λ (c : ℕ). marked row c ≡ true) same x.one.there,
            subst (λ (c : ℕ). RestOf m w of to c j) same x.one.behind,
          ))
          (λ (g : d + 1 ≤ x.one.left). absurd (true≢false (sym x.one.there ∙ r.passed x.one.left g x.below)))
          (below_or x.one.left (d + 1)))
          (below_or x.one.left d)

      earlier : (j : ℕ) → RowBelow d m w row n of to j → RowBelow e m w row n of to j
      earlier j x = record { one = x.one; below = omega (arith, x.below, r.not_before) }

      here : (j : ℕ) → If (marked row d) (RestOf m w of to d) j → RowBelow e m w row n of to j
      here j (t, x) = record { one = record { left = d; within = l; there = t; behind = x }; below = omega (arith, r.not_before) }

  pub row-all :
      (d : ℕ) {vs : List ℕ} → n < d → MarkedAll (RowBelow d m w row n of to) us vs → MarkedAll (RestOfRow m w row n of to) us vs
  row-all d l = marked-as (λ j x. x.one) (λ j x. record { one = x; below = omega (arith, x.within) })
