-- From every record of a table that passes the exchanged table spells the same lines. Alternatives may share lines here.
-- Assumes nothing.
use Prim.Native.Nat.{ℕ, zero, suc, ◌<◌}
use native.Mathlib.Omega.{arith}
use mathlib.Core.Path.{◌≡◌, refl, sym, ◌∙◌, ap, ap₂, subst}
use mathlib.Core.Logic.{◌⊎◌, inl, inr, ⊎_elim, ⊎_map, ◌↔◌}
use mathlib.Core.Bool.{Bool, true, false}
use mathlib.Core.List.{List}
use Rattle.posix.specs.Expressions.{ByteSet, Exp, nothing, empty, letter, or, seq, star}
use Rattle.posix.specs.Language.{L}
use Rattle.posix.proofs.Languages.{parts-map, iterated-map}
use Rattle.table.specs.Records.{count, kind_at, a_at, b_at}
use Rattle.table.specs.Faults.{Passes}
use Rattle.table.specs.Expression.{exp_of}
use Rattle.table.specs.Letters.{byte_set_at}
use Rattle.table.proofs.Laws.{exp-nothing, exp-empty, exp-letter, exp-or, exp-seq, exp-star}
use Rattle.table.proofs.Passing.{letter_at, kind-small, a-below, b-below, star-a-below}
use Rattle.reorder.proofs.Exchanging.{Exchanged}
use Rattle.reorder.proofs.Checking.{same-a, same-b, crossed-a, crossed-b, is-three}

-- record j's expressions by both tables, by those of its children, which its fields in the first one name
pub data Twin (x : ℕ → Bool) (t u : List ℕ) (j : ℕ) : Exp → Exp → Type 0 where
  twin_nothing : Twin x t u j nothing nothing
  twin_empty : Twin x t u j empty empty
  twin_letter : (b : ByteSet) → Twin x t u j (letter b) (letter b)
  twin-or :
      {r1 r2 r1' r2' : Exp} → x j ≡ false → a_at t j < j → b_at t j < j
      → exp_of t (a_at t j) ≡ r1 → exp_of t (b_at t j) ≡ r2 → exp_of u (a_at t j) ≡ r1' → exp_of u (b_at t j) ≡ r2'
      → Twin x t u j (or r1 r2) (or r1' r2')
  twin-crossed :
      {r1 r2 r1' r2' : Exp} → x j ≡ true → a_at t j < j → b_at t j < j
      → exp_of t (a_at t j) ≡ r1 → exp_of t (b_at t j) ≡ r2 → exp_of u (a_at t j) ≡ r1' → exp_of u (b_at t j) ≡ r2'
      → Twin x t u j (or r1 r2) (or r2' r1')
  twin-seq :
      {r1 r2 r1' r2' : Exp} → x j ≡ false → a_at t j < j → b_at t j < j
      → exp_of t (a_at t j) ≡ r1 → exp_of t (b_at t j) ≡ r2 → exp_of u (a_at t j) ≡ r1' → exp_of u (b_at t j) ≡ r2'
      → Twin x t u j (seq r1 r2) (seq r1' r2')
  twin_star :
      {r1 r1' : Exp} → x j ≡ false → a_at t j < j → exp_of t (a_at t j) ≡ r1 → exp_of u (a_at t j) ≡ r1' → Twin x t u j (star r1) (star r1')

pub twin-at : {x : ℕ → Bool} {t u : List ℕ} {j : ℕ} {r r' s s' : Exp} → r ≡ s → r' ≡ s' → Twin x t u j r r' → Twin x t u j s s'
twin-at {x} {t} {u} {j} {r} {r'} {s} {s'} e f w = subst (λ (y : Exp). Twin x t u j y s') e (subst (λ (y : Exp). Twin x t u j r y) f w)

-- the two spell the same lines
abbrev pub SameLines : Exp → Exp → Type 0
SameLines r r' = (s : List ℕ) → L r s ↔ L r' s

pub lines-at : {r r' s s' : Exp} → r ≡ s → r' ≡ s' → SameLines r r' → SameLines s s'
lines-at {r} {r'} {s} {s'} e f w = subst (λ (y : Exp). SameLines y s') e (subst (λ (y : Exp). SameLines r y) f w)

module _ {x : ℕ → Bool} {t u : List ℕ} (e : Exchanged x t u) (p : Passes t) where
  -- a record of another kind than Or is as it was
  plain : (j n : ℕ) → kind_at t j ≡ n → ¬ (n ≡ 3) → x j ≡ false
  plain j n f d = go (x j) refl
    where
      go : (y : Bool) → x j ≡ y → y ≡ false
      go true g = absurd (d (sym f ∙ is-three e j g))
      go false g = refl

  same-letter : (j n : ℕ) → kind_at t j ≡ n → ¬ (n ≡ 3) → byte_set_at u j ≡ byte_set_at t j
  same-letter j n f d = rw (e.kind j, same-a e j (plain j n f d), same-b e j (plain j n f d))

  pub twin : (j : ℕ) → j < count t → Twin x t u j (exp_of t j) (exp_of u j)
  twin j l = go (kind_at t j) refl
    where
      kind-u : {n : ℕ} → kind_at t j ≡ n → kind_at u j ≡ n
      kind-u f = e.kind j ∙ f

      two-or : kind_at t j ≡ 3 → a_at t j < j → b_at t j < j → (y : Bool) → x j ≡ y → Twin x t u j (exp_of t j) (exp_of u j)
      two-or f la lb true g =
          let ca : a_at u j ≡ b_at t j = crossed-a e j g in
          let cb : b_at u j ≡ a_at t j = crossed-b e j g in
          let q : exp_of u j ≡ or (exp_of u (b_at t j)) (exp_of u (a_at t j)) =
          exp-or u j (kind-u f) (omega (arith, ca)) (omega (arith, cb)) ∙ ap₂ (λ (m n : ℕ). or (exp_of u m) (exp_of u n)) ca cb in
          rw (exp-or t j f la lb, q) (twin-crossed g la lb refl refl refl refl)
      two-or f la lb false g =
          let ca : a_at u j ≡ a_at t j = same-a e j g in
          let cb : b_at u j ≡ b_at t j = same-b e j g in
          let q : exp_of u j ≡ or (exp_of u (a_at t j)) (exp_of u (b_at t j)) =
          exp-or u j (kind-u f) (omega (arith, ca)) (omega (arith, cb)) ∙ ap₂ (λ (m n : ℕ). or (exp_of u m) (exp_of u n)) ca cb in
          rw (exp-or t j f la lb, q) (twin-or g la lb refl refl refl refl)

      two-seq : kind_at t j ≡ 4 → a_at t j < j → b_at t j < j → Twin x t u j (exp_of t j) (exp_of u j)
      two-seq f la lb =
          let g : x j ≡ false = plain j 4 f (λ (z : 4 ≡ 3). omega arith) in
          let ca : a_at u j ≡ a_at t j = same-a e j g in
          let cb : b_at u j ≡ b_at t j = same-b e j g in
          let q : exp_of u j ≡ seq (exp_of u (a_at t j)) (exp_of u (b_at t j)) =
          exp-seq u j (kind-u f) (omega (arith, ca)) (omega (arith, cb)) ∙ ap₂ (λ (m n : ℕ). seq (exp_of u m) (exp_of u n)) ca cb in
          rw (exp-seq t j f la lb, q) (twin-seq g la lb refl refl refl refl)

      one-star : kind_at t j ≡ 5 → a_at t j < j → Twin x t u j (exp_of t j) (exp_of u j)
      one-star f la =
          let g : x j ≡ false = plain j 5 f (λ (z : 5 ≡ 3). omega arith) in
          let ca : a_at u j ≡ a_at t j = same-a e j g in
          let q : exp_of u j ≡ star (exp_of u (a_at t j)) = exp-star u j (kind-u f) (omega (arith, ca)) ∙ ap (λ (m : ℕ). star (exp_of u m)) ca in
          rw (exp-star t j f la, q) (twin_star g la refl refl)

      one-letter : (n : ℕ) → kind_at t j ≡ n → ¬ (n ≡ 3) → (n ≡ 2) ⊎ (n ≡ 6) → Twin x t u j (exp_of t j) (exp_of u j)
      one-letter n f d k =
          let q : exp_of u j ≡ letter (byte_set_at t j) = exp-letter u j (letter_at u j (sym (kind-u f)) k) ∙ ap letter (same-letter j n f d) in
          rw (exp-letter t j (letter_at t j (sym f) k), q) (twin_letter (byte_set_at t j))

      go : (n : ℕ) → kind_at t j ≡ n → Twin x t u j (exp_of t j) (exp_of u j)
      go zero f = rw (exp-nothing t j f, exp-nothing u j (kind-u f)) twin_nothing
      go (suc zero) f = rw (exp-empty t j f, exp-empty u j (kind-u f)) twin_empty
      go (suc (suc zero)) f = one-letter 2 f (λ (z : 2 ≡ 3). omega arith) (inl refl)
      go (suc (suc (suc zero))) f = two-or f (a-below t p j l (inl f)) (b-below t p j l (inl f)) (x j) refl
      go (suc (suc (suc (suc zero)))) f = two-seq f (a-below t p j l (inr f)) (b-below t p j l (inr f))
      go (suc (suc (suc (suc (suc zero))))) f = one-star f (star-a-below t p j l f)
      go (suc (suc (suc (suc (suc (suc zero)))))) f = one-letter 6 f (λ (z : 6 ≡ 3). omega arith) (inr refl)
      go (suc (suc (suc (suc (suc (suc (suc n))))))) f = absurd (omega (arith, kind-small t p j l))

  -- a record's lines, by those of the records below it
  twin-lines : (j : ℕ) {r r' : Exp} → Twin x t u j r r' → ((i : ℕ) → i < j → SameLines (exp_of t i) (exp_of u i)) → SameLines r r'
  twin-lines j twin_nothing f s = (λ l. l, λ l. l)
  twin-lines j twin_empty f s = (λ l. l, λ l. l)
  twin-lines j (twin_letter b) f s = (λ l. l, λ l. l)
  twin-lines j (twin-or {r1} {r2} {r1'} {r2'} g la lb ta tb ua ub) f s =
      let m : SameLines r1 r1' = lines-at ta ua (f (a_at t j) la) in
      let n : SameLines r2 r2' = lines-at tb ub (f (b_at t j) lb) in
      (⊎_map (m s).0 (n s).0, ⊎_map (m s).1 (n s).1)
  twin-lines j (twin-crossed {r1} {r2} {r1'} {r2'} g la lb ta tb ua ub) f s =
      let m : SameLines r1 r1' = lines-at ta ua (f (a_at t j) la) in
      let n : SameLines r2 r2' = lines-at tb ub (f (b_at t j) lb) in
      (⊎_elim (λ l. inr ((m s).0 l)) (λ l. inl ((n s).0 l)), ⊎_elim (λ l. inr ((n s).1 l)) (λ l. inl ((m s).1 l)))
  twin-lines j (twin-seq {r1} {r2} {r1'} {r2'} g la lb ta tb ua ub) f s =
      let m : SameLines r1 r1' = lines-at ta ua (f (a_at t j) la) in
      let n : SameLines r2 r2' = lines-at tb ub (f (b_at t j) lb) in
      (parts-map (λ v. (m v).0) (λ v. (n v).0), parts-map (λ v. (m v).1) (λ v. (n v).1))
  twin-lines j (twin_star {r1} {r1'} g la ta ua) f s =
      let m : SameLines r1 r1' = lines-at ta ua (f (a_at t j) la) in
      (iterated-map (λ v. (m v).0), iterated-map (λ v. (m v).1))

  lines-below : (n j : ℕ) → j < n → j < count t → SameLines (exp_of t j) (exp_of u j)
  lines-below zero j m l = absurd (omega arith)
  lines-below (suc n) j m l = twin-lines j (twin j l) (λ i h. lines-below n i (omega arith) (omega arith))

  pub same_lines : (j : ℕ) → j < count t → SameLines (exp_of t j) (exp_of u j)
  same_lines j l = lines-below (suc j) j (omega arith) l
