-- Which rests of a line can become lines of a record, by its kind and by what the area tells of its children.
-- Assumes nothing.
use Prim.Native.Nat.{ℕ, ◌+◌, ◌-◌, ◌≤◌, ◌<◌}
use native.Mathlib.Nat.{le_refl}
use native.Mathlib.Omega.{arith}
use mathlib.Core.Path.{◌≡◌, refl, sym, ap, ◌∙◌, subst}
use mathlib.Core.Bool.{Bool, true, false, ◌||◌, true≢false}
use mathlib.Core.Logic.{◌⊎◌, inl, inr, ⊎_map}
use mathlib.Core.List.{List, [], ◌∷◌, ◌++◌}
use lib.ListN.{length, get_or, length-append}
use Rattle.posix.specs.Expressions.{ByteSet, holds, Exp, nothing, empty, letter, seq, star}
use Rattle.posix.specs.Language.{Parts}
use Rattle.posix.specs.Spells.{spells}
use Rattle.posix.specs.Extends.{holds_some, extends}
use Rattle.posix.proofs.Extends.{seq-extends-sound, seq-extends-first, seq-extends-cut, star-extends-sound, star-extends-cut}
use Rattle.table.specs.Records.{count, kind_at, a_at, b_at, is_letter}
use Rattle.table.specs.Letters.{byte_set_at}
use Rattle.table.specs.Expression.{exp_of}
use Rattle.table.proofs.Laws.{exp-nothing, exp-empty, exp-letter, exp-or, exp-seq, exp-star}
use Rattle.table.proofs.Passing.{a-below, b-below, star-a-below}
use Rattle.rows.specs.Layout.{tells}
use Rattle.area.specs.Area.{part}
use Rattle.area.proofs.Parts.{part_length, part_none, part-one, part_cut, same-cut}
use Rattle.reach.specs.Reaching.{rest, goes_on, spells_some, Known}

-- a rest joined from two lines is cut behind the first
rest-cut :
    (s : List ℕ) (d : ℕ) (s1 s2 : List ℕ) → d ≤ length s → rest s d ≡ s1 ++ s2
    → (length s1 ≤ d) × (s1 ≡ part s d (length s1)) × (s2 ≡ rest s (d - length s1))
rest-cut s d s1 s2 h j =
    let l : d ≡ length s1 + length s2 = sym (part_length s d d h (le_refl d)) ∙ ap length j ∙ length-append s1 s2 in
    let i : length s1 ≤ d = omega arith in
    let m : length (part s d (length s1)) ≡ length s1 = part_length s d (length s1) h i in
    let c : (s1 ≡ part s d (length s1)) × (s2 ≡ part s (d - length s1) (d - length s1)) =
    same-cut s1 s2 (part s d (length s1)) (part s (d - length s1) (d - length s1)) (sym j ∙ part_cut s d d (length s1) h (le_refl d) i) (sym m) in
    (i, c.0, c.1)

-- what Empty and a letter extend
empty-nil : (u : List ℕ) → extends empty u ≡ true → u ≡ []
empty-nil [] e = refl
empty-nil (c ∷ u) e = absurd (true≢false (sym e))

letter-short :
    (b : ByteSet) (u : List ℕ) → extends (letter b) u ≡ true
    → ((u ≡ []) × (holds_some b ≡ true)) ⊎ ((c : ℕ) × (u ≡ c ∷ []) × (holds b c ≡ true))
letter-short b [] e = inl (refl, e)
letter-short b (c ∷ []) e = inr (c, refl, e)
letter-short b (c ∷ (d ∷ u)) e = absurd (true≢false (sym e))

-- a rest of d bytes has d bytes
rest-size : (s : List ℕ) (d : ℕ) (u : List ℕ) → d ≤ length s → rest s d ≡ u → d ≡ length u
rest-size s d u h e = sym (part_length s d d h (le_refl d)) ∙ ap length e

module _ {t s w : List ℕ} (p : Known t s w) (k : ℕ) (l : k < count t) where
  -- Nothing
  pub nothing-on : kind_at t k ≡ 0 → (d : ℕ) → goes_on t s k d ≡ true → ⊥
  nothing-on z d e =
      let g : extends nothing (rest s d) ≡ true = subst (λ (r : Exp). extends r (rest s d) ≡ true) (exp-nothing t k z) e in
      true≢false (sym g)

  -- Empty: where no byte is left
  pub empty-on : kind_at t k ≡ 1 → goes_on t s k 0 ≡ true
  empty-on z = rw (exp-empty t k z, part_none s 0)

  pub empty-on-only : kind_at t k ≡ 1 → (d : ℕ) → d ≤ length s → goes_on t s k d ≡ true → d ≡ 0
  empty-on-only z d h e =
      let g : extends empty (rest s d) ≡ true = subst (λ (r : Exp). extends r (rest s d) ≡ true) (exp-empty t k z) e in
      rest-size s d [] h (empty-nil (rest s d) g)

  -- a letter: where no byte is left and it holds some byte, or one is left and it holds that
  pub letter-on-none : is_letter t k ≡ true → holds_some (byte_set_at t k) ≡ true → goes_on t s k 0 ≡ true
  letter-on-none z e = rw (exp-letter t k z, part_none s 0) e

  pub letter-on-one : is_letter t k ≡ true → 1 ≤ length s → holds (byte_set_at t k) (get_or s (length s - 1) 0) ≡ true → goes_on t s k 1 ≡ true
  letter-on-one z h e = rw (exp-letter t k z, part-one s 1 (omega arith) h) e

  pub letter-on-only :
      is_letter t k ≡ true → (d : ℕ) → d ≤ length s → goes_on t s k d ≡ true
      → ((d ≡ 0) × (holds_some (byte_set_at t k) ≡ true)) ⊎ ((d ≡ 1) × (holds (byte_set_at t k) (get_or s (length s - 1) 0) ≡ true))
  letter-on-only z d h e =
      let g : extends (letter (byte_set_at t k)) (rest s d) ≡ true =
      subst (λ (r : Exp). extends r (rest s d) ≡ true) (exp-letter t k z) e in
      ⊎_map (λ (x : (rest s d ≡ []) × (holds_some (byte_set_at t k) ≡ true)). (rest-size s d [] h x.0, x.1)) one (letter-short (byte_set_at t k) (rest s d) g)
    where
      one :
          (c : ℕ) × (rest s d ≡ c ∷ []) × (holds (byte_set_at t k) c ≡ true)
          → (d ≡ 1) × (holds (byte_set_at t k) (get_or s (length s - 1) 0) ≡ true)
      one (c, x, y) =
          let n : d ≡ 1 = rest-size s d (c ∷ []) h x in
          let v : rest s 1 ≡ c ∷ [] = subst (λ (i : ℕ). rest s i ≡ c ∷ []) n x in
          let same : get_or s (length s - 1) 0 ≡ c =
          ap (λ (xs : List ℕ). get_or xs 0 0) (sym (part-one s 1 (omega arith) (omega arith)) ∙ v) in
          (n, rw same y)

  -- Or: where one of its children goes on
  module _ (z : kind_at t k ≡ 3) where
    pub or-a : a_at t k < k
    or-a = a-below t p.passes k l (inl z)

    pub or-b : b_at t k < k
    or-b = b-below t p.passes k l (inl z)

    or-on : (d : ℕ) → goes_on t s k d ≡ (goes_on t s (a_at t k) d || goes_on t s (b_at t k) d)
    or-on d = ap (λ (r : Exp). extends r (rest s d)) (exp-or t k z or-a or-b)

    pub or-on-a : (d : ℕ) → goes_on t s (a_at t k) d ≡ true → goes_on t s k d ≡ true
    or-on-a d e = or-on d ∙ rw e

    pub or-on-b : (d : ℕ) → goes_on t s (b_at t k) d ≡ true → goes_on t s k d ≡ true
    or-on-b d e = or-on d ∙ second (goes_on t s (a_at t k) d) e
      where
        second : (x : Bool) → goes_on t s (b_at t k) d ≡ true → (x || goes_on t s (b_at t k) d) ≡ true
        second true h = refl
        second false h = h

    pub or-on-only : (d : ℕ) → goes_on t s k d ≡ true → (goes_on t s (a_at t k) d ≡ true) ⊎ (goes_on t s (b_at t k) d ≡ true)
    or-on-only d e = which (goes_on t s (a_at t k) d) (sym (or-on d) ∙ e)
      where
        which : (x : Bool) → (x || goes_on t s (b_at t k) d) ≡ true → (x ≡ true) ⊎ (goes_on t s (b_at t k) d ≡ true)
        which true h = inl refl
        which false h = inr h

  -- what the area tells of a part is that the record spells it
  told-on : (j d e : ℕ) → j < count t → d ≤ length s → e ≤ d → tells (count t) w j d e ≡ spells (exp_of t j) (part s d e)
  told-on j d e i h g = p.told.fact j d e i h g

  -- a cut of a rest behind a part that the area tells of record `of`, where record `to` goes on
  pub record CutOn (of to d : ℕ) : Type 0 where
    pub cut : ℕ
    pub inside : cut ≤ d
    pub told : tells (count t) w of d cut ≡ true
    pub on : goes_on t s to (d - cut) ≡ true

  cut_parts :
      (of to d : ℕ) → of < count t → d ≤ length s → CutOn of to d
      → Parts (λ u. spells (exp_of t of) u ≡ true) (λ u. extends (exp_of t to) u ≡ true) (rest s d)
  cut_parts of to d i h c =
      record {
        s1 = part s d c.cut;
        s2 = rest s (d - c.cut);
        joined = part_cut s d d c.cut h (le_refl d) c.inside;
        first = sym (told-on of d c.cut i h c.inside) ∙ c.told;
        second = c.on;
      }

  parts_cut :
      (of to d : ℕ) → of < count t → d ≤ length s
      → Parts (λ u. spells (exp_of t of) u ≡ true) (λ u. extends (exp_of t to) u ≡ true) (rest s d)
      → CutOn of to d
  parts_cut of to d i h c =
      let x : (length c.s1 ≤ d) × (c.s1 ≡ part s d (length c.s1)) × (c.s2 ≡ rest s (d - length c.s1)) =
      rest-cut s d c.s1 c.s2 h c.joined in
      record {
        cut = length c.s1;
        inside = x.0;
        told =
            told-on of d (length c.s1) i h x.0
            ∙ subst (λ (u : List ℕ). spells (exp_of t of) u ≡ true) x.1 c.first;
        on = subst (λ (u : List ℕ). extends (exp_of t to) u ≡ true) x.2 c.second;
      }

  -- Seq: where the first child goes on and the second spells some line, or behind a part of the first where the second goes on
  module _ (z : kind_at t k ≡ 4) where
    pub seq-a : a_at t k < k
    seq-a = a-below t p.passes k l (inr z)

    pub seq-b : b_at t k < k
    seq-b = b-below t p.passes k l (inr z)

    seq-exp : exp_of t k ≡ seq (exp_of t (a_at t k)) (exp_of t (b_at t k))
    seq-exp = exp-seq t k z seq-a seq-b

    pub seq-on-first : (d : ℕ) → goes_on t s (a_at t k) d ≡ true → spells_some t (b_at t k) ≡ true → goes_on t s k d ≡ true
    seq-on-first d e f =
        subst (λ (r : Exp). extends r (rest s d) ≡ true) (sym seq-exp) (seq-extends-first (exp_of t (a_at t k)) (exp_of t (b_at t k)) (rest s d) e f)

    pub seq-on-cut : (d : ℕ) → d ≤ length s → CutOn (a_at t k) (b_at t k) d → goes_on t s k d ≡ true
    seq-on-cut d h c =
        subst (λ (r : Exp). extends r (rest s d) ≡ true) (sym seq-exp)
        (seq-extends-cut (exp_of t (a_at t k)) (exp_of t (b_at t k)) (rest s d) (cut_parts (a_at t k) (b_at t k) d (omega (arith, seq-a)) h c))

    pub seq-on-only :
        (d : ℕ) → d ≤ length s → goes_on t s k d ≡ true
        → ((goes_on t s (a_at t k) d ≡ true) × (spells_some t (b_at t k) ≡ true)) ⊎ CutOn (a_at t k) (b_at t k) d
    seq-on-only d h e =
        ⊎_map (λ (x : (extends (exp_of t (a_at t k)) (rest s d) ≡ true) × (extends (exp_of t (b_at t k)) [] ≡ true)). x)
        (parts_cut (a_at t k) (b_at t k) d (omega (arith, seq-a)) h)
        (seq-extends-sound (exp_of t (a_at t k)) (exp_of t (b_at t k)) (rest s d) (subst (λ (r : Exp). extends r (rest s d) ≡ true) seq-exp e))

  -- Star: where no byte is left, or behind a part of itself where its child goes on
  module _ (z : kind_at t k ≡ 5) where
    pub star-a : a_at t k < k
    star-a = star-a-below t p.passes k l z

    star-exp : exp_of t k ≡ star (exp_of t (a_at t k))
    star-exp = exp-star t k z star-a

    pub star-on-none : goes_on t s k 0 ≡ true
    star-on-none = rw (star-exp, part_none s 0)

    pub star-on-cut : (d : ℕ) → d ≤ length s → CutOn k (a_at t k) d → goes_on t s k d ≡ true
    star-on-cut d h c =
        subst (λ (r : Exp). extends r (rest s d) ≡ true) (sym star-exp)
        (star-extends-cut (exp_of t (a_at t k)) (rest s d)
        (subst (λ (r : Exp). Parts (λ u. spells r u ≡ true) (λ u. extends (exp_of t (a_at t k)) u ≡ true) (rest s d)) star-exp
        (cut_parts k (a_at t k) d l h c)))

    pub star-on-only : (d : ℕ) → d ≤ length s → goes_on t s k d ≡ true → (d ≡ 0) ⊎ CutOn k (a_at t k) d
    star-on-only d h e =
        ⊎_map (λ (x : rest s d ≡ []). rest-size s d [] h x)
        (λ x.
        parts_cut k (a_at t k) d l h
        (subst (λ (r : Exp). Parts (λ u. spells r u ≡ true) (λ u. extends (exp_of t (a_at t k)) u ≡ true) (rest s d)) (sym star-exp) x))
        (star-extends-sound (exp_of t (a_at t k)) (rest s d) (subst (λ (r : Exp). extends r (rest s d) ≡ true) star-exp e))
