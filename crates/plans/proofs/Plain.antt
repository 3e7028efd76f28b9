-- Plain records: what the expressions spell, what each store into the columns leaves, and one law for each way out of a function that finds
-- them.
-- Assumes nothing.
use Prim.Native.Nat.{ℕ, zero, suc, ◌+◌, ◌-◌, ◌≤◌, ◌<◌}
use native.Mathlib.Omega.{arith}
use mathlib.Core.Path.{◌≡◌, refl, sym, ap, ◌∙◌}
use mathlib.Core.Logic.{inl, inr, ⊎_elim}
use mathlib.Core.Bool.{Bool, true, false, true≢false, cond, ◌&&◌, ◌||◌}
use mathlib.Core.List.{List, [], ◌∷◌}
use lib.Dec.{leb, ltb, eqb}
use lib.ListN.{length, get_or, take, length-set}
use lib.Seq.{get_or-take, length-take-le, get_or-set_same, get_or-set_other}
use borrow.Author.Tests.{leb-true, le-leb, lt-leb, lt-ltb, eqb-true, ne_eqb}
use Rattle.posix.specs.Expressions.{ByteSet, within, outside, Exp, holds, letter, or, seq, star}
use Rattle.posix.specs.Language.{Bytes}
use Rattle.posix.specs.Spells.{spells}
use Rattle.posix.proofs.Spells.{each}
use Rattle.table.specs.Records.{count, kind_at, a_at, b_at, is_letter}
use Rattle.table.specs.Faults.{Passes}
use Rattle.table.specs.Expression.{exp_of}
use Rattle.table.proofs.Laws.{exp-letter, exp-or, exp-seq, exp-star}
use Rattle.table.proofs.Passing.{letter_at, letter-kinds, a-below, b-below, star-a-below, count-bound}
use Rattle.rows.specs.Cuts.{some, cut_at}
use Rattle.rows.proofs.Cuts.{same_truth, never_true, below_or, some-found, some_holds, cut-true, cut_holds}
use Rattle.rows.proofs.Recurrences.{starts, rests, star-cuts, seq-cuts-apart}
use Rattle.plans.specs.declared.Bounds.{Bounds}
use Rattle.plans.specs.Plans.{lead, UnitRow, RunRow, in_either, Columns, in_bounds, repeat_at, is_plain, Settled, Bounded, Put, PutOther, Repeated}

-- a letter
letter-spells : (b : ByteSet) (u : List ℕ) → spells (letter b) u ≡ (eqb (length u) 1 && holds b (get_or u 0 0))
letter-spells b [] = refl
letter-spells b (c ∷ []) = refl
letter-spells b (c ∷ (x ∷ u)) = rw (ne_eqb (suc (suc (length u))) 1 (λ (z : suc (suc (length u)) ≡ 1). omega arith))

letter-unit : (b : ByteSet) (C : ℕ → Bool) → ((c : ℕ) → c < 256 → holds b c ≡ C c) → UnitRow (letter b) C
letter-unit b C same =
    record {
      not_empty = refl;
      one = λ u bytes e l x.
          letter-spells b (take e u)
          ∙ rw (length-take-le e u x, get_or-take e u 0 0 l, same (get_or u 0 0) (bytes 0 (omega arith)));
    }

-- the same with another test that agrees on the bytes
unit-same : {r : Exp} {C : ℕ → Bool} (D : ℕ → Bool) → UnitRow r C → ((c : ℕ) → c < 256 → C c ≡ D c) → UnitRow r D
unit-same {r} {C} D p same =
    record {
      not_empty = p.not_empty;
      one = λ u bytes e l x.
          p.one u bytes e l x ∙ ap (λ (z : Bool). eqb e 1 && z) (same (get_or u 0 0) (bytes 0 (omega arith)));
    }

tail-bytes : (x : ℕ) (u : List ℕ) → Bytes (x ∷ u) → Bytes u
tail-bytes x u bytes i l = bytes (suc i) (omega arith)

lead-same : (C D : ℕ → Bool) → ((c : ℕ) → c < 256 → C c ≡ D c) → (u : List ℕ) → Bytes u → lead C u ≡ lead D u
unfolding lead
lead-same C D same [] bytes = refl
lead-same C D same (x ∷ u) bytes =
    rw (same x (bytes 0 (omega arith)), lead-same C D same u (tail-bytes x u bytes))

run-same : {r : Exp} {C : ℕ → Bool} (D : ℕ → Bool) → RunRow r C → ((c : ℕ) → c < 256 → C c ≡ D c) → RunRow r D
run-same {r} {C} D p same =
    record { all = λ u bytes e l x. p.all u bytes e l x ∙ ap (leb e) (lead-same C D same u bytes) }

-- two letters side by side
and-or : (x y z : Bool) → ((x && y) || (x && z)) ≡ (x && (y || z))
and-or true y z = refl
and-or false y z = refl

or-unit : {r r2 : Exp} (C D : ℕ → Bool) → UnitRow r C → UnitRow r2 D → UnitRow (or r r2) (λ c. C c || D c)
or-unit {r} {r2} C D p q =
    record {
      not_empty = rw (p.not_empty, q.not_empty);
      one = λ u bytes e l x.
          rw (p.one u bytes e l x, q.one u bytes e l x) (and-or (eqb e 1) (C (get_or u 0 0)) (D (get_or u 0 0)));
    }

-- where the first side holds behind 1 byte alone, one cut is left
first-cut :
    (A : ℕ → Bool) (B : ℕ → ℕ → Bool) (q : Bool) (e : ℕ) → 1 ≤ e → ((c : ℕ) → 1 ≤ c → c ≤ e → A c ≡ (eqb c 1 && q))
    → some (cut_at A B 1 e) (suc e) ≡ (q && B 1 (e - 1))
first-cut A B q e one h = same_truth _ _ apart together
  where
    go : (c : ℕ) → (1 ≤ c) × (c ≤ e) × (A c ≡ true) × (B c (e - c) ≡ true) → (q && B 1 (e - 1)) ≡ true
    go c p =
        let g = each (eqb c 1) q (sym (h c p.0 p.1) ∙ p.2) in
        let same : c ≡ 1 = eqb-true c 1 g.0 in
        let b : B 1 (e - 1) ≡ true = rw same at p.3 in
        rw (g.1, b)

    apart : some (cut_at A B 1 e) (suc e) ≡ true → (q && B 1 (e - 1)) ≡ true
    apart x =
        let f = some-found (cut_at A B 1 e) (suc e) x in
        go f.0 (cut-true A B 1 e f.0 f.2)

    together : (q && B 1 (e - 1)) ≡ true → some (cut_at A B 1 e) (suc e) ≡ true
    together x =
        let p = each q (B 1 (e - 1)) x in
        some_holds (cut_at A B 1 e) (suc e) 1 (omega arith)
        (cut_holds A B 1 e 1 (omega arith) one (h 1 (omega arith) one ∙ p.0) p.1)

lead-step : (b : Bool) (e n : ℕ) → (b && leb e n) ≡ leb (suc e) (cond b (suc n) 0)
lead-step true e n =
    same_truth (leb e n) (leb (suc e) (suc n))
    (λ h. let l : e ≤ n = leb-true e n h in le-leb (suc e) (suc n) (omega arith))
    (λ h. let l : suc e ≤ suc n = leb-true (suc e) (suc n) h in le-leb e n (omega arith))
lead-step false e n = sym (lt-leb (suc e) 0 (omega arith))

-- one byte that passes, and then a row of such bytes
step_run :
    {r : Exp} {C : ℕ → Bool} (r2 : Exp) → UnitRow r C → (x : ℕ) (u : List ℕ) → Bytes (x ∷ u) → (e : ℕ) → e ≤ length u
    → spells r2 (take e u) ≡ leb e (lead C u)
    → some (cut_at (starts r (x ∷ u)) (rests r2 (x ∷ u)) 1 (suc e)) (suc (suc e)) ≡ leb (suc e) (lead C (x ∷ u))
unfolding lead
step_run {r} {C} r2 p x u bytes e l h =
    let less : suc e - 1 ≡ e = omega arith in
    first-cut (starts r (x ∷ u)) (rests r2 (x ∷ u)) (C x) (suc e) (omega arith)
    (λ c i j. p.one (x ∷ u) bytes c i (omega arith))
    ∙ rw (less, h) (lead-step (C x) e (lead C u))

star-all :
    {r : Exp} {C : ℕ → Bool} → UnitRow r C → (u : List ℕ) → Bytes u → (e : ℕ) → e ≤ length u
    → spells (star r) (take e u) ≡ leb e (lead C u)
star-all {r} {C} p [] bytes zero l = sym (le-leb 0 (lead C []) (omega arith))
star-all {r} {C} p [] bytes (suc e) l = absurd (omega arith)
star-all {r} {C} p (x ∷ u) bytes zero l = sym (le-leb 0 (lead C (x ∷ u)) (omega arith))
star-all {r} {C} p (x ∷ u) bytes (suc e) l =
    star-cuts r (x ∷ u) (suc e) (omega arith) l
    ∙ step_run (star r) p x u bytes e (omega arith) (star-all p u (tail-bytes x u bytes) e (omega arith))

star-run : {r : Exp} {C : ℕ → Bool} → UnitRow r C → RunRow (star r) C
star-run p = record { all = λ u bytes e l x. star-all p u bytes e x }

-- a run with the empty line
run-all :
    {r : Exp} {C : ℕ → Bool} → RunRow r C → spells r [] ≡ true → (u : List ℕ) → Bytes u → (e : ℕ) → e ≤ length u
    → spells r (take e u) ≡ leb e (lead C u)
run-all {r} {C} p h u bytes zero l = h ∙ sym (le-leb 0 (lead C u) (omega arith))
run-all {r} {C} p h u bytes (suc e) l = p.all u bytes (suc e) (omega arith) l

seq-all :
    {r r2 : Exp} {C : ℕ → Bool} → UnitRow r C → RunRow r2 C → spells r2 [] ≡ true → (u : List ℕ) → Bytes u → (e : ℕ) → 1 ≤ e
    → e ≤ length u
    → spells (seq r r2) (take e u) ≡ leb e (lead C u)
seq-all {r} {r2} {C} p q h [] bytes e one l = absurd (omega arith)
seq-all {r} {r2} {C} p q h (x ∷ u) bytes zero one l = absurd (omega arith)
seq-all {r} {r2} {C} p q h (x ∷ u) bytes (suc e) one l =
    seq-cuts-apart r r2 (x ∷ u) (suc e) l
    ∙ rw p.not_empty (step_run r2 p x u bytes e (omega arith) (run-all q h u (tail-bytes x u bytes) e (omega arith)))

seq-run : {r r2 : Exp} {C : ℕ → Bool} → UnitRow r C → RunRow r2 C → spells r2 [] ≡ true → RunRow (seq r r2) C
seq-run p q h = record { all = seq-all p q h }

-- what the columns say after a store
module _ {k low high low2 high2 repeat : ℕ} {plain : Bool} {b b' : Bounds} (p : Put k low high low2 high2 repeat plain b b') where
  columns-kept : Columns b → Columns b'
  columns-kept z =
      record {
        low_long = ap length p.low_set ∙ length-set b.low k low ∙ z.low_long;
        high_long = ap length p.high_set ∙ length-set b.high k high ∙ z.high_long;
        low2_long = ap length p.low2_set ∙ length-set b.low2 k low2 ∙ z.low2_long;
        high2_long = ap length p.high2_set ∙ length-set b.high2 k high2 ∙ z.high2_long;
        repeat_long = ap length p.repeat_set ∙ length-set b.repeat k repeat ∙ z.repeat_long;
        plain_long = ap length p.plain_set ∙ length-set b.plain k plain ∙ z.plain_long;
      }

  module _ (z : Columns b) (l : k < 256) where
    own_in : (c : ℕ) → in_bounds b' k c ≡ in_either low high low2 high2 c
    unfolding in_bounds
    own_in c =
        rw (
          p.low_set,
          p.high_set,
          p.low2_set,
          p.high2_set,
          get_or-set_same b.low k low 0 (omega (arith, z.low_long)),
          get_or-set_same b.high k high 0 (omega (arith, z.high_long)),
          get_or-set_same b.low2 k low2 0 (omega (arith, z.low2_long)),
          get_or-set_same b.high2 k high2 0 (omega (arith, z.high2_long)),
        )

    own-repeats : repeat_at b' k ≡ repeat
    unfolding repeat_at
    own-repeats = rw p.repeat_set (get_or-set_same b.repeat k repeat 0 (omega (arith, z.repeat_long)))

    own-is-plain : is_plain b' k ≡ plain
    unfolding is_plain
    own-is-plain = rw p.plain_set (get_or-set_same b.plain k plain false (omega (arith, z.plain_long)))

  module _ (j : ℕ) (n : ¬ (j ≡ k)) where
    in_kept : (c : ℕ) → in_bounds b' j c ≡ in_bounds b j c
    unfolding in_bounds
    in_kept c =
        rw (
          p.low_set,
          p.high_set,
          p.low2_set,
          p.high2_set,
          get_or-set_other b.low k j low 0 n,
          get_or-set_other b.high k j high 0 n,
          get_or-set_other b.low2 k j low2 0 n,
          get_or-set_other b.high2 k j high2 0 n,
        )

    repeat-kept : repeat_at b' j ≡ repeat_at b j
    unfolding repeat_at
    repeat-kept = rw p.repeat_set (get_or-set_other b.repeat k j repeat 0 n)

    plain-kept : is_plain b' j ≡ is_plain b j
    unfolding is_plain
    plain-kept = rw p.plain_set (get_or-set_other b.plain k j plain false n)

    settled-kept : (t : List ℕ) → Settled t b j → Settled t b' j
    settled-kept t =
        ⊎_elim
        (λ (s : (repeat_at b j ≡ 0) × UnitRow (exp_of t j) (in_bounds b j)).
        inl (repeat-kept ∙ s.0, unit-same (in_bounds b' j) s.1 (λ c x. sym (in_kept c))))
        (λ (s : (repeat_at b j ≡ 255) × RunRow (exp_of t j) (in_bounds b j)).
        inr (repeat-kept ∙ s.0, run-same (in_bounds b' j) s.1 (λ c x. sym (in_kept c))))

  bounded-more : (t : List ℕ) → Bounded t k b → k < 256 → (is_plain b' k ≡ true → Settled t b' k)
      → (is_plain b' k ≡ false → (is_letter t k ≡ false) × ((c : ℕ) → in_bounds b' k c ≡ false))
      → Bounded t (k + 1) b'
  bounded-more t q l f g =
      record {
        size = columns-kept q.size;
        plain = λ j x h.
            ⊎_elim
            (λ (z : j < k).
            settled-kept j (λ i. omega arith) t
            (q.plain j z (sym (plain-kept j (λ i. omega arith)) ∙ h)))
            (λ (z : k ≤ j). let same : j ≡ k = omega arith in rw same (f (rw same at h)))
            (below_or j k);
        others = λ j x h.
            ⊎_elim
            (λ (z : j < k).
            let o = q.others j z (sym (plain-kept j (λ i. omega arith)) ∙ h) in
            (o.0, λ c. in_kept j (λ i. omega arith) c ∙ o.1 c))
            (λ (z : k ≤ j). let same : j ≡ k = omega arith in rw same (g (rw same at h)))
            (below_or j k);
      }

  plain_more : (t : List ℕ) → Bounded t k b → k < 256 → plain ≡ true → Settled t b' k → Bounded t (k + 1) b'
  plain_more t q l one s = bounded-more t q l (λ h. s) (λ h. absurd (true≢false (sym (own-is-plain q.size l ∙ one) ∙ h)))

  unit-more : (t : List ℕ) → Bounded t k b → k < 256 → plain ≡ true → repeat ≡ 0 → (C : ℕ → Bool) → UnitRow (exp_of t k) C
      → ((c : ℕ) → c < 256 → C c ≡ in_either low high low2 high2 c)
      → Bounded t (k + 1) b'
  unit-more t q l one z C r same =
      plain_more t q l one
      (inl (own-repeats q.size l ∙ z, unit-same (in_bounds b' k) r (λ c x. same c x ∙ sym (own_in q.size l c))))

  run_more : (t : List ℕ) → Bounded t k b → k < 256 → plain ≡ true → repeat ≡ 255 → (C : ℕ → Bool) → RunRow (exp_of t k) C
      → ((c : ℕ) → c < 256 → C c ≡ in_either low high low2 high2 c)
      → Bounded t (k + 1) b'
  run_more t q l one z C r same =
      plain_more t q l one
      (inr (own-repeats q.size l ∙ z, run-same (in_bounds b' k) r (λ c x. same c x ∙ sym (own_in q.size l c))))

-- no byte is in the range from 1 to 0
none_in : (c : ℕ) → (leb 1 c && leb c 0) ≡ false
none_in c =
    never_true (leb 1 c && leb c 0)
    (λ h. let p = each (leb 1 c) (leb c 0) h in
    let x : 1 ≤ c = leb-true 1 c p.0 in
    let y : c ≤ 0 = leb-true c 0 p.1 in
    omega arith)

or-none : (x : Bool) → (x || false) ≡ x
or-none true = refl
or-none false = refl

none-in-either : (c : ℕ) → in_either 1 0 1 0 c ≡ false
none-in-either c = rw (none_in c)

one-in-either : (a b c : ℕ) → in_either a b 1 0 c ≡ (leb a c && leb c b)
one-in-either a b c = rw (none_in c) (or-none (leb a c && leb c b))

none_more : {k : ℕ} {b b' : Bounds} (t : List ℕ) → Bounded t k b → k < 256 → Put k 1 0 1 0 0 false b b' → is_letter t k ≡ false
    → Bounded t (k + 1) b'
none_more {k} {b} {b'} t q l p n =
    bounded-more p t q l (λ h. absurd (true≢false (sym h ∙ own-is-plain p q.size l)))
    (λ h. (n, λ c. own_in p q.size l c ∙ none-in-either c))

-- no letter
no-letter : (t : List ℕ) (k : ℕ) → ¬ (kind_at t k ≡ 2) → ¬ (kind_at t k ≡ 6) → is_letter t k ≡ false
no-letter t k n2 n6 = never_true (is_letter t k) (λ h. ⊎_elim n2 n6 (letter-kinds t k h))

-- letters
range-unit : (t : List ℕ) (k : ℕ) → kind_at t k ≡ 2 → UnitRow (exp_of t k) (λ c. leb (a_at t k) c && leb c (b_at t k))
range-unit t k e =
    rw (exp-letter t k (letter_at t k refl (inl e)), e)
    (letter-unit (within (a_at t k) (b_at t k)) (λ c. leb (a_at t k) c && leb c (b_at t k)) (λ c x. rw (lt-ltb c 256 x)))

other-unit : (t : List ℕ) (k : ℕ) → kind_at t k ≡ 6 → UnitRow (exp_of t k) (λ c. ltb c (a_at t k) || ltb (b_at t k) c)
other-unit t k e =
    rw (exp-letter t k (letter_at t k refl (inr e)), e)
    (letter-unit (outside (a_at t k) (b_at t k)) (λ c. ltb c (a_at t k) || ltb (b_at t k) c) (λ c x. rw (lt-ltb c 256 x)))

-- a plain record by whether it repeats
unit-of : (t : List ℕ) (b : Bounds) (k j : ℕ) → Bounded t k b → j < k → is_plain b j ≡ true → repeat_at b j ≡ 0 → UnitRow (exp_of t j) (in_bounds b j)
unit-of t b k j q l h e =
    ⊎_elim
    (λ (s : (repeat_at b j ≡ 0) × UnitRow (exp_of t j) (in_bounds b j)). s.1)
    (λ (s : (repeat_at b j ≡ 255) × RunRow (exp_of t j) (in_bounds b j)). absurd (let z = s.0 in omega arith))
    (q.plain j l h)

run_of : (t : List ℕ) (b : Bounds) (k j : ℕ) → Bounded t k b → j < k → is_plain b j ≡ true → repeat_at b j ≡ 255 → RunRow (exp_of t j) (in_bounds b j)
run_of t b k j q l h e =
    ⊎_elim
    (λ (s : (repeat_at b j ≡ 0) × UnitRow (exp_of t j) (in_bounds b j)). absurd (let z = s.0 in omega arith))
    (λ (s : (repeat_at b j ≡ 255) × RunRow (exp_of t j) (in_bounds b j)). s.1)
    (q.plain j l h)

in-of : (b : Bounds) (a c : ℕ) → in_bounds b a c ≡ in_either (get_or b.low a 0) (get_or b.high a 0) (get_or b.low2 a 0) (get_or b.high2 a 0) c
unfolding in_bounds
in-of b a c = refl

pub record-small : (t : List ℕ) → Passes t → (k : ℕ) → k < count t → k < 256
record-small t p k l = omega (arith, count-bound t p)

-- the ways in which a record's columns are found
module _ (t : List ℕ) (p : Passes t) (k : ℕ) (l : k < count t) {b b' : Bounds} (q : Bounded t k b) where
  pub range-found : {low high : ℕ} → kind_at t k ≡ 2 → low ≡ a_at t k → high ≡ b_at t k → Put k low high 1 0 0 true b b' → Bounded t (k + 1) b'
  range-found {low} {high} e ea eb put =
      unit-more put t q (record-small t p k l) refl refl (λ c. leb (a_at t k) c && leb c (b_at t k)) (range-unit t k e)
      (λ c x. rw (ea, eb) (sym (one-in-either (a_at t k) (b_at t k) c)))

  pub other-found : {a z : ℕ} → kind_at t k ≡ 6 → a ≡ a_at t k → z ≡ b_at t k → PutOther k a z b b' → Bounded t (k + 1) b'
  other-found {a} {z} e ea eb put =
      unit-more put.put t q (record-small t p k l) refl refl (λ c. ltb c (a_at t k) || ltb (b_at t k) c) (other-unit t k e)
      (λ c x. rw (sym ea, sym eb) (sym (put.right c x)))

  pub none_found : ¬ (kind_at t k ≡ 2) → ¬ (kind_at t k ≡ 6) → Put k 1 0 1 0 0 false b b' → Bounded t (k + 1) b'
  none_found n2 n6 put = none_more t q (record-small t p k l) put (no-letter t k n2 n6)

  pub or-found : {a z low high low2 high2 : ℕ} → kind_at t k ≡ 3 → a ≡ a_at t k → z ≡ b_at t k → kind_at t a ≡ 2 → kind_at t z ≡ 2 → low ≡ a_at t a
      → high ≡ b_at t a
      → low2 ≡ a_at t z
      → high2 ≡ b_at t z
      → Put k low high low2 high2 0 true b b'
      → Bounded t (k + 1) b'
  or-found {a} {z} {low} {high} {low2} {high2} e ea ez ka kz el eh el2 eh2 put =
      let rule : exp_of t k ≡ or (exp_of t a) (exp_of t z) =
      rw (ea, ez) (exp-or t k e (a-below t p k l (inl e)) (b-below t p k l (inl e))) in
      unit-more put t q (record-small t p k l) refl refl (λ c. (leb (a_at t a) c && leb c (b_at t a)) || (leb (a_at t z) c && leb c (b_at t z)))
      (rw rule
      (or-unit (λ c. leb (a_at t a) c && leb c (b_at t a)) (λ c. leb (a_at t z) c && leb c (b_at t z)) (range-unit t a ka)
      (range-unit t z kz)))
      (λ c x. rw (el, eh, el2, eh2))

  pub star-found : {a : ℕ} → kind_at t k ≡ 5 → a ≡ a_at t k → (is_plain b a ≡ true) × (repeat_at b a ≡ 0) → Repeated k a b b' → Bounded t (k + 1) b'
  star-found {a} e ea u put =
      let below : a_at t k < k = star-a-below t p k l e in
      let rule : exp_of t k ≡ star (exp_of t a) = rw ea (exp-star t k e below) in
      run_more put t q (record-small t p k l) refl refl (in_bounds b a) (rw rule (star-run (unit-of t b k a q (omega arith) u.0 u.1))) (λ c x. in-of b a c)

  pub seq-found : {a z : ℕ} → kind_at t k ≡ 4 → a ≡ a_at t k → z ≡ b_at t k → (is_plain b a ≡ true) × (repeat_at b a ≡ 0) → kind_at t z ≡ 5
      → is_plain b z ≡ true
      → repeat_at b z ≡ 255
      → ((c : ℕ) → in_bounds b a c ≡ in_bounds b z c)
      → Repeated k a b b'
      → Bounded t (k + 1) b'
  seq-found {a} {z} e ea ez u kz pz rz same put =
      let la : a_at t k < k = a-below t p k l (inr e) in
      let lz : b_at t k < k = b-below t p k l (inr e) in
      let rule : exp_of t k ≡ seq (exp_of t a) (exp_of t z) = rw (ea, ez) (exp-seq t k e la lz) in
      let inner : exp_of t z ≡ star (exp_of t (a_at t z)) = exp-star t z kz (star-a-below t p z (omega arith) kz) in
      let empty : spells (exp_of t z) [] ≡ true = rw inner refl in
      run_more put t q (record-small t p k l) refl refl (in_bounds b a)
      (rw rule
      (seq-run (unit-of t b k a q (omega arith) u.0 u.1)
      (run-same (in_bounds b a) (run_of t b k z q (omega arith) pz rz) (λ c x. sym (same c)))
      empty))
      (λ c x. in-of b a c)

-- what the code's tests show
pub plain-seen : (b : Bounds) (k repeat : ℕ) → get_or b.plain k false ≡ true → eqb (get_or b.repeat k 0) repeat ≡ true
    → (is_plain b k ≡ true) × (repeat_at b k ≡ repeat)
unfolding is_plain repeat_at
plain-seen b k repeat e h = (e, eqb-true (get_or b.repeat k 0) repeat h)

pub ranges-seen : (b : Bounds) (k j : ℕ) → get_or b.low k 0 ≡ get_or b.low j 0 → eqb (get_or b.high k 0) (get_or b.high j 0) ≡ true
    → eqb (get_or b.low2 k 0) (get_or b.low2 j 0) ≡ true
    → eqb (get_or b.high2 k 0) (get_or b.high2 j 0) ≡ true
    → (c : ℕ) → in_bounds b k c ≡ in_bounds b j c
unfolding in_bounds
ranges-seen b k j e e2 e3 e4 c = rw (e, eqb-true _ _ e2, eqb-true _ _ e3, eqb-true _ _ e4)

-- a record of a kind that is no letter's
pub none-kind : (t : List ℕ) → Passes t → (k : ℕ) → k < count t → {b b' : Bounds} → Bounded t k b → (kind : ℕ) → kind_at t k ≡ kind → ¬ (kind ≡ 2)
    → ¬ (kind ≡ 6)
    → Put k 1 0 1 0 0 false b b'
    → Bounded t (k + 1) b'
none-kind t p k l q kind e n2 n6 put =
    none_found t p k l q (λ (z : kind_at t k ≡ 2). n2 (sym e ∙ z)) (λ (z : kind_at t k ≡ 6). n6 (sym e ∙ z)) put
