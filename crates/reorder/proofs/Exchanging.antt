-- What an exchanged table has of the first one: its size, its kinds and tags, and at each record its two fields, exchanged or not. Whatever the list
-- of exchanges, that is all the other laws go by.
-- Assumes nothing.
use Prim.Native.Nat.{ℕ, ◌+◌, ◌*◌, ◌<◌}
use native.Mathlib.Omega.{arith}
use mathlib.Core.Path.{◌≡◌, refl, sym, ◌∙◌, ap}
use mathlib.Core.Bool.{Bool, true, false, not, cond, false≢true}
use mathlib.Core.List.{List, [], ◌∷◌}
use lib.Dec.{eqb}
use lib.ListN.{length, get_or, set, length-set}
use lib.Seq.{get_or-set_same, get_or-set_other}
use borrow.Author.Tests.{eqb-true, eqb-false}
use Rattle.table.specs.Records.{kind_at, a_at, b_at, tag_at, is_or}
use Rattle.reorder.specs.Exchanges.{swapped, reordered, changed, OrRecord, Each, each_none, each_more}

-- u is t with the fields of the records exchanged at which x is true; these are Or records
pub record Exchanged (x : ℕ → Bool) (t u : List ℕ) : Type 0 where
  pub size : length u ≡ length t
  pub kind : (j : ℕ) → kind_at u j ≡ kind_at t j
  pub tag : (j : ℕ) → tag_at u j ≡ tag_at t j
  pub a : (j : ℕ) → a_at u j ≡ cond (x j) (b_at t j) (a_at t j)
  pub b : (j : ℕ) → b_at u j ≡ cond (x j) (a_at t j) (b_at t j)
  pub or_alone : (j : ℕ) → x j ≡ true → is_or t j ≡ true

none-exchanged : (t : List ℕ) → Exchanged (changed []) t t
none-exchanged t =
    record { size = refl; kind = λ j. refl; tag = λ j. refl; a = λ j. refl; b = λ j. refl; or_alone = λ j e. let z : false ≡ true = e in absurd (false≢true z) }

-- one exchange
module _ (t : List ℕ) (k : ℕ) (o : OrRecord t k) where
  long : 4 * k + 2 < length t
  long = omega (arith, o.inside)

  -- a byte that is neither of the two fields, and the two
  kept_byte : (i : ℕ) → ¬ (i ≡ 4 * k + 1) → ¬ (i ≡ 4 * k + 2) → get_or (swapped t k) i 0 ≡ get_or t i 0
  kept_byte i m n = get_or-set_other (set t (4 * k + 1) (b_at t k)) (4 * k + 2) i (a_at t k) 0 n ∙ get_or-set_other t (4 * k + 1) i (b_at t k) 0 m

  field-a : a_at (swapped t k) k ≡ b_at t k
  field-a =
      get_or-set_other (set t (4 * k + 1) (b_at t k)) (4 * k + 2) (4 * k + 1) (a_at t k) 0 (λ e. omega arith)
      ∙ get_or-set_same t (4 * k + 1) (b_at t k) 0 (omega (arith, long))

  field-b : b_at (swapped t k) k ≡ a_at t k
  field-b = get_or-set_same (set t (4 * k + 1) (b_at t k)) (4 * k + 2) (a_at t k) 0 (omega (arith, long, length-set t (4 * k + 1) (b_at t k)))

  exchanged-a : (j : ℕ) (x : Bool) → eqb j k ≡ x → a_at (swapped t k) j ≡ cond x (b_at t j) (a_at t j)
  exchanged-a j true e = let i : j ≡ k = eqb-true j k e in rw i field-a
  exchanged-a j false e = kept_byte (4 * j + 1) (λ z. eqb-false j k e (omega arith)) (λ z. omega arith)

  exchanged-b : (j : ℕ) (x : Bool) → eqb j k ≡ x → b_at (swapped t k) j ≡ cond x (a_at t j) (b_at t j)
  exchanged-b j true e = let i : j ≡ k = eqb-true j k e in rw i field-b
  exchanged-b j false e = kept_byte (4 * j + 2) (λ z. omega arith) (λ z. eqb-false j k e (omega arith))

  pub one-exchanged : Exchanged (λ j. eqb j k) t (swapped t k)
  one-exchanged =
      record {
        size = length-set (set t (4 * k + 1) (b_at t k)) (4 * k + 2) (a_at t k) ∙ length-set t (4 * k + 1) (b_at t k);
        kind = λ j. kept_byte (4 * j) (λ e. omega arith) (λ e. omega arith);
        tag = λ j. kept_byte (4 * j + 3) (λ e. omega arith) (λ e. omega arith);
        a = λ j. exchanged-a j (eqb j k) refl;
        b = λ j. exchanged-b j (eqb j k) refl;
        or_alone = λ j e. let i : j ≡ k = eqb-true j k e in rw i o.of_kind_or;
      }

-- one exchange, then others
cond-then : (x y : Bool) (m n : ℕ) → cond y (cond x m n) (cond x n m) ≡ cond (cond x (not y) y) n m
cond-then true true m n = refl
cond-then true false m n = refl
cond-then false true m n = refl
cond-then false false m n = refl

then-or : (x y : Bool) {P : Type 0} → cond x (not y) y ≡ true → (x ≡ true → P) → (y ≡ true → P) → P
then-or true y e f g = f refl
then-or false y e f g = g e

then-exchanged : {x y : ℕ → Bool} {t u w : List ℕ} → Exchanged x t u → Exchanged y u w → Exchanged (λ j. cond (x j) (not (y j)) (y j)) t w
then-exchanged {x} {y} {t} {u} e f =
    record {
      size = f.size ∙ e.size;
      kind = λ j. f.kind j ∙ e.kind j;
      tag = λ j. f.tag j ∙ e.tag j;
      a = λ j. f.a j ∙ rw (e.a j, e.b j) (cond-then (x j) (y j) (a_at t j) (b_at t j));
      b = λ j. f.b j ∙ rw (e.a j, e.b j) (cond-then (x j) (y j) (b_at t j) (a_at t j));
      or_alone = λ j z. then-or (x j) (y j) z (e.or_alone j) (λ i. ap (λ (n : ℕ). eqb n 3) (sym (e.kind j)) ∙ f.or_alone j i);
    }

-- an Or record stays one
or_kept : {x : ℕ → Bool} {t u : List ℕ} → Exchanged x t u → {ks : List ℕ} → Each (OrRecord t) ks → Each (OrRecord u) ks
or_kept e each_none = each_none
or_kept e (each_more {k = k} o os) =
    each_more {k = k} (record { inside = omega (arith, o.inside, e.size); of_kind_or = ap (λ (n : ℕ). eqb n 3) (e.kind k) ∙ o.of_kind_or }) (or_kept e os)

-- a list of exchanges
pub all-exchanged : (t ks : List ℕ) → Each (OrRecord t) ks → Exchanged (changed ks) t (reordered t ks)
all-exchanged t [] each_none = none-exchanged t
all-exchanged t (k ∷ ks) (each_more o os) =
    then-exchanged (one-exchanged t k o) (all-exchanged (swapped t k) ks (or_kept (one-exchanged t k o) os))

-- a record at which something changed is one of the list
pub changed-each : {P : ℕ → Type 0} (ks : List ℕ) → Each P ks → (j : ℕ) → changed ks j ≡ true → P j
changed-each [] each_none j e = absurd (false≢true e)
changed-each {P} (k ∷ ks) (each_more p ps) j e = go (eqb j k) refl e (changed-each ks ps j)
  where
    go : (y : Bool) → eqb j k ≡ y → cond y (not (changed ks j)) (changed ks j) ≡ true → (changed ks j ≡ true → P j) → P j
    go true f g later = let i : j ≡ k = eqb-true j k f in rw i p
    go false f g later = later g
