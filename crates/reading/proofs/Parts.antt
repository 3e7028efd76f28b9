-- Parts one after another: the part at a place by what the code saw there, and what a walk over a star's iterations has found so far.
-- Assumes nothing.
use Rattle.std.specs.Prelude.{Option, Some, None}
use Prim.Native.Nat.{ℕ, zero, suc, ◌+◌, ◌-◌, ◌≤◌, ◌<◌}
use mathlib.Core.Path.{◌≡◌, refl, sym, ◌∙◌, ap, subst}
use mathlib.Core.List.{List}
use mathlib.Core.Logic.{◌⊎◌, ⊎_elim}
use native.Mathlib.Omega.{arith}
use lib.ListN.{length}
use Rattle.table.specs.Records.{count}
use Rattle.table.specs.Faults.{Passes}
use Rattle.reading.specs.declared.Span.{Span}
use Rattle.reading.specs.declared.Shape.{Shape}
use Rattle.reading.specs.declared.Shape.TheVariants.{Leaf, Left, Right, Both, Many}
use Rattle.reading.specs.Fitting.{stepped}
use Rattle.reading.specs.Walks.{shape_at, fit_at, fit_items, longer, then_fit, unless_empty, spelling_part, fit_by, length_at}
use Rattle.reading.proofs.Places.{stepped-on}
use Rattle.reading.proofs.Walks.{Known, shaped, items-zero, items-suc, Bounds, fit-bounds}

-- what the code knows of a place whose record has a shape, with the place one record on: children are below their parent, and the part that
-- starts there is the one by them
abbrev pub Seen : List ℕ → ℕ → List ℕ → ℕ → ℕ → Option Shape → Type 0
Seen t k bs at next (Some (Leaf n)) = (next ≤ length bs) × (length_at t k bs at ≡ Some (record { next = record { at = next }; size = n }))
Seen t k bs at next (Some (Left c)) = (next ≤ length bs) × (c < k) × (length_at t k bs at ≡ fit_at t c bs next)
Seen t k bs at next (Some (Right c)) = (next ≤ length bs) × (c < k) × (length_at t k bs at ≡ fit_at t c bs next)
Seen t k bs at next (Some (Both c d)) =
    (next ≤ length bs) × (c < k) × (d < k) × (length_at t k bs at ≡ then_fit (fit_at t c bs next) (λ over. fit_at t d bs over))
Seen t k bs at next (Some (Many c n)) = (next ≤ length bs) × (c < k) × (length_at t k bs at ≡ fit_items t c n bs next)
Seen t k bs at next None = length_at t k bs at ≡ None

seen-shaped :
    (t : List ℕ) (k : ℕ) (bs : List ℕ) (at : ℕ) (s : Option Shape) → Known k bs at s → length_at t k bs at ≡ fit_by t bs at s
    → Seen t k bs at (stepped bs at) s
seen-shaped t k bs at (Some (Leaf n)) w e = rw (stepped-on bs at w.0) (w.0, e)
seen-shaped t k bs at (Some (Left c)) w e = rw (stepped-on bs at w.0) (w.0, w.1, e)
seen-shaped t k bs at (Some (Right c)) w e = rw (stepped-on bs at w.0) (w.0, w.1, e)
seen-shaped t k bs at (Some (Both c d)) w e = rw (stepped-on bs at w.0) (w.0, w.1, w.2, e)
seen-shaped t k bs at (Some (Many c n)) w e = rw (stepped-on bs at w.0) (w.0, w.1, e)
seen-shaped t k bs at None w e = e

-- a shape that was told by `look` and a place that was moved by `step`
pub seen :
    (t : List ℕ) → Passes t → (k : ℕ) → k < count t → (bs : List ℕ) (at next : ℕ) (s u : Option Shape) → s ≡ shape_at t k bs at
    → next ≡ stepped bs at
    → s ≡ u
    → Seen t k bs at next u
unfolding length_at
seen t p k l bs at next s u e n f =
    subst (Seen t k bs at next) (sym e ∙ f)
    (rw n (seen-shaped t k bs at (shape_at t k bs at) (shaped t p k l bs at).known refl))

-- the same of a record with one child
pub seen-one :
    (t : List ℕ) → Passes t → (k : ℕ) → k < count t → (bs : List ℕ) (at next : ℕ) (s : Option Shape) (u : Shape) (c : ℕ) → s ≡ shape_at t k bs at
    → next ≡ stepped bs at
    → s ≡ Some u
    → (u ≡ Left c) ⊎ (u ≡ Right c)
    → (next ≤ length bs) × (c < k) × (length_at t k bs at ≡ fit_at t c bs next)
seen-one t p k l bs at next s u c e n f =
    ⊎_elim (λ (g : u ≡ Left c). seen t p k l bs at next s (Some (Left c)) e n (f ∙ ap Some g))
    (λ (g : u ≡ Right c). seen t p k l bs at next s (Some (Right c)) e n (f ∙ ap Some g))

-- two parts of which both are found, or one is not
pub then_found :
    (x : Option Span) (f : ℕ → Option Span) (s u : Span) → x ≡ Some s → f s.next.at ≡ Some u
    → then_fit x f ≡ Some (record { next = u.next; size = s.size + u.size })
then_found x f s u e g = rw (e, g)

pub then-first : (x : Option Span) (f : ℕ → Option Span) → x ≡ None → then_fit x f ≡ None
then-first x f e = rw e

pub then-second : (x : Option Span) (f : ℕ → Option Span) (s : Span) → x ≡ Some s → f s.next.at ≡ None → then_fit x f ≡ None
then-second x f s e g = rw (e, g)

-- a part that spells no byte more, and a part that spells more twice
longer-zero : (x : Option Span) → longer 0 x ≡ x
longer-zero (Some s) =
    let e : 0 + s.size ≡ s.size = omega arith in ap (λ (n : ℕ). Some (record { next = s.next; size = n })) e
longer-zero None = refl

longer-twice : (m n : ℕ) (x : Option Span) → longer (m + n) x ≡ longer m (longer n x)
longer-twice m n (Some s) =
    let e : m + n + s.size ≡ m + (n + s.size) = omega arith in ap (λ (i : ℕ). Some (record { next = s.next; size = i })) e
longer-twice m n None = refl

spelling-found : (s : Span) → ¬ (s.size ≡ 0) → spelling_part (Some s) ≡ Some s
spelling-found s n = go s.size n
  where
    go : (i : ℕ) → ¬ (i ≡ 0) → unless_empty i (Some s) ≡ Some s
    go zero m = absurd (m refl)
    go (suc i) m = refl

spelling-empty : (s : Span) → s.size ≡ 0 → spelling_part (Some s) ≡ None
spelling-empty s e = rw e

-- a walk over n iterations of record c from a place: so many are left at the place that it has come to, and so many bytes are spelled before
pub record Walking (t : List ℕ) (c n : ℕ) (bs : List ℕ) (from left at size : ℕ) : Type 0 where
  pub inside : at ≤ length bs
  pub room : size ≤ at
  pub same : longer size (fit_items t c left bs at) ≡ fit_items t c n bs from

pub walk_start : (t : List ℕ) (c n : ℕ) (bs : List ℕ) (from : ℕ) → from ≤ length bs → Walking t c n bs from n from 0
walk_start t c n bs from h = record { inside = h; room = omega arith; same = longer-zero (fit_items t c n bs from) }

module _ {t : List ℕ} {c n : ℕ} {bs : List ℕ} {from left at size : ℕ} (w : Walking t c n bs from left at size) where
  -- the next iteration and the others
  one_more : 0 < left → longer size (then_fit (spelling_part (fit_at t c bs at)) (λ next. fit_items t c (left - 1) bs next)) ≡ fit_items t c n bs from
  one_more l =
      let e : left ≡ suc (left - 1) = omega arith in
      ap (longer size) (sym (items-suc t c (left - 1) bs at w.inside)) ∙ ap (λ (i : ℕ). longer size (fit_items t c i bs at)) (sym e) ∙ w.same

  pub walk-next :
      0 < left → (s : Span) → fit_at t c bs at ≡ Some s → ¬ (s.size ≡ 0) → Walking t c n bs from (left - 1) s.next.at (size + s.size)
  walk-next l s e z =
      let b : Bounds bs at s = fit-bounds t c bs at w.inside s e in
      let p : spelling_part (fit_at t c bs at) ≡ Some s = ap spelling_part e ∙ spelling-found s z in
      record {
        inside = b.end;
        room = omega (arith, w.room, b.room);
        same =
            longer-twice size s.size (fit_items t c (left - 1) bs s.next.at)
            ∙ ap (λ (x : Option Span). longer size (then_fit x (λ next. fit_items t c (left - 1) bs next))) (sym p)
            ∙ one_more l;
      }

  pub walk-room : (s : Span) → fit_at t c bs at ≡ Some s → size + s.size ≤ length bs
  walk-room s e = let b : Bounds bs at s = fit-bounds t c bs at w.inside s e in omega (arith, w.room, b.room, b.end)

  pub walk-empty : 0 < left → (s : Span) → fit_at t c bs at ≡ Some s → s.size ≡ 0 → fit_items t c n bs from ≡ None
  walk-empty l s e z =
      sym (one_more l)
      ∙ ap (λ (x : Option Span). longer size (then_fit x (λ next. fit_items t c (left - 1) bs next))) (ap spelling_part e ∙ spelling-empty s z)

  pub walk-unfit : 0 < left → fit_at t c bs at ≡ None → fit_items t c n bs from ≡ None
  walk-unfit l e =
      sym (one_more l) ∙ ap (λ (x : Option Span). longer size (then_fit (spelling_part x) (λ next. fit_items t c (left - 1) bs next))) e

  pub walk_end : left ≤ 0 → fit_items t c n bs from ≡ Some (record { next = record { at = at }; size = size })
  walk_end l =
      let e : left ≡ 0 = omega arith in
      let z : size + 0 ≡ size = omega arith in
      sym w.same ∙ ap (λ (i : ℕ). longer size (fit_items t c i bs at)) e ∙ ap (longer size) (items-zero t c bs at w.inside)
      ∙ ap (λ (i : ℕ). Some (record { next = record { at = at }; size = i })) z
