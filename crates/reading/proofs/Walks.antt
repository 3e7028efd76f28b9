-- The part that starts at a place, by the shape of its first record: what every walk over a reading goes by (document 01, "Readings").
-- Assumes nothing.
use Rattle.std.specs.Prelude.{Option, Some, None}
use Prim.Native.Nat.{ℕ, zero, suc, ◌+◌, ◌-◌, ◌≤◌, ◌<◌}
use mathlib.Core.Path.{◌≡◌, refl, sym, ◌∙◌, ap, subst}
use mathlib.Core.Bool.{Bool, true, false, ◌&&◌}
use mathlib.Core.List.{List, [], ◌∷◌, ◌++◌}
use mathlib.Core.Logic.{inl, inr}
use native.Mathlib.Omega.{arith}
use borrow.Author.Tests.{leb-true, leb-false, ne_eqb}
use lib.Dec.{eqb, leb}
use lib.ListN.{length, drop, length-append, length-drop}
use lib.Seq.{drop-drop, drop-append_seam}
use Rattle.posix.specs.Expressions.{ByteSet, within, outside, holds, Exp, nothing, empty, letter, or, seq, star}
use Rattle.posix.specs.Values.{Val, void, byte, left, right, pair, more, flat, Reads}
use Rattle.table.specs.Records.{count, kind_at, a_at, b_at}
use Rattle.table.specs.Faults.{Passes}
use Rattle.table.specs.Expression.{exp_of}
use Rattle.table.proofs.Laws.{exp-nothing, exp-empty, exp-letter, exp-or, exp-seq, exp-star}
use Rattle.table.proofs.Passing.{letter_at, kind-small, a-below, b-below, star-a-below}
use Rattle.reading.specs.declared.Span.{Span}
use Rattle.reading.specs.declared.Shape.{Shape}
use Rattle.reading.specs.declared.Shape.TheVariants.{Leaf, Left, Right, Both, Many}
use Rattle.reading.specs.Codec.{record_size, record_bytes, record_at, encode, Decoded, fits, unfit, under, chain, pick, non_empty, decode_items, is_length, held, at_record, decode}
use Rattle.reading.specs.Walks.{pick_shape, letter_shape, shape_of, shape_by, shape_at, leaf, decode_by, span_of, fit_at, fit_items, longer, then_fit, spelling_part, fit_by, length_at, fit_if, held_part}
use Rattle.reading.proofs.Codec.{length-written, decode-sound}
use Rattle.reading.proofs.Lengths.{encode-length, flat-records, records-some}
use Rattle.reading.proofs.Places.{drop-record}

-- a place with less than a record left
short-list : (k : ℕ) (f : ℕ → ℕ → List ℕ → Decoded) (bs : List ℕ) → length bs < record_size → at_record k f bs ≡ unfit
short-list k f [] h = refl
short-list k f (x ∷ []) h = refl
short-list k f (x ∷ (y ∷ [])) h = refl
short-list k f (x ∷ (y ∷ (n ∷ []))) h = refl
short-list k f (x ∷ (y ∷ (n ∷ (i ∷ bs)))) h = absurd (omega arith)

-- bytes that are over start at a place of their own
pub record Over (bs : List ℕ) (at : ℕ) (rest : List ℕ) : Type 0 where
  pub dropped : rest ≡ drop (length bs - length rest) bs
  pub after : at ≤ length bs - length rest
  pub inside : length bs - length rest ≤ length bs

pub over : (bs xs rest : List ℕ) (at : ℕ) → at ≤ length bs → drop at bs ≡ xs ++ rest → Over bs at rest
over bs xs rest at h e =
    let l : length bs - at ≡ length xs + length rest = sym (length-drop at bs) ∙ ap length e ∙ length-append xs rest in
    let n : length bs - length rest ≡ at + length xs = omega arith in
    record {
      dropped = sym (ap (λ (i : ℕ). drop i bs) n ∙ sym (drop-drop (length xs) at bs) ∙ ap (drop (length xs)) e ∙ drop-append_seam xs rest);
      after = omega arith;
      inside = omega arith;
    }

-- Left and Right spell what they hold
span-under : (f : Val → Val) → ((v : Val) → flat (f v) ≡ flat v) → (n : ℕ) (d : Decoded) → span_of n (under f d) ≡ span_of n d
span-under f e n (fits v rest) = rw (e v)
span-under f e n unfit = refl

-- a part behind another
span-behind :
    (f : Val → Val) (s : List ℕ) → ((v : Val) → flat (f v) ≡ s ++ flat v)
    → (n : ℕ) (d : Decoded)
    → span_of n (under f d) ≡ longer (length s) (span_of n d)
span-behind f s e n (fits v rest) = rw (e v, length-append s (flat v))
span-behind f s e n unfit = refl

-- two parts, one behind the other
span-chain :
    (f : Val → Val → Val) → ((v w : Val) → flat (f v w) ≡ flat v ++ flat w)
    → (bs : List ℕ) (at : ℕ) (d : Decoded) (D : List ℕ → Decoded)
    → ((v : Val) (rest : List ℕ) → d ≡ fits v rest → Over bs at rest)
    → span_of (length bs) (chain f d D) ≡ then_fit (span_of (length bs) d) (λ next. span_of (length bs) (D (drop next bs)))
span-chain f e bs at (fits v rest) D o =
    span-behind (f v) (flat v) (e v) (length bs) (D rest)
    ∙ ap (λ (r : List ℕ). longer (length (flat v)) (span_of (length bs) (D r))) (o v rest refl).dropped
span-chain f e bs at unfit D o = refl

-- an iteration that spells no byte does not fit
span-non_empty : (n : ℕ) (d : Decoded) → span_of n (non_empty d) ≡ spelling_part (span_of n d)
span-non_empty n unfit = refl
span-non_empty n (fits v rest) = go (flat v) refl
  where
    go : (s : List ℕ) → flat v ≡ s → span_of n (non_empty (fits v rest)) ≡ spelling_part (span_of n (fits v rest))
    go [] e = rw e
    go (c ∷ s) e = rw e (ap (λ (l : List ℕ). Some (record { next = record { at = n - length rest }; size = length l })) e)

non_empty-over : (d : Decoded) (v : Val) (rest : List ℕ) → non_empty d ≡ fits v rest → d ≡ fits v rest
non_empty-over unfit v rest e = let z : ◌≡◌ {A = ℕ} 0 1 = cc in absurd (omega arith)
non_empty-over (fits u o) v rest e = go (flat u) refl e
  where
    go : (s : List ℕ) → flat u ≡ s → non_empty (fits u o) ≡ fits v rest → fits u o ≡ fits v rest
    go [] p q = let r : unfit ≡ fits v rest = rw p at q in let z : ◌≡◌ {A = ℕ} 0 1 = cc in absurd (omega arith)
    go (c ∷ s) p q = rw p at q

-- the bytes over a part that was found
decode-over :
    (t : List ℕ) (k : ℕ) (r : Exp) (bs : List ℕ) (at : ℕ) → at ≤ length bs
    → (v : Val) (rest : List ℕ) → decode t k r (drop at bs) ≡ fits v rest → Over bs at rest
decode-over t k r bs at h v rest e = over bs (encode t k v) rest at h (decode-sound t k r (drop at bs) v rest e).1

-- no iterations
pub items-zero : (t : List ℕ) (c : ℕ) (bs : List ℕ) (at : ℕ) → at ≤ length bs → fit_items t c 0 bs at ≡ Some (record { next = record { at = at }; size = 0 })
unfolding fit_items
items-zero t c bs at h =
    let e : length bs - length (drop at bs) ≡ at = omega (arith, length-drop at bs) in
    ap (λ (i : ℕ). Some (record { next = record { at = i }; size = 0 })) e

-- one iteration, then the others
pub items-suc :
    (t : List ℕ) (c n : ℕ) (bs : List ℕ) (at : ℕ) → at ≤ length bs
    → fit_items t c (suc n) bs at ≡ then_fit (spelling_part (fit_at t c bs at)) (λ next. fit_items t c n bs next)
unfolding fit_items fit_at
items-suc t c n bs at h =
    span-chain more (λ v w. refl) bs at (non_empty (decode t c (exp_of t c) (drop at bs))) (decode_items (λ o. decode t c (exp_of t c) o) n)
    (λ v rest e. decode-over t c (exp_of t c) bs at h v rest (non_empty-over (decode t c (exp_of t c) (drop at bs)) v rest e))
    ∙ ap (λ (f : Option Span). then_fit f (λ next. span_of (length bs) (decode_items (λ o. decode t c (exp_of t c) o) n (drop next bs))))
    (span-non_empty (length bs) (decode t c (exp_of t c) (drop at bs)))

-- what is known of the record at a place by its shape
abbrev pub Known : ℕ → List ℕ → ℕ → Option Shape → Type 0
Known k bs at (Some (Leaf n)) = (at + record_size ≤ length bs) × (n ≤ 1)
Known k bs at (Some (Left c)) = (at + record_size ≤ length bs) × (c < k)
Known k bs at (Some (Right c)) = (at + record_size ≤ length bs) × (c < k)
Known k bs at (Some (Both c d)) = (at + record_size ≤ length bs) × (c < k) × (d < k)
Known k bs at (Some (Many c n)) = (at + record_size ≤ length bs) × (c < k)
Known k bs at None = Unit {0}

-- the shape of a place's record: what is known of it, and what decoding finds there, if the length that is written is the one that is spelled
pub record Shaped (t : List ℕ) (k : ℕ) (bs : List ℕ) (at : ℕ) (s : Option Shape) : Type 0 where
  pub known : Known k bs at s
  pub decoded : decode t k (exp_of t k) (drop at bs) ≡ held (record_at bs at).size (decode_by t bs at s)

-- less than a record left: nothing fits
decode-short : (t : List ℕ) (k : ℕ) (r : Exp) (bs : List ℕ) → length bs < record_size → decode t k r bs ≡ unfit
decode-short t k nothing bs h = refl
decode-short t k empty bs h = short-list k _ bs h
decode-short t k (letter b) bs h = short-list k _ bs h
decode-short t k (or r1 r2) bs h = short-list k _ bs h
decode-short t k (seq r1 r2) bs h = short-list k _ bs h
decode-short t k (star r) bs h = short-list k _ bs h

-- nothing is found of nothing, whatever the length and the number
held-nothing : (n : ℕ) (b : Bool) → unfit ≡ held n (pick b unfit unfit)
held-nothing n true = refl
held-nothing n false = refl

module _ (t : List ℕ) (p : Passes t) (k : ℕ) (l : k < count t) (bs : List ℕ) (at : ℕ) where
  -- the record's kind, argument, length and number, and the bytes behind it
  x : ℕ
  x = (record_at bs at).kind

  y : ℕ
  y = (record_at bs at).argument

  rest : List ℕ
  rest = drop (at + record_size) bs

  -- what is found below the record, and its shape
  abbrev Some-as : Decoded → Option Shape → Type 0
  Some-as d s = (d ≡ decode_by t bs at s) × Known k bs at s

  -- a test picks what is found and the shape together
  picked : (b : Bool) {d e : Decoded} (s u : Option Shape) → Some-as d s → Some-as e u → Some-as (pick b d e) (pick_shape b s u)
  picked true s u f g = f
  picked false s u f g = g

  wrong : Some-as unfit None
  wrong = (refl, tt)

  -- where a record is left, by the kind of record k: what is found below the record
  record Full (kind : ℕ) : Type 0 where
    below : Decoded
    decoded-as :
        decode t k (exp_of t k) (record_bytes (record_at bs at) ++ rest)
        ≡ held (record_at bs at).size (pick (eqb (record_at bs at).number k) below unfit)
    found_as : Some-as below (shape_of kind (a_at t k) (b_at t k) x y)

  full-letter : (kind : ℕ) (s : ByteSet) → at + record_size ≤ length bs → exp_of t k ≡ letter s → shape_of kind (a_at t k) (b_at t k) x y ≡ letter_shape s x y → Full kind
  unfolding x y rest
  full-letter kind s h e f =
      record {
        below = pick (eqb x 1 && holds s y) (fits (byte y) rest) unfit;
        decoded-as = rw e refl;
        found_as = subst (Some-as _) (sym f) (picked (eqb x 1 && holds s y) (Some (Leaf 1)) None (refl, (h, omega arith)) wrong);
      }

  full : at + record_size ≤ length bs → (kind : ℕ) → kind_at t k ≡ kind → Full kind
  unfolding x y rest
  full h zero e =
      record { below = unfit; decoded-as = rw (exp-nothing t k e) (held-nothing (record_at bs at).size (eqb (record_at bs at).number k)); found_as = wrong }
  full h (suc zero) e =
      record {
        below = pick (eqb x 0 && eqb y 0) (fits void rest) unfit;
        decoded-as = rw (exp-empty t k e) refl;
        found_as = picked (eqb x 0 && eqb y 0) (Some (Leaf 0)) None (refl, (h, omega arith)) wrong;
      }
  full h (suc (suc zero)) e =
      full-letter 2 (within (a_at t k) (b_at t k)) h (exp-letter t k (letter_at t k refl (inl e)) ∙ rw e) refl
  full h (suc (suc (suc zero))) e =
      let a : a_at t k < k = a-below t p k l (inl e) in
      let b : b_at t k < k = b-below t p k l (inl e) in
      record {
        below =
            pick (eqb x 2 && eqb y 0) (under left (decode t (a_at t k) (exp_of t (a_at t k)) rest))
            (pick (eqb x 3 && eqb y 0) (under right (decode t (b_at t k) (exp_of t (b_at t k)) rest)) unfit);
        decoded-as = rw (exp-or t k e a b) refl;
        found_as =
            picked (eqb x 2 && eqb y 0) (Some (Left (a_at t k))) (pick_shape (eqb x 3 && eqb y 0) (Some (Right (b_at t k))) None) (refl, (h, a))
            (picked (eqb x 3 && eqb y 0) (Some (Right (b_at t k))) None (refl, (h, b)) wrong);
      }
  full h (suc (suc (suc (suc zero)))) e =
      let a : a_at t k < k = a-below t p k l (inr e) in
      let b : b_at t k < k = b-below t p k l (inr e) in
      record {
        below =
            pick (eqb x 4 && eqb y 0)
            (chain pair (decode t (a_at t k) (exp_of t (a_at t k)) rest) (λ o. decode t (b_at t k) (exp_of t (b_at t k)) o)) unfit;
        decoded-as = rw (exp-seq t k e a b) refl;
        found_as = picked (eqb x 4 && eqb y 0) (Some (Both (a_at t k) (b_at t k))) None (refl, (h, a, b)) wrong;
      }
  full h (suc (suc (suc (suc (suc zero))))) e =
      let a : a_at t k < k = star-a-below t p k l e in
      record {
        below = pick (eqb x 5) (decode_items (λ o. decode t (a_at t k) (exp_of t (a_at t k)) o) y rest) unfit;
        decoded-as = rw (exp-star t k e a) refl;
        found_as = picked (eqb x 5) (Some (Many (a_at t k) y)) None (refl, (h, a)) wrong;
      }
  full h (suc (suc (suc (suc (suc (suc zero)))))) e =
      full-letter 6 (outside (a_at t k) (b_at t k)) h (exp-letter t k (letter_at t k refl (inr e)) ∙ rw e) refl
  full h (suc (suc (suc (suc (suc (suc (suc n))))))) e = absurd (omega (arith, kind-small t p k l))

  -- the shape of the record at a place says what decoding finds there
  pub shaped : Shaped t k bs at (shape_at t k bs at)
  unfolding shape_at x y rest
  shaped = go (leb (at + record_size) (length bs)) refl
    where
      go : (b : Bool) → leb (at + record_size) (length bs) ≡ b → Shaped t k bs at (pick_shape b (shape_by t k x y (record_at bs at).number) None)
      go true e =
          let f : at + record_size ≤ length bs = leb-true _ _ e in
          let g : Full (kind_at t k) = full f (kind_at t k) refl in
          let n : Some-as (pick (eqb (record_at bs at).number k) g.below unfit) (shape_by t k x y (record_at bs at).number) =
          picked (eqb (record_at bs at).number k) (shape_of (kind_at t k) (a_at t k) (b_at t k) x y) None g.found_as wrong in
          record {
            known = n.1;
            decoded = ap (decode t k (exp_of t k)) (drop-record bs at f) ∙ g.decoded-as ∙ ap (held (record_at bs at).size) n.0;
          }
      go false e =
          let f : length bs < at + record_size = leb-false _ _ e in
          record { known = tt; decoded = decode-short t k (exp_of t k) (drop at bs) (omega (arith, length-drop at bs)) }

-- the part of a record that ends a branch
span-leaf : (bs : List ℕ) (at n y : ℕ) → at + record_size ≤ length bs → n ≤ 1 → span_of (length bs) (leaf n y (drop (at + record_size) bs)) ≡ Some (record { next = record { at = at + record_size }; size = n })
span-leaf bs at n y h l = go n l
  where
    end : length bs - length (drop (at + record_size) bs) ≡ at + record_size
    end = omega (arith, length-drop (at + record_size) bs)

    go : (n : ℕ) → n ≤ 1 → span_of (length bs) (leaf n y (drop (at + record_size) bs)) ≡ Some (record { next = record { at = at + record_size }; size = n })
    go zero l = ap (λ (i : ℕ). Some (record { next = record { at = i }; size = 0 })) end
    go (suc zero) l = ap (λ (i : ℕ). Some (record { next = record { at = i }; size = 1 })) end
    go (suc (suc n)) l = absurd (omega arith)

-- the part at a place by the shape of its record
span-by : (t : List ℕ) (k : ℕ) (bs : List ℕ) (at : ℕ) (s : Option Shape) → Known k bs at s → span_of (length bs) (decode_by t bs at s) ≡ fit_by t bs at s
unfolding fit_at fit_items
span-by t k bs at (Some (Leaf n)) w = span-leaf bs at n (record_at bs at).argument w.0 w.1
span-by t k bs at (Some (Left c)) w = span-under left (λ v. refl) (length bs) (decode t c (exp_of t c) (drop (at + record_size) bs))
span-by t k bs at (Some (Right c)) w = span-under right (λ v. refl) (length bs) (decode t c (exp_of t c) (drop (at + record_size) bs))
span-by t k bs at (Some (Both c d)) w =
    span-chain pair (λ v u. refl) bs (at + record_size) (decode t c (exp_of t c) (drop (at + record_size) bs)) (λ o. decode t d (exp_of t d) o)
    (λ v rest e. decode-over t c (exp_of t c) bs (at + record_size) w.0 v rest e)
span-by t k bs at (Some (Many c n)) w = refl
span-by t k bs at None w = refl

-- a part whose length is held against the one that is written
span-held : (n m : ℕ) (d : Decoded) → span_of n (held m d) ≡ held_part m (span_of n d)
span-held n m (fits v rest) = go (is_length m (length (flat v)))
  where
    go :
        (b : Bool)
        → span_of n (pick b (fits v rest) unfit) ≡ fit_if b (Some (record { next = record { at = n - length rest }; size = length (flat v) }))
    go true = refl
    go false = refl
span-held n m unfit = refl

module _ (t : List ℕ) (p : Passes t) (k : ℕ) (l : k < count t) (bs : List ℕ) (at : ℕ) where
  -- the part that starts at a place is the one by its children, if the length that is written there is the sum of theirs
  pub fit-held : fit_at t k bs at ≡ held_part (record_at bs at).size (length_at t k bs at)
  unfolding fit_at length_at
  fit-held =
      ap (span_of (length bs)) (shaped t p k l bs at).decoded
      ∙ span-held (length bs) (record_at bs at).size (decode_by t bs at (shape_at t k bs at))
      ∙ ap (held_part (record_at bs at).size) (span-by t k bs at (shape_at t k bs at) (shaped t p k l bs at).known)

  -- a part has a record
  pub length-there : {s : Span} → length_at t k bs at ≡ Some s → at + record_size ≤ length bs
  unfolding length_at
  length-there {s} e = go (shape_at t k bs at) (shaped t p k l bs at).known e
    where
      go : (u : Option Shape) → Known k bs at u → fit_by t bs at u ≡ Some s → at + record_size ≤ length bs
      go (Some (Leaf n)) w f = w.0
      go (Some (Left c)) w f = w.0
      go (Some (Right c)) w f = w.0
      go (Some (Both c d)) w f = w.0
      go (Some (Many c n)) w f = w.0
      go None w f = let z : ◌≡◌ {A = ℕ} 0 1 = cc in absurd (omega arith)

  -- the ways out of `fit_element`: the length that is written is the sum, or is not, or no part is there
  pub held_found : {r : Option Span} {s : Span} {n : ℕ} → r ≡ length_at t k bs at → r ≡ Some s → n ≡ (record_at bs at).size → n < 256 → n ≡ s.size → Some s ≡ fit_at t k bs at
  held_found {r} {s} {n} e f g h i =
      sym
      (fit-held ∙ ap (held_part (record_at bs at).size) (sym e ∙ f)
      ∙ ap (λ (b : Bool). fit_if b (Some s)) (length-written (record_at bs at).size s.size (sym g ∙ i) (omega arith)))

  pub held-other : {r : Option Span} {s : Span} {n : ℕ} → r ≡ length_at t k bs at → r ≡ Some s → n ≡ (record_at bs at).size → ¬ (n ≡ s.size) → None ≡ fit_at t k bs at
  held-other {r} {s} {n} e f g i =
      sym
      (fit-held ∙ ap (held_part (record_at bs at).size) (sym e ∙ f)
      ∙ ap (λ (b : Bool). fit_if (b && leb (record_at bs at).size 255) (Some s)) (ne_eqb (record_at bs at).size s.size (λ z. i (g ∙ z))))

  pub held-unfit : {r : Option Span} → r ≡ length_at t k bs at → r ≡ None → None ≡ fit_at t k bs at
  held-unfit {r} e f = sym (fit-held ∙ ap (held_part (record_at bs at).size) (sym e ∙ f))

-- where a part that was found ends, and how many bytes it can spell
pub record Bounds (bs : List ℕ) (at : ℕ) (s : Span) : Type 0 where
  pub end : s.next.at ≤ length bs
  pub room : at + s.size < s.next.at
  pub small : s.size ≤ 255

span-bounds :
    (t : List ℕ) (k : ℕ) (r : Exp) (bs : List ℕ) (at : ℕ) → at ≤ length bs
    → (d : Decoded) → decode t k r (drop at bs) ≡ d → (s : Span) → span_of (length bs) d ≡ Some s → Bounds bs at s
span-bounds t k r bs at h (fits v rest) e s f =
    let x : Reads r v × (drop at bs ≡ encode t k v ++ rest) × (length (flat v) ≤ 255) = decode-sound t k r (drop at bs) v rest e in
    let l : length bs - at ≡ length (encode t k v) + length rest = sym (length-drop at bs) ∙ ap length x.1 ∙ length-append (encode t k v) rest in
    let g : ◌≡◌ {A = Span} (record { next = record { at = length bs - length rest }; size = length (flat v) }) s = cc in
    let a : length bs - length rest ≡ s.next.at = ap (λ (u : Span). u.next.at) g in
    let b : length (flat v) ≡ s.size = ap (λ (u : Span). u.size) g in
    record {
      end = omega arith;
      room = omega (arith, encode-length t k x.0, flat-records x.0, records-some x.0);
      small = omega (arith, x.2);
    }
span-bounds t k r bs at h unfit e s f = let z : ◌≡◌ {A = ℕ} 0 1 = cc in absurd (omega arith)

-- a part ends inside the reading, and spells at most a byte for each of its records, and at most 255
pub fit-bounds : (t : List ℕ) (k : ℕ) (bs : List ℕ) (at : ℕ) → at ≤ length bs → (s : Span) → fit_at t k bs at ≡ Some s → Bounds bs at s
unfolding fit_at
fit-bounds t k bs at h s e = span-bounds t k (exp_of t k) bs at h (decode t k (exp_of t k) (drop at bs)) refl s e
