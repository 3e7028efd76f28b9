-- A whole byte sequence: it fits where the part at its front ends with its last byte.
-- Assumes nothing.
use Rattle.std.specs.Prelude.{Option, Some, None, Result, Ok, Err}
use Rattle.std.specs.Option.{ok_or}
use Rattle.table.specs.declared.Refusal.{Refusal}
use Rattle.table.proofs.Exits.{refused-none, given-some}
use Rattle.reading.proofs.Admission.{Lent}
use Prim.Native.Nat.{ℕ, ◌-◌, ◌≤◌}
use mathlib.Core.Path.{◌≡◌, refl, sym, ◌∙◌, ap}
use mathlib.Core.List.{List, [], ◌∷◌, ◌++◌}
use native.Mathlib.Omega.{arith}
use lib.ListN.{length, length-append}
use Rattle.posix.specs.Expressions.{Exp}
use Rattle.posix.specs.Values.{Val, flat, Reads}
use Rattle.posix.specs.Decision.{Parsed, found, missing}
use Rattle.table.specs.Expression.{exp_of}
use Rattle.reading.specs.declared.Span.{Span}
use Rattle.reading.specs.Codec.{Decoded, fits, unfit, encode, decode}
use Rattle.reading.specs.Fitting.{Fits, whole, reading_of}
use Rattle.reading.specs.Walks.{span_of, fit_at, sized, whole_at}
use Rattle.reading.proofs.Codec.{decode-sound}
use Rattle.reading.proofs.Fitting.{found-fits}

-- what decoding found, with no byte over and with some
sized-found :
    (bs : List ℕ) (d : Decoded) → ((v : Val) (rest : List ℕ) → d ≡ fits v rest → length rest ≤ length bs)
    → (s : Span) → span_of (length bs) d ≡ Some s → s.next.at ≡ length bs → Some s.size ≡ sized (whole d)
sized-found bs (fits v []) o s e h =
    let g : ◌≡◌ {A = Span} (record { next = record { at = length bs - 0 }; size = length (flat v) }) s = cc in
    ap Some (sym (ap (λ (u : Span). u.size) g))
sized-found bs (fits v (x ∷ rest)) o s e h =
    let g : ◌≡◌ {A = Span} (record { next = record { at = length bs - length (x ∷ rest) }; size = length (flat v) }) s = cc in
    let a : length bs - length (x ∷ rest) ≡ s.next.at = ap (λ (u : Span). u.next.at) g in
    absurd (omega (arith, o v (x ∷ rest) refl))
sized-found bs unfit o s e h = let z : ◌≡◌ {A = ℕ} 0 1 = cc in absurd (omega arith)

sized-over : (bs : List ℕ) (d : Decoded) (s : Span) → span_of (length bs) d ≡ Some s → ¬ (s.next.at ≡ length bs) → None ≡ sized (whole d)
sized-over bs (fits v []) s e h =
    let g : ◌≡◌ {A = Span} (record { next = record { at = length bs - 0 }; size = length (flat v) }) s = cc in
    let a : length bs - 0 ≡ s.next.at = ap (λ (u : Span). u.next.at) g in
    absurd (h (omega arith))
sized-over bs (fits v (x ∷ rest)) s e h = refl
sized-over bs unfit s e h = refl

sized-unfit : (n : ℕ) (d : Decoded) → span_of n d ≡ None → None ≡ sized (whole d)
sized-unfit n (fits v rest) e = let z : ◌≡◌ {A = ℕ} 0 1 = cc in absurd (omega arith)
sized-unfit n unfit e = refl

over-length : (t : List ℕ) (k : ℕ) (r : Exp) (bs : List ℕ) (v : Val) (rest : List ℕ) → decode t k r bs ≡ fits v rest → length rest ≤ length bs
over-length t k r bs v rest e =
    let x : Reads r v × (bs ≡ encode t k v ++ rest) × (length (flat v) ≤ 255) = decode-sound t k r bs v rest e in
    omega (arith, ap length x.1, length-append (encode t k v) rest)

module _ (t : List ℕ) (k : ℕ) (bs : List ℕ) where
  -- the part at the front ends with the last byte, before it, or is not there
  pub whole-spells : (s : Span) → fit_at t k bs 0 ≡ Some s → s.next.at ≡ length bs → Some s.size ≡ whole_at t k bs
  unfolding fit_at whole_at reading_of
  whole-spells s = sized-found bs (decode t k (exp_of t k) bs) (over-length t k (exp_of t k) bs) s

  pub whole-over : (s : Span) → fit_at t k bs 0 ≡ Some s → ¬ (s.next.at ≡ length bs) → None ≡ whole_at t k bs
  unfolding fit_at whole_at reading_of
  whole-over s = sized-over bs (decode t k (exp_of t k) bs) s

  pub whole-unfit : fit_at t k bs 0 ≡ None → None ≡ whole_at t k bs
  unfolding fit_at whole_at reading_of
  whole-unfit = sized-unfit (length bs) (decode t k (exp_of t k) bs)

-- a whole reading: it fits, and spells so many bytes
pub record Reading (t : List ℕ) (k : ℕ) (bs : List ℕ) (n : ℕ) : Type 0 where
  pub fitting : Fits t k bs
  pub size : n ≡ length (flat fitting.value)

sized-spells : (p : Parsed) (n : ℕ) → Some n ≡ sized p → (v : Val) × (p ≡ found v) × (n ≡ length (flat v))
sized-spells (found v) n e = (v, refl, cc)
sized-spells missing n e = let z : ◌≡◌ {A = ℕ} 0 1 = cc in absurd (omega arith)

sized-misfit : (p : Parsed) → None ≡ sized p → p ≡ missing
sized-misfit (found v) e = let z : ◌≡◌ {A = ℕ} 0 1 = cc in absurd (omega arith)
sized-misfit missing e = refl

-- what `fit_whole` tells of the bytes
pub whole-reading : (t : List ℕ) (k : ℕ) (bs : List ℕ) (r : Option ℕ) (n : ℕ) → r ≡ whole_at t k bs → r ≡ Some n → Reading t k bs n
unfolding whole_at
whole-reading t k bs r n e f =
    let x : (v : Val) × (reading_of t k bs ≡ found v) × (n ≡ length (flat v)) = sized-spells (reading_of t k bs) n (sym f ∙ e) in
    let y : (f : Fits t k bs) × (f.value ≡ x.0) = found-fits t k bs x.0 x.1 in
    record { fitting = y.0; size = x.2 ∙ ap (λ (v : Val). length (flat v)) (sym y.1) }

pub whole-missing : (t : List ℕ) (k : ℕ) (bs : List ℕ) (r : Option ℕ) → r ≡ whole_at t k bs → r ≡ None → reading_of t k bs ≡ missing
unfolding whole_at
whole-missing t k bs r e f = sized-misfit (reading_of t k bs) (sym f ∙ e)

-- the same where a call goes by the rules x that it was lent, and refuses bytes that do not fit
pub fitting :
    (bs : List ℕ) (why : Refusal) {t x : List ℕ} {k : ℕ} {r : Option ℕ} {q : Result ℕ Refusal} {n : ℕ} → Lent t k x → r ≡ whole_at x k bs
    → q ≡ ok_or r why
    → q ≡ Ok n
    → Reading t k bs n
fitting bs why l e f g = whole-reading _ _ _ _ _ (rw l.same at e) (given-some _ _ _ _ f g)

pub misfitting :
    (bs : List ℕ) (why : Refusal) {said : Refusal} {t x : List ℕ} {k : ℕ} {r : Option ℕ} {q : Result ℕ Refusal} → Lent t k x → r ≡ whole_at x k bs
    → q ≡ ok_or r why
    → q ≡ Err said
    → (reading_of t k bs ≡ missing) × (said ≡ why)
misfitting bs why l e f g = let n = refused-none _ _ _ _ f g in (whole-missing _ _ _ _ (rw l.same at e) n.0, n.1)
