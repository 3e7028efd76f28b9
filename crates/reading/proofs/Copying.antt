-- The Byte arguments copied one after another: what the buffer holds while Spell goes over the records.
-- Assumes nothing.
use Prim.Native.Nat.{ℕ, suc, ◌+◌, ◌≤◌, ◌<◌}
use mathlib.Core.Path.{◌≡◌, refl, sym, ◌∙◌, ap}
use mathlib.Core.List.{List, [], ◌∷◌, ◌++◌, append_assoc, append-nil}
use native.Mathlib.Omega.{arith}
use native.Mathlib.Numerals.{add-one}
use borrow.Author.Tests.{eq-eqb, ne_eqb}
use lib.ListN.{length, get_or, drop, set, length-append, length-drop}
use lib.Seq.{drop-cons, set_at}
use Rattle.reading.specs.Codec.{record_size, record_at}
use Rattle.reading.specs.Fitting.{byte_arguments, spelled}
use Rattle.reading.proofs.Places.{records-next, records-end}

-- the records before a place are copied: their Byte arguments stand in front, and the later bytes are left
pub record Copying (bs entry out : List ℕ) (at size : ℕ) : Type 0 where
  pub front : List ℕ
  pub placed : at ≤ length bs
  pub fitting : length (spelled bs) ≤ length entry
  pub so_far : front ++ spelled (drop at bs) ≡ spelled bs
  pub long : length front ≡ size
  pub holds : out ≡ front ++ drop size entry

pub copy_start : (bs entry : List ℕ) → length (spelled bs) ≤ length entry → Copying bs entry entry 0 0
copy_start bs entry h = record { front = []; placed = omega arith; fitting = h; so_far = refl; long = refl; holds = refl }

-- a record that is a Byte, one that is not, and less than a record
spelled-byte :
    (bs : List ℕ) (at : ℕ) → at + record_size ≤ length bs → (record_at bs at).kind ≡ 1
    → spelled (drop at bs) ≡ (record_at bs at).argument ∷ spelled (drop (at + record_size) bs)
spelled-byte bs at h e = ap byte_arguments (records-next bs at h) ∙ rw (eq-eqb (record_at bs at).kind 1 e)

spelled-other :
    (bs : List ℕ) (at : ℕ) → at + record_size ≤ length bs → ¬ ((record_at bs at).kind ≡ 1) → spelled (drop at bs) ≡ spelled (drop (at + record_size) bs)
spelled-other bs at h e = ap byte_arguments (records-next bs at h) ∙ rw (ne_eqb (record_at bs at).kind 1 e)

spelled-short : (bs : List ℕ) (at : ℕ) → length bs < at + record_size → spelled (drop at bs) ≡ []
spelled-short bs at h = ap byte_arguments (records-end bs at h)

module _ {bs entry out : List ℕ} {at size : ℕ} (w : Copying bs entry out at size) where
  -- what is copied already, with one byte more
  more-front :
      at + record_size ≤ length bs → (record_at bs at).kind ≡ 1
      → (w.front ++ ((record_at bs at).argument ∷ [])) ++ spelled (drop (at + record_size) bs) ≡ spelled bs
  more-front h e =
      append_assoc w.front ((record_at bs at).argument ∷ []) (spelled (drop (at + record_size) bs))
      ∙ ap (λ (s : List ℕ). w.front ++ s) (sym (spelled-byte bs at h e))
      ∙ w.so_far

  room-entry : at + record_size ≤ length bs → (record_at bs at).kind ≡ 1 → size < length entry
  room-entry h e =
      let l : length (w.front ++ ((record_at bs at).argument ∷ [])) + length (spelled (drop (at + record_size) bs)) ≡ length (spelled bs) =
      sym (length-append (w.front ++ ((record_at bs at).argument ∷ [])) (spelled (drop (at + record_size) bs))) ∙ ap length (more-front h e) in
      omega (arith, length-append w.front ((record_at bs at).argument ∷ []), w.long, w.fitting)

  front-room : size ≤ length entry
  front-room =
      let l : length w.front + length (spelled (drop at bs)) ≡ length (spelled bs) =
      sym (length-append w.front (spelled (drop at bs))) ∙ ap length w.so_far in
      omega (arith, w.long, w.fitting)

  -- the buffer keeps its length
  pub copy-length : length out ≡ length entry
  copy-length =
      ap length w.holds ∙ length-append w.front (drop size entry) ∙ omega (arith, front-room, w.long, length-drop size entry)

  -- there is room for a byte
  pub copy-room : at + record_size ≤ length bs → (record_at bs at).kind ≡ 1 → size < length out
  copy-room h e = omega (arith, room-entry h e, copy-length)

  pub copy-byte :
      at + record_size ≤ length bs → (record_at bs at).kind ≡ 1 → {after : List ℕ} {y more : ℕ} → after ≡ set out size y → y ≡ (record_at bs at).argument
      → more ≡ size + 1
      → Copying bs entry after (at + record_size) more
  copy-byte h e {after} {y} {more} f n g =
      record {
        front = w.front ++ ((record_at bs at).argument ∷ []);
        placed = h;
        fitting = w.fitting;
        so_far = more-front h e;
        long = length-append w.front ((record_at bs at).argument ∷ []) ∙ omega (arith, w.long);
        holds =
            f ∙ ap (set out size) n ∙ ap (λ (o : List ℕ). set o size (record_at bs at).argument) (w.holds ∙ ap (λ (o : List ℕ). w.front ++ o) (drop-cons entry size 0 (room-entry h e)))
            ∙ set_at w.front (get_or entry size 0) (drop (suc size) entry) (record_at bs at).argument size w.long
            ∙ sym (append_assoc w.front ((record_at bs at).argument ∷ []) (drop (suc size) entry))
            ∙ ap (λ (i : ℕ). (w.front ++ ((record_at bs at).argument ∷ [])) ++ drop i entry) (sym (g ∙ add-one size));
      }

  pub copy-other :
      at + record_size ≤ length bs → ¬ ((record_at bs at).kind ≡ 1) → {after : List ℕ} {more : ℕ} → after ≡ out → more ≡ size → Copying bs entry after (at + record_size) more
  copy-other h e f g =
      record {
        front = w.front;
        placed = h;
        fitting = w.fitting;
        so_far = ap (λ (s : List ℕ). w.front ++ s) (sym (spelled-other bs at h e)) ∙ w.so_far;
        long = w.long ∙ sym g;
        holds = f ∙ w.holds ∙ ap (λ (i : ℕ). w.front ++ drop i entry) (sym g);
      }

  -- all is copied where less than a record is left
  pub copy-end : length bs < at + record_size → (size ≡ length (spelled bs)) × (out ≡ spelled bs ++ drop (length (spelled bs)) entry)
  copy-end h =
      let all : w.front ≡ spelled bs =
      sym (append-nil w.front) ∙ ap (λ (s : List ℕ). w.front ++ s) (sym (spelled-short bs at h)) ∙ w.so_far in
      let n : size ≡ length (spelled bs) = sym w.long ∙ ap length all in
      (n, w.holds ∙ ap (λ (s : List ℕ). s ++ drop size entry) all ∙ ap (λ (i : ℕ). spelled bs ++ drop i entry) n)
