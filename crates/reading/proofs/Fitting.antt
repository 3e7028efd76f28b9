-- A byte sequence fits a record exactly when decoding finds a reading with no byte over (document 01, "Readings", and document 02, request 6).
-- Assumes nothing.
use Prim.Native.Nat.{ℕ, ◌≤◌}
use mathlib.Core.Path.{◌≡◌, refl, sym, ◌∙◌, ap, subst}
use mathlib.Core.List.{List, [], ◌∷◌, ◌++◌, append-nil}
use native.Mathlib.Omega.{arith}
use lib.ListN.{length}
use Rattle.posix.specs.Values.{Val, Reads, flat}
use Rattle.posix.specs.Language.{Bytes}
use Rattle.posix.specs.Decision.{found, missing}
use Rattle.table.specs.Expression.{exp_of}
use Rattle.reading.specs.Codec.{Decoded, fits, unfit, encode, decode}
use Rattle.reading.specs.Fitting.{Fits, whole, reading_of}
use Rattle.reading.proofs.Codec.{decode-complete, decode-sound}

whole-found : (d : Decoded) (v : Val) → whole d ≡ found v → d ≡ fits v []
whole-found (fits u []) v e = let p : u ≡ v = cc in ap (λ (w : Val). fits w []) p
whole-found (fits u (x ∷ bs)) v e = let z : ◌≡◌ {A = ℕ} 0 1 = cc in absurd (omega arith)
whole-found unfit v e = let z : ◌≡◌ {A = ℕ} 0 1 = cc in absurd (omega arith)

-- bytes that are found fit, as the reading that is found
pub found-fits : (t : List ℕ) (k : ℕ) (bs : List ℕ) (v : Val) → reading_of t k bs ≡ found v → (f : Fits t k bs) × (f.value ≡ v)
unfolding reading_of
found-fits t k bs v e =
    let d : Reads (exp_of t k) v × (bs ≡ encode t k v ++ []) × (length (flat v) ≤ 255) =
    decode-sound t k (exp_of t k) bs v [] (whole-found (decode t k (exp_of t k) bs) v e) in
    (record { value = v; reads = d.0; encoded = d.1 ∙ append-nil (encode t k v); short = d.2 }, refl)

-- the encoding of a reading of the record, of at most 255 bytes, is found
pub reading-complete : (t : List ℕ) (k : ℕ) {v : Val} → Reads (exp_of t k) v → length (flat v) ≤ 255 → reading_of t k (encode t k v) ≡ found v
unfolding reading_of
reading-complete t k {v} rv h =
    ap whole (ap (decode t k (exp_of t k)) (sym (append-nil (encode t k v))) ∙ decode-complete t k (exp_of t k) rv h [])

-- bytes that fit are found, as the reading that they encode
pub fits-found : {t : List ℕ} {k : ℕ} {bs : List ℕ} (f : Fits t k bs) → reading_of t k bs ≡ found f.value
fits-found {t} {k} f = rw f.encoded (reading-complete t k f.reads f.short)

-- bytes that are not found do not fit
pub missing-unfit : (t : List ℕ) (k : ℕ) (bs : List ℕ) → reading_of t k bs ≡ missing → ¬ (Fits t k bs)
missing-unfit t k bs e f =
    let p : found f.value ≡ missing = sym (fits-found f) ∙ e in let z : ◌≡◌ {A = ℕ} 0 1 = cc in omega arith

-- the reading that fitting bytes encode is unique
pub fits-unique : {t : List ℕ} {k : ℕ} {bs : List ℕ} (f g : Fits t k bs) → f.value ≡ g.value
fits-unique f g = let p : found f.value ≡ found g.value = sym (fits-found f) ∙ fits-found g in cc

-- bytes that are the encoding of a reading of the record fit: the length in their first record is a byte
pub bytes_fit : (t : List ℕ) (k : ℕ) (bs : List ℕ) (v : Val) → Bytes bs → Reads (exp_of t k) v → bs ≡ encode t k v → Fits t k bs
bytes_fit t k bs v b r e =
    let c : Bytes (encode t k v) = subst (λ (cs : List ℕ). Bytes cs) e b in
    record { value = v; reads = r; encoded = e; short = omega (arith, c 2 (omega arith)) }
