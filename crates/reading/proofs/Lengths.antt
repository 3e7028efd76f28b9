-- What an encoding's bytes are: a record's for each record, and the line in its Byte records (document 01, "Readings").
-- Assumes nothing.
use Prim.Native.Nat.{ℕ, ◌+◌, ◌*◌, ◌≤◌}
use mathlib.Core.Path.{◌≡◌, refl, sym, ◌∙◌, ap}
use mathlib.Core.List.{List, [], ◌++◌, append_assoc, append-nil}
use native.Mathlib.Omega.{arith}
use lib.ListN.{length, length-append}
use Rattle.posix.specs.Expressions.{Exp}
use Rattle.posix.specs.Values.{Val, flat, records, Reads, reads_void, reads_byte, reads_left, reads_right, reads_pair, reads_none, reads_more}
use Rattle.table.specs.Records.{a_at, b_at}
use Rattle.reading.specs.Codec.{record_size, encode_below, encode}
use Rattle.reading.specs.Fitting.{Fits, spelled}
use Rattle.reading.proofs.Codec.{star-kind}

-- the bytes below a reading's record, with those of the record
below_length : (t : List ℕ) (k : ℕ) {r : Exp} {v : Val} → Reads r v → length (encode_below t k v) + record_size ≡ record_size * records v
below_length t k reads_void = refl
below_length t k (reads_byte h) = refl
below_length t k (reads_left p) = omega (arith, below_length t (a_at t k) p)
below_length t k (reads_right p) = omega (arith, below_length t (b_at t k) p)
below_length t k (reads_pair {v = v} {w = w} p q) =
    omega (arith, below_length t (a_at t k) p, below_length t (b_at t k) q, length-append (encode t (a_at t k) v) (encode t (b_at t k) w))
below_length t k reads_none = refl
below_length t k (reads_more {v = v} {w = w} p n q) =
    omega (arith, below_length t (a_at t k) p, below_length t k q, length-append (encode t (a_at t k) v) (encode_below t k w))

-- an encoding has the bytes of one record for each record
pub encode-length : (t : List ℕ) (k : ℕ) {r : Exp} {v : Val} → Reads r v → length (encode t k v) ≡ record_size * records v
encode-length t k p = omega (arith, below_length t k p)

-- a reading has a record
pub records-some : {r : Exp} {v : Val} → Reads r v → 1 ≤ records v
records-some reads_void = omega arith
records-some (reads_byte h) = omega arith
records-some (reads_left p) = omega arith
records-some (reads_right p) = omega arith
records-some (reads_pair p q) = omega arith
records-some reads_none = omega arith
records-some (reads_more p n q) = omega (arith, records-some p)

-- a reading spells at most one byte a record
pub flat-records : {r : Exp} {v : Val} → Reads r v → length (flat v) ≤ records v
flat-records reads_void = omega arith
flat-records (reads_byte h) = omega arith
flat-records (reads_left p) = omega (arith, flat-records p)
flat-records (reads_right p) = omega (arith, flat-records p)
flat-records (reads_pair {v = v} {w = w} p q) = omega (arith, flat-records p, flat-records q, length-append (flat v) (flat w))
flat-records reads_none = omega arith
flat-records (reads_more {v = v} {w = w} p n q) = omega (arith, flat-records p, flat-records q, length-append (flat v) (flat w))

-- the Byte arguments of an encoding are the line that the reading spells
pub spelled-encode :
    (t : List ℕ) (k : ℕ) {r : Exp} {v : Val} → Reads r v → (rest : List ℕ) → spelled (encode t k v ++ rest) ≡ flat v ++ spelled rest
spelled-encode t k reads_void rest = refl
spelled-encode t k (reads_byte h) rest = refl
spelled-encode t k (reads_left p) rest = spelled-encode t (a_at t k) p rest
spelled-encode t k (reads_right p) rest = spelled-encode t (b_at t k) p rest
spelled-encode t k (reads_pair {v = v} {w = w} p q) rest =
    ap spelled (append_assoc (encode t (a_at t k) v) (encode t (b_at t k) w) rest) ∙ spelled-encode t (a_at t k) p (encode t (b_at t k) w ++ rest)
    ∙ ap (λ (s : List ℕ). flat v ++ s) (spelled-encode t (b_at t k) q rest)
    ∙ sym (append_assoc (flat v) (flat w) (spelled rest))
spelled-encode t k reads_none rest = refl
spelled-encode t k (reads_more {v = v} {w = w} p n q) rest =
    let items : spelled (encode_below t k w ++ rest) ≡ flat w ++ spelled rest = below ∙ spelled-encode t k q rest in
    ap spelled (append_assoc (encode t (a_at t k) v) (encode_below t k w) rest) ∙ spelled-encode t (a_at t k) p (encode_below t k w ++ rest)
    ∙ ap (λ (s : List ℕ). flat v ++ s) items
    ∙ sym (append_assoc (flat v) (flat w) (spelled rest))
  where
    below : spelled (encode_below t k w ++ rest) ≡ spelled (encode t k w ++ rest)
    below = rw (star-kind q) refl

-- the line that fitting bytes spell is the line that their reading flattens to
pub spelled-fits : {t : List ℕ} {k : ℕ} {bs : List ℕ} (f : Fits t k bs) → spelled bs ≡ flat f.value
spelled-fits {t} {k} f =
    ap spelled (f.encoded ∙ sym (append-nil (encode t k f.value))) ∙ spelled-encode t k f.reads [] ∙ append-nil (flat f.value)

-- what fits spells at most 255 bytes (document 02, request 6)
pub fits-short : {t : List ℕ} {k : ℕ} {bs : List ℕ} → Fits t k bs → length (spelled bs) ≤ 255
fits-short f = rw (spelled-fits f) f.short
