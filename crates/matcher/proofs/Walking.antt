-- The walk's steps: what each kind of record stores of its part's POSIX reading, and what it asks of the walks of its children.
-- Assumes nothing.
use Prim.Native.Nat.{ℕ, ◌-◌, ◌≤◌, ◌<◌}
use native.Mathlib.Omega.{arith}
use mathlib.Core.Path.{◌≡◌, refl, sym, ◌∙◌, ap, subst}
use mathlib.Core.Bool.{Bool, true, false}
use mathlib.Core.List.{List, [], ◌∷◌, ◌++◌}
use lib.ListN.{length, get_or}
use Rattle.posix.specs.Expressions.{ByteSet, Exp, letter}
use Rattle.posix.specs.Values.{Val, left, right, pair}
use Rattle.posix.specs.Relation.{Posix, posix_byte}
use Rattle.posix.proofs.Flats.{posix-flat, posix-reads}
use Rattle.posix.proofs.Ahead.{posix-unique}
use Rattle.table.specs.Records.{count, kind_at, a_at, b_at, is_letter}
use Rattle.table.specs.Expression.{exp_of}
use Rattle.table.proofs.Laws.{exp-empty, exp-letter}
use Rattle.table.proofs.Passing.{count-bound}
use Rattle.rows.specs.Layout.{area_size, tells}
use Rattle.area.specs.Area.{part}
use Rattle.reading.specs.Codec.{record_with, kind_of, argument_of, encode_below, encode}
use Rattle.reading.proofs.Codec.{star-kind}
use Rattle.matcher.specs.Walks.{Here, Room, Stored, LongestCut, Given, Walked, Counted}
use Rattle.area.proofs.Parts.{part_length, part-one}
use Rattle.matcher.proofs.Cuts.{CutReading, seq-reading}
use Rattle.matcher.proofs.Readings.{empty-reading, letter-reading, left-reading, right-reading}
use Rattle.matcher.proofs.Storing.{stored-join, room-first, room-rest}
use Rattle.matcher.proofs.Positions.{reading, moved, fact, or-a, or-exp, right-here, seq-a, seq-b, seq-exp, star-exp, cut-largest, first-here, second-here}

-- a reading is the only one, so what holds of it holds of all
pub walked_by :
    {f : Val → List ℕ} {t s : List ℕ} {k d e : ℕ} {out : List ℕ} {at : ℕ} {b : Bool} {after : List ℕ} {end : ℕ} (v : Val)
    → Posix (part s d e) (exp_of t k) v
    → Stored (f v) out at b after end
    → Walked f t s k d e out at b after end
walked_by {f} {out = out} {at = at} {b = b} {after = after} {end = end} v p x =
    record { stored = λ u q. subst (λ (z : Val). Stored (f z) out at b after end) (posix-unique p q) x }

pub given_by :
    {f : Val → List ℕ} {t s w : List ℕ} {k d e : ℕ} {out : List ℕ} {at : ℕ} {b : Bool} (v : Val) → Here t s w k d e
    → area_size (count t) (length s) ≤ length w
    → Posix (part s d e) (exp_of t k) v
    → Room (f v) out at b
    → Given f t s w k d e out at b
given_by {f} {out = out} {at = at} {b = b} v h a p x =
    record { here = h; area = a; room = λ u q. subst (λ (z : Val). Room (f z) out at b) (posix-unique p q) x }

-- the part's record, of kind x and argument y, then the bytes f of the reading at another position
pub record Headed (x y : ℕ) (f : Val → List ℕ) (t s w : List ℕ) (k d e c d' e' : ℕ) : Type 0 where
  pub here : Here t s w c d' e'
  pub value : Val
  pub inner : Val
  pub whole : Posix (part s d e) (exp_of t k) value
  pub part_read : Posix (part s d' e') (exp_of t c) inner
  pub bytes : encode t k value ≡ record_with x y e k ++ f inner

module _ {x y : ℕ} {f : Val → List ℕ} {t s w : List ℕ} {k d e c d' e' : ℕ} (h : Headed x y f t s w k d e c d' e') {out : List ℕ} {at : ℕ} {b : Bool} where
  headed-all : Given (encode t k) t s w k d e out at b → Room ((record_with x y e k) ++ f h.inner) out at b
  headed-all g = subst (λ (bs : List ℕ). Room bs out at b) h.bytes (g.room h.value h.whole)

  pub headed-room : Given (encode t k) t s w k d e out at b → Room (record_with x y e k) out at b
  headed-room g = room-first (record_with x y e k) (f h.inner) (headed-all g)

  pub headed-given :
      {out1 : List ℕ} {n : ℕ} → Given (encode t k) t s w k d e out at b → Stored (record_with x y e k) out at b out1 n → Given f t s w c d' e' out1 n b
  headed-given g p =
      given_by h.inner h.here g.area h.part_read (room-rest (record_with x y e k) (f h.inner) (headed-all g) p)

  pub headed-walked :
      {out1 out2 : List ℕ} {n r : ℕ} → Stored (record_with x y e k) out at b out1 n → Walked f t s c d' e' out1 n b out2 r
      → Walked (encode t k) t s k d e out at b out2 r
  headed-walked {out1} {out2} {n} {r} p q =
      walked_by h.value h.whole
      (subst (λ (bs : List ℕ). Stored bs out at b out2 r) (sym h.bytes) (stored-join p (q.stored h.inner h.part_read)))

-- a part whose reading is one record
record Leaf (x y : ℕ) (t s : List ℕ) (k d e : ℕ) : Type 0 where
  value : Val
  whole : Posix (part s d e) (exp_of t k) value
  bytes : encode t k value ≡ record_with x y e k

leaf_room :
    {x y : ℕ} {t s w : List ℕ} {k d e : ℕ} {out : List ℕ} {at : ℕ} {b : Bool} → Leaf x y t s k d e → Given (encode t k) t s w k d e out at b
    → Room (record_with x y e k) out at b
leaf_room {out = out} {at = at} {b = b} l g = subst (λ (bs : List ℕ). Room bs out at b) l.bytes (g.room l.value l.whole)

leaf_walked :
    {x y : ℕ} {t s : List ℕ} {k d e : ℕ} {out : List ℕ} {at : ℕ} {b : Bool} {out1 : List ℕ} {n : ℕ} → Leaf x y t s k d e
    → Stored (record_with x y e k) out at b out1 n
    → Walked (encode t k) t s k d e out at b out1 n
leaf_walked {out = out} {at = at} {b = b} {out1 = out1} {n = n} l p =
    walked_by l.value l.whole (subst (λ (bs : List ℕ). Stored bs out at b out1 n) (sym l.bytes) p)

letter-length : {s : List ℕ} {b : ByteSet} {v : Val} → Posix s (letter b) v → length s ≡ 1
letter-length (posix_byte h e) = ap length e

module _ {t s w : List ℕ} {k d e : ℕ} (h : Here t s w k d e) where
  -- the reading, by the record's expression
  read_as : {r : Exp} → exp_of t k ≡ r → Posix (part s d e) r (reading h).0
  read_as q = subst (λ (r : Exp). Posix (part s d e) r (reading h).0) q (reading h).1

  -- the record's length is the part's
  pub head_bytes : {v : Val} → Posix (part s d e) (exp_of t k) v → encode t k v ≡ record_with (kind_of v) (argument_of v) e k ++ encode_below t k v
  head_bytes {v} p =
      ap (λ (n : ℕ). record_with (kind_of v) (argument_of v) n k ++ encode_below t k v) (ap length (posix-flat p) ∙ part_length s d e h.left h.size)

  -- the same of the reading, under another name
  head_as : {v : Val} → (reading h).0 ≡ v → encode t k (reading h).0 ≡ record_with (kind_of v) (argument_of v) e k ++ encode_below t k v
  head_as q = head_bytes (reading h).1 ∙ ap (λ (v : Val). record_with (kind_of v) (argument_of v) e k ++ encode_below t k v) q

  -- the length and the record's number are bytes
  pub bytes-here : (e < 256) × (k < 256)
  bytes-here = (omega (arith, h.size, h.left, h.short), omega (arith, h.record_inside, count-bound t h.passes))

  -- Empty
  empty_leaf : kind_at t k ≡ 1 → Leaf 0 0 t s k d e
  empty_leaf z =
      record {
        value = (reading h).0;
        whole = (reading h).1;
        bytes = head_as (empty-reading (read_as (exp-empty t k z))).0;
      }

  -- a letter: the part is one byte
  pub letter-one : is_letter t k ≡ true → e ≡ 1
  letter-one z = sym (part_length s d e h.left h.size) ∙ letter-length (read_as (exp-letter t k z))

  letter-part : is_letter t k ≡ true → part s d e ≡ get_or s (length s - d) 0 ∷ []
  letter-part z =
      ap (part s d) (letter-one z) ∙ part-one s d (omega (arith, letter-one z, h.size)) h.left

  letter-leaf : is_letter t k ≡ true → Leaf 1 (get_or s (length s - d) 0) t s k d e
  letter-leaf z =
      record {
        value = (reading h).0;
        whole = (reading h).1;
        bytes = head_as (letter-reading (get_or s (length s - d) 0) (read_as (exp-letter t k z)) (letter-part z));
      }

  -- Star: the count, then the iterations
  pub star-headed : {times : ℕ} → kind_at t k ≡ 5 → Counted t s k d e times → Headed 5 times (encode_below t k) t s w k d e k d e
  star-headed {times} z g =
      record {
        here = h;
        value = (reading h).0;
        inner = (reading h).0;
        whole = (reading h).1;
        part_read = (reading h).1;
        bytes =
            head_bytes (reading h).1
            ∙ ap (λ (i : ℕ). record_with i (argument_of (reading h).0) e k ++ encode_below t k (reading h).0) (star-kind (posix-reads (read_as (star-exp h refl z))))
            ∙ ap (λ (i : ℕ). record_with 5 i e k ++ encode_below t k (reading h).0) (sym (g.counted (reading h).0 (reading h).1));
      }

-- Or: Left where the first child spells the part, and Right where it does not
module _ {t s w : List ℕ} {k d e a b : ℕ} (h : Here t s w k d e) (p : a ≡ a_at t k) (q : b ≡ b_at t k) (z : kind_at t k ≡ 3) {x : Bool} (g : x ≡ tells (count t) w a d e) where
  a-inside : a < count t
  a-inside = omega (arith, or-a h p q z, h.record_inside)

  pub left-headed : x ≡ true → Headed 2 0 (encode t a) t s w k d e a d e
  left-headed f =
      let u : (u : Val) × ((reading h).0 ≡ left u) × Posix (part s d e) (exp_of t a) u =
      left-reading (sym (fact h a d e a-inside (omega arith) h.size) ∙ sym g ∙ f) (read_as h (or-exp h p q z)) in
      record {
        here = moved h a d e a-inside (omega arith) h.size (sym g ∙ f);
        value = (reading h).0;
        inner = u.0;
        whole = (reading h).1;
        part_read = u.2;
        bytes = head_as h u.1 ∙ ap (λ (c : ℕ). record_with 2 0 e k ++ encode t c u.0) (sym p);
      }

  pub right-headed : x ≡ false → Headed 3 0 (encode t b) t s w k d e b d e
  right-headed f =
      let u : (u : Val) × ((reading h).0 ≡ right u) × Posix (part s d e) (exp_of t b) u =
      right-reading (sym (fact h a d e a-inside (omega arith) h.size) ∙ sym g ∙ f) (read_as h (or-exp h p q z)) in
      record {
        here = right-here h p q z (sym g ∙ f);
        value = (reading h).0;
        inner = u.0;
        whole = (reading h).1;
        part_read = u.2;
        bytes = head_as h u.1 ∙ ap (λ (c : ℕ). record_with 3 0 e k ++ encode t c u.0) (sym q);
      }

module _ {t s w : List ℕ} {k d e : ℕ} {out : List ℕ} {at : ℕ} {b : Bool} (g : Given (encode t k) t s w k d e out at b) where
  pub empty-room : kind_at t k ≡ 1 → Room (record_with 0 0 e k) out at b
  empty-room z = leaf_room (empty_leaf g.here z) g

  pub empty_walked : {out1 : List ℕ} {n : ℕ} → kind_at t k ≡ 1 → Stored (record_with 0 0 e k) out at b out1 n → Walked (encode t k) t s k d e out at b out1 n
  empty_walked z p = leaf_walked (empty_leaf g.here z) p

  pub letter-room : is_letter t k ≡ true → Room (record_with 1 (get_or s (length s - d) 0) e k) out at b
  letter-room z = leaf_room (letter-leaf g.here z) g

  pub letter-walked :
      {out1 : List ℕ} {n : ℕ} → is_letter t k ≡ true → Stored (record_with 1 (get_or s (length s - d) 0) e k) out at b out1 n
      → Walked (encode t k) t s k d e out at b out1 n
  letter-walked z p = leaf_walked (letter-leaf g.here z) p

-- the bytes of Seq: its record, then the readings of the two parts of the longest cut
record Both (t s w : List ℕ) (k d e a b cut : ℕ) : Type 0 where
  value : Val
  v1 : Val
  v2 : Val
  whole : Posix (part s d e) (exp_of t k) value
  here1 : Here t s w a d cut
  here2 : Here t s w b (d - cut) (e - cut)
  read1 : Posix (part s d cut) (exp_of t a) v1
  read2 : Posix (part s (d - cut) (e - cut)) (exp_of t b) v2
  bytes : encode t k value ≡ record_with 4 0 e k ++ (encode t a v1 ++ encode t b v2)

both :
    {t s w : List ℕ} {k d e a b cut : ℕ} → Here t s w k d e → a ≡ a_at t k → b ≡ b_at t k → kind_at t k ≡ 4
    → LongestCut (count t) w a b d e 0 cut
    → Both t s w k d e a b cut
both {t} {s} {w} {k} {d} {e} {a} {b} {cut} h p q z x =
    let i : a < count t = omega (arith, seq-a h p q z, h.record_inside) in
    let j : b < count t = omega (arith, seq-b h p q z, h.record_inside) in
    let y : CutReading pair (exp_of t a) (exp_of t b) s d e cut (reading h).0 =
    seq-reading (cut-largest h i j x) (read_as h (seq-exp h p q z)) in
    record {
      value = (reading h).0;
      v1 = y.v1;
      v2 = y.v2;
      whole = (reading h).1;
      here1 = first-here h i x.found;
      here2 = second-here h j x.found;
      read1 = y.first;
      read2 = y.second;
      bytes =
          head_as h y.value ∙ ap (λ (i : ℕ). record_with 4 0 e k ++ (encode t i y.v1 ++ encode t (b_at t k) y.v2)) (sym p)
          ∙ ap (λ (i : ℕ). record_with 4 0 e k ++ (encode t a y.v1 ++ encode t i y.v2)) (sym q);
    }

module _
    {t s w : List ℕ} {k d e : ℕ} {out : List ℕ} {at : ℕ} {b : Bool} (g : Given (encode t k) t s w k d e out at b) {a c : ℕ} (p : a ≡ a_at t k)
    (q : c ≡ b_at t k) (z : kind_at t k ≡ 4) {cut : ℕ} (x : LongestCut (count t) w a c d e 0 cut)
  where
    y : Both t s w k d e a c cut
    y = both g.here p q z x

    seq-all : Room ((record_with 4 0 e k) ++ (encode t a y.v1 ++ encode t c y.v2)) out at b
    seq-all = subst (λ (bs : List ℕ). Room bs out at b) y.bytes (g.room y.value y.whole)

    pub seq-room : Room (record_with 4 0 e k) out at b
    seq-room = room-first (record_with 4 0 e k) (encode t a y.v1 ++ encode t c y.v2) seq-all

    module _ {out1 : List ℕ} {n : ℕ} (i : Stored (record_with 4 0 e k) out at b out1 n) where
      seq-parts : Room (encode t a y.v1 ++ encode t c y.v2) out1 n b
      seq-parts = room-rest (record_with 4 0 e k) (encode t a y.v1 ++ encode t c y.v2) seq-all i

      pub seq-first : Given (encode t a) t s w a d cut out1 n b
      seq-first = given_by y.v1 y.here1 g.area y.read1 (room-first (encode t a y.v1) (encode t c y.v2) seq-parts)

      module _ {out2 : List ℕ} {n2 : ℕ} (j : Walked (encode t a) t s a d cut out1 n b out2 n2) where
        pub seq-second : Given (encode t c) t s w c (d - cut) (e - cut) out2 n2 b
        seq-second =
            given_by y.v2 y.here2 g.area y.read2
            (room-rest (encode t a y.v1) (encode t c y.v2) seq-parts (j.stored y.v1 y.read1))

        pub seq-walked :
            {out3 : List ℕ} {n3 : ℕ} → Walked (encode t c) t s c (d - cut) (e - cut) out2 n2 b out3 n3
            → Walked (encode t k) t s k d e out at b out3 n3
        seq-walked {out3} {n3} r =
            walked_by y.value y.whole
            (subst (λ (bs : List ℕ). Stored bs out at b out3 n3) (sym y.bytes)
            (stored-join i (stored-join (j.stored y.v1 y.read1) (r.stored y.v2 y.read2))))
