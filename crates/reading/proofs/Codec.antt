-- Encoding and decoding are inverse: a byte list starts with the encoding of a reading of r that spells at most 255 bytes exactly where decode finds
-- that reading (document 01, "Readings", and document 02, request 6).
-- Assumes nothing.
use Prim.Native.Nat.{ℕ, zero, suc, ◌+◌, ◌≤◌}
use mathlib.Core.Path.{◌≡◌, refl, sym, ◌∙◌, ap, subst}
use mathlib.Core.Bool.{Bool, true, false, ◌&&◌}
use mathlib.Core.List.{List, [], ◌∷◌, ◌++◌, append_assoc}
use mathlib.Core.Logic.{◌⊎◌, inl, inr, ⊎_elim}
use native.Mathlib.Omega.{arith}
use borrow.Author.Tests.{eqb-true, eq-eqb, leb-true, le-leb}
use lib.Dec.{eqb, leb}
use lib.ListN.{length, length-append}
use Rattle.posix.specs.Expressions.{holds, Exp, nothing, empty, letter, or, seq, star}
use Rattle.posix.specs.Values.{Val, void, byte, left, right, pair, none, more, flat, Reads, reads_void, reads_byte, reads_left, reads_right, reads_pair, reads_none, reads_more}
use Rattle.table.specs.Records.{a_at, b_at}
use Rattle.reading.specs.Codec.{kind_of, argument_of, encode_below, encode, Decoded, fits, unfit, under, chain, pick, spelling, non_empty, decode_items, is_length, held, at_record, decode}

-- a reading of a star is a Stars
pub star-kind : {r : Exp} {w : Val} → Reads (star r) w → kind_of w ≡ 5
star-kind reads_none = refl
star-kind (reads_more v n w) = refl

-- a reading that spells a byte passes the test of an iteration
non_empty-fits : (v : Val) (rest : List ℕ) → ¬ (flat v ≡ []) → non_empty (fits v rest) ≡ fits v rest
non_empty-fits v rest n = go (flat v) refl
  where
    go : (s : List ℕ) → flat v ≡ s → spelling (flat v) (fits v rest) ≡ fits v rest
    go [] e = absurd (n e)
    go (c ∷ s) e = rw e refl

-- a length of at most 255 bytes is one that is written
pub length-written : (n size : ℕ) → n ≡ size → size ≤ 255 → is_length n size ≡ true
length-written n size e h = rw (eq-eqb n size e, le-leb n 255 (omega arith))

-- what f makes of an encoding's first record is found, with its length and number
at_head :
    (t : List ℕ) (k : ℕ) (v : Val) (rest : List ℕ) (f : ℕ → ℕ → List ℕ → Decoded) → length (flat v) ≤ 255
    → f (kind_of v) (argument_of v) (encode_below t k v ++ rest) ≡ fits v rest
    → at_record k f (encode t k v ++ rest) ≡ fits v rest
at_head t k v rest f h e =
    rw (eq-eqb k k refl, e) (ap (λ (b : Bool). pick b (fits v rest) unfit) (length-written (length (flat v)) (length (flat v)) refl h))

-- the iterations of a star are found again, if each of its iterations is
items-complete :
    (t : List ℕ) (k : ℕ) {r : Exp} {w : Val} (D : List ℕ → Decoded)
    → ((v : Val) → Reads r v → length (flat v) ≤ 255 → (rest : List ℕ) → D (encode t (a_at t k) v ++ rest) ≡ fits v rest)
    → Reads (star r) w
    → length (flat w) ≤ 255
    → (rest : List ℕ)
    → decode_items D (argument_of w) (encode_below t k w ++ rest) ≡ fits w rest
items-complete t k D ih reads_none h rest = refl
items-complete t k D ih (reads_more {v = v} {w = w} rv n rw') h rest =
    let l : length (flat v) + length (flat w) ≤ 255 = rw (← length-append (flat v) (flat w)) h in
    rw (append_assoc (encode t (a_at t k) v) (encode_below t k w) rest, ih v rv (omega arith) (encode_below t k w ++ rest), non_empty-fits v (encode_below t k w ++ rest) n, items-complete t k D ih rw' (omega arith) rest)

-- what decode makes of an Or's first record
abbrev or_reader : List ℕ → ℕ → Exp → Exp → ℕ → ℕ → List ℕ → Decoded
or_reader t k r1 r2 x y over =
    pick (eqb x 2 && eqb y 0) (under left (decode t (a_at t k) r1 over))
    (pick (eqb x 3 && eqb y 0) (under right (decode t (b_at t k) r2 over)) unfit)

-- decode finds every reading that is written in front
pub decode-complete :
    (t : List ℕ) (k : ℕ) (r : Exp) {v : Val} → Reads r v → length (flat v) ≤ 255
    → (rest : List ℕ) → decode t k r (encode t k v ++ rest) ≡ fits v rest
decode-complete t k empty reads_void h rest =
    at_head t k void rest (λ x y over. pick (eqb x 0 && eqb y 0) (fits void over) unfit) h refl
decode-complete t k (letter b) (reads_byte {c = c} o) h rest =
    at_head t k (byte c) rest (λ x y over. pick (eqb x 1 && holds b y) (fits (byte y) over) unfit) h (rw o refl)
decode-complete t k (or r1 r2) (reads_left {v = v} rv) h rest =
    at_head t k (left v) rest (or_reader t k r1 r2) h (ap (under left) (decode-complete t (a_at t k) r1 rv h rest))
decode-complete t k (or r1 r2) (reads_right {v = v} rv) h rest =
    at_head t k (right v) rest (or_reader t k r1 r2) h (ap (under right) (decode-complete t (b_at t k) r2 rv h rest))
decode-complete t k (seq r1 r2) (reads_pair {v = v} {w = w} rv rw') h rest =
    let l : length (flat v) + length (flat w) ≤ 255 = rw (← length-append (flat v) (flat w)) h in
    at_head t k (pair v w) rest
    (λ x y over. pick (eqb x 4 && eqb y 0) (chain pair (decode t (a_at t k) r1 over) (λ o. decode t (b_at t k) r2 o)) unfit) h
    (rw (append_assoc (encode t (a_at t k) v) (encode t (b_at t k) w) rest, decode-complete t (a_at t k) r1 rv (omega arith) (encode t (b_at t k) w ++ rest), decode-complete t (b_at t k) r2 rw' (omega arith) rest))
decode-complete t k (star r) {v} rv h rest =
    at_head t k v rest (λ x y over. pick (eqb x 5) (decode_items (λ o. decode t (a_at t k) r o) y over) unfit) h
    (rw (star-kind rv) (items-complete t k (decode t (a_at t k) r) (λ u ru g over. decode-complete t (a_at t k) r ru g over) rv h rest))
decode-complete t k nothing {v = v} rv h rest = elim rv [ ]

-- what the helpers of decode were given, from what they found
pick-fits : (b : Bool) (x : Decoded) (v : Val) (rest : List ℕ) → pick b x unfit ≡ fits v rest → (b ≡ true) × (x ≡ fits v rest)
pick-fits true x v rest e = (refl, e)
pick-fits false x v rest e = let z : ◌≡◌ {A = ℕ} 0 1 = cc in absurd (omega arith)

-- a reading under a constructor comes from one that was found
pub under-fits :
    (f : Val → Val) (d : Decoded) (v : Val) (rest : List ℕ) → under f d ≡ fits v rest → (u : Val) × (d ≡ fits u rest) × (v ≡ f u)
under-fits f (fits u over) v rest e =
    let p : over ≡ rest = cc in let q : f u ≡ v = cc in (u, ap (fits u) p, sym q)
under-fits f unfit v rest e = let z : ◌≡◌ {A = ℕ} 0 1 = cc in absurd (omega arith)

-- two readings, one behind the other, that were found
pub record Chained (f : Val → Val → Val) (d : Decoded) (D : List ℕ → Decoded) (v : Val) (rest : List ℕ) : Type 0 where
  pub front : Val
  pub over : List ℕ
  pub back : Val
  pub found_front : d ≡ fits front over
  pub found_back : D over ≡ fits back rest
  pub made : v ≡ f front back

pub chain_fits :
    (f : Val → Val → Val) (d : Decoded) (D : List ℕ → Decoded) (v : Val) (rest : List ℕ) → chain f d D ≡ fits v rest
    → Chained f d D v rest
chain_fits f (fits u over) D v rest e =
    let x : (w : Val) × (D over ≡ fits w rest) × (v ≡ f u w) = under-fits (f u) (D over) v rest e in
    record { front = u; over = over; back = x.0; found_front = refl; found_back = x.1; made = x.2 }
chain_fits f unfit D v rest e = let z : ◌≡◌ {A = ℕ} 0 1 = cc in absurd (omega arith)

both_true : (a b : Bool) → (a && b) ≡ true → (a ≡ true) × (b ≡ true)
both_true true b e = (refl, e)
both_true false b e = let z : ◌≡◌ {A = ℕ} 0 1 = cc in absurd (omega arith)

-- a reading whose length was held against the one that is written
held_fits : (n : ℕ) (d : Decoded) (v : Val) (rest : List ℕ) → held n d ≡ fits v rest → (d ≡ fits v rest) × (n ≡ length (flat v)) × (length (flat v) ≤ 255)
held_fits n (fits u over) v rest e =
    let p : (is_length n (length (flat u)) ≡ true) × (fits u over ≡ fits v rest) = pick-fits (is_length n (length (flat u))) (fits u over) v rest e in
    let q : (eqb n (length (flat u)) ≡ true) × (leb n 255 ≡ true) = both_true (eqb n (length (flat u))) (leb n 255) p.0 in
    let u-v : u ≡ v = cc in
    let l : n ≡ length (flat v) = eqb-true n (length (flat u)) q.0 ∙ ap (λ (w : Val). length (flat w)) u-v in
    (p.1, l, omega (arith, l, leb-true n 255 q.1))
held_fits n unfit v rest e = let z : ◌≡◌ {A = ℕ} 0 1 = cc in absurd (omega arith)

-- a record that was found: its length is the reading's and its number k
record Recorded (k : ℕ) (f : ℕ → ℕ → List ℕ → Decoded) (bs : List ℕ) (v : Val) (rest : List ℕ) : Type 0 where
  kind : ℕ
  argument : ℕ
  over : List ℕ
  bytes : bs ≡ kind ∷ argument ∷ length (flat v) ∷ k ∷ over
  short : length (flat v) ≤ 255
  found_there : f kind argument over ≡ fits v rest

record-fits : (k : ℕ) (f : ℕ → ℕ → List ℕ → Decoded) (bs : List ℕ) (v : Val) (rest : List ℕ) → at_record k f bs ≡ fits v rest → Recorded k f bs v rest
record-fits k f [] v rest e = let z : ◌≡◌ {A = ℕ} 0 1 = cc in absurd (omega arith)
record-fits k f (x ∷ []) v rest e = let z : ◌≡◌ {A = ℕ} 0 1 = cc in absurd (omega arith)
record-fits k f (x ∷ (y ∷ [])) v rest e = let z : ◌≡◌ {A = ℕ} 0 1 = cc in absurd (omega arith)
record-fits k f (x ∷ (y ∷ (n ∷ []))) v rest e = let z : ◌≡◌ {A = ℕ} 0 1 = cc in absurd (omega arith)
record-fits k f (x ∷ (y ∷ (n ∷ (i ∷ bs)))) v rest e =
    let h : (pick (eqb i k) (f x y bs) unfit ≡ fits v rest) × (n ≡ length (flat v)) × (length (flat v) ≤ 255) =
    held_fits n (pick (eqb i k) (f x y bs) unfit) v rest e in
    let p : (eqb i k ≡ true) × (f x y bs ≡ fits v rest) = pick-fits (eqb i k) (f x y bs) v rest h.0 in
    record {
      kind = x;
      argument = y;
      over = bs;
      bytes = ap (λ (m : ℕ). x ∷ y ∷ m ∷ i ∷ bs) h.1 ∙ ap (λ (j : ℕ). x ∷ y ∷ length (flat v) ∷ j ∷ bs) (eqb-true i k p.0);
      short = h.2;
      found_there = p.1;
    }

-- an iteration that was found spells at least one byte
pub non_empty-found : (d : Decoded) (v : Val) (rest : List ℕ) → non_empty d ≡ fits v rest → (d ≡ fits v rest) × ¬ (flat v ≡ [])
non_empty-found unfit v rest e = let z : ◌≡◌ {A = ℕ} 0 1 = cc in absurd (omega arith)
non_empty-found (fits u over) v rest e = go (flat u) refl e
  where
    go : (s : List ℕ) → flat u ≡ s → spelling s (fits u over) ≡ fits v rest → (fits u over ≡ fits v rest) × ¬ (flat v ≡ [])
    go [] p q = let z : ◌≡◌ {A = ℕ} 0 1 = cc in absurd (omega arith)
    go (c ∷ s) p q =
        let m : u ≡ v = cc in
        (q, λ h. let z : ◌≡◌ {A = List ℕ} [] (c ∷ s) = sym h ∙ ap flat (sym m) ∙ p in let y : ◌≡◌ {A = ℕ} 0 1 = cc in omega arith)

-- the iterations that decode_items finds are written in front, if each that D finds is
pub items-sound :
    (t : List ℕ) (k : ℕ) {r : Exp} (D : List ℕ → Decoded)
    → ((bs : List ℕ) (v : Val) (rest : List ℕ) → D bs ≡ fits v rest → Reads r v × (bs ≡ encode t (a_at t k) v ++ rest))
    → (n : ℕ) (bs : List ℕ) (w : Val) (rest : List ℕ)
    → decode_items D n bs ≡ fits w rest
    → Reads (star r) w × (n ≡ argument_of w) × (bs ≡ encode_below t k w ++ rest)
items-sound t k {r} D ih zero bs w rest e =
    let p : none ≡ w = cc in
    let q : bs ≡ rest = cc in
    subst (λ (u : Val). Reads (star r) u × (0 ≡ argument_of u) × (bs ≡ encode_below t k u ++ rest)) p (reads_none, refl, q)
items-sound t k {r} D ih (suc n) bs w rest e =
    let x : Chained more (non_empty (D bs)) (decode_items D n) w rest = chain_fits more (non_empty (D bs)) (decode_items D n) w rest e in
    let y : (D bs ≡ fits x.front x.over) × ¬ (flat x.front ≡ []) = non_empty-found (D bs) x.front x.over x.found_front in
    let f : Reads r x.front × (bs ≡ encode t (a_at t k) x.front ++ x.over) = ih bs x.front x.over y.0 in
    let g : Reads (star r) x.back × (n ≡ argument_of x.back) × (x.over ≡ encode_below t k x.back ++ rest) =
    items-sound t k D ih n x.over x.back rest x.found_back in
    subst (λ (u : Val). Reads (star r) u × (suc n ≡ argument_of u) × (bs ≡ encode_below t k u ++ rest)) (sym x.made) (
      reads_more f.0 y.1 g.0,
      ap suc g.1,
      f.1 ∙ ap (λ (u : List ℕ). encode t (a_at t k) x.front ++ u) g.2
          ∙ sym (append_assoc (encode t (a_at t k) x.front) (encode_below t k x.back) rest),
    )

-- a record's kind and argument that passed their tests
tested :
    (x n y m : ℕ) (d : Decoded) (v : Val) (rest : List ℕ) → pick (eqb x n && eqb y m) d unfit ≡ fits v rest
    → (x ≡ n) × (y ≡ m) × (d ≡ fits v rest)
tested x n y m d v rest e =
    let p : ((eqb x n && eqb y m) ≡ true) × (d ≡ fits v rest) = pick-fits (eqb x n && eqb y m) d v rest e in
    let q : (eqb x n ≡ true) × (eqb y m ≡ true) = both_true (eqb x n) (eqb y m) p.0 in
    (eqb-true x n q.0, eqb-true y m q.1, p.1)

-- either test of an Or's record
pick-either :
    (b b' : Bool) (x y : Decoded) (v : Val) (rest : List ℕ) → pick b x (pick b' y unfit) ≡ fits v rest
    → ((b ≡ true) × (x ≡ fits v rest)) ⊎ ((b' ≡ true) × (y ≡ fits v rest))
pick-either true b' x y v rest e = inl (refl, e)
pick-either false b' x y v rest e = inr (pick-fits b' y v rest e)

-- what a record and the bytes behind it are: those of a reading
record Below (t : List ℕ) (k : ℕ) (r : Exp) (kind argument : ℕ) (over : List ℕ) (v : Val) (rest : List ℕ) : Type 0 where
  reads : Reads r v
  kind_as : kind ≡ kind_of v
  argument_as : argument ≡ argument_of v
  below : over ≡ encode_below t k v ++ rest

sound :
    (t : List ℕ) (k : ℕ) (r : Exp) {f : ℕ → ℕ → List ℕ → Decoded} {bs : List ℕ} {v : Val} {rest : List ℕ} (x : Recorded k f bs v rest)
    → Below t k r x.kind x.argument x.over v rest
    → Reads r v × (bs ≡ encode t k v ++ rest) × (length (flat v) ≤ 255)
sound t k r {bs = bs} {v = v} {rest = rest} x b = (
  b.reads,
  x.bytes ∙ ap (λ (i : ℕ). i ∷ x.argument ∷ length (flat v) ∷ k ∷ x.over) b.kind_as
      ∙ ap (λ (i : ℕ). kind_of v ∷ i ∷ length (flat v) ∷ k ∷ x.over) b.argument_as
      ∙ ap (λ (o : List ℕ). kind_of v ∷ argument_of v ∷ length (flat v) ∷ k ∷ o) b.below,
  x.short,
)

-- what decode finds is a reading that is written in front, and spells at most 255 bytes
pub decode-sound :
    (t : List ℕ) (k : ℕ) (r : Exp) (bs : List ℕ) (v : Val) (rest : List ℕ) → decode t k r bs ≡ fits v rest
    → Reads r v × (bs ≡ encode t k v ++ rest) × (length (flat v) ≤ 255)
decode-sound t k nothing bs v rest e = let z : ◌≡◌ {A = ℕ} 0 1 = cc in absurd (omega arith)
decode-sound t k empty bs v rest e = go (record-fits k _ bs v rest e)
  where
    go : Recorded k (λ x y over. pick (eqb x 0 && eqb y 0) (fits void over) unfit) bs v rest → Reads empty v × (bs ≡ encode t k v ++ rest) × (length (flat v) ≤ 255)
    go x =
        let y : (x.kind ≡ 0) × (x.argument ≡ 0) × (fits void x.over ≡ fits v rest) =
        tested x.kind 0 x.argument 0 (fits void x.over) v rest x.found_there in
        let p : void ≡ v = cc in
        let q : x.over ≡ rest = cc in
        sound t k empty x
        (subst (λ (u : Val). Below t k empty x.kind x.argument x.over u rest) p
        (record { reads = reads_void; kind_as = y.0; argument_as = y.1; below = q }))
decode-sound t k (letter b) bs v rest e = go (record-fits k _ bs v rest e)
  where
    go : Recorded k (λ x y over. pick (eqb x 1 && holds b y) (fits (byte y) over) unfit) bs v rest → Reads (letter b) v × (bs ≡ encode t k v ++ rest) × (length (flat v) ≤ 255)
    go x =
        let y : ((eqb x.kind 1 && holds b x.argument) ≡ true) × (fits (byte x.argument) x.over ≡ fits v rest) =
        pick-fits (eqb x.kind 1 && holds b x.argument) (fits (byte x.argument) x.over) v rest x.found_there in
        let h : (eqb x.kind 1 ≡ true) × (holds b x.argument ≡ true) = both_true (eqb x.kind 1) (holds b x.argument) y.0 in
        let p : byte x.argument ≡ v = cc in
        let q : x.over ≡ rest = cc in
        sound t k (letter b) x
        (subst (λ (u : Val). Below t k (letter b) x.kind x.argument x.over u rest) p
        (record { reads = reads_byte h.1; kind_as = eqb-true x.kind 1 h.0; argument_as = refl; below = q }))
decode-sound t k (or r1 r2) bs v rest e =
    go (record-fits k _ bs v rest e) (λ over u. decode-sound t (a_at t k) r1 over u rest) (λ over u. decode-sound t (b_at t k) r2 over u rest)
  where
    side :
        (c : ℕ) (r : Exp) (f : Val → Val) (n x y : ℕ) (over : List ℕ)
        → ((u : Val) → Reads r u → Reads (or r1 r2) (f u))
        → ((u : Val) → (kind_of (f u) ≡ n) × (argument_of (f u) ≡ 0) × (encode_below t k (f u) ≡ encode t c u))
        → ((u : Val) → decode t c r over ≡ fits u rest → Reads r u × (over ≡ encode t c u ++ rest) × (length (flat u) ≤ 255))
        → (eqb x n && eqb y 0) ≡ true
        → under f (decode t c r over) ≡ fits v rest
        → Below t k (or r1 r2) x y over v rest
    side c r f n x y over reads encoded ih test found =
        let h : (eqb x n ≡ true) × (eqb y 0 ≡ true) = both_true (eqb x n) (eqb y 0) test in
        let u : (u : Val) × (decode t c r over ≡ fits u rest) × (v ≡ f u) = under-fits f (decode t c r over) v rest found in
        let g : Reads r u.0 × (over ≡ encode t c u.0 ++ rest) × (length (flat u.0) ≤ 255) = ih u.0 u.1 in
        subst (λ (w : Val). Below t k (or r1 r2) x y over w rest) (sym u.2)
        (record {
          reads = reads u.0 g.0;
          kind_as = eqb-true x n h.0 ∙ sym (encoded u.0).0;
          argument_as = eqb-true y 0 h.1 ∙ sym (encoded u.0).1;
          below = g.1 ∙ ap (λ (o : List ℕ). o ++ rest) (sym (encoded u.0).2);
        })

    go :
        Recorded k (or_reader t k r1 r2) bs v rest
        → ((over : List ℕ) (u : Val) → decode t (a_at t k) r1 over ≡ fits u rest → Reads r1 u × (over ≡ encode t (a_at t k) u ++ rest) × (length (flat u) ≤ 255))
        → ((over : List ℕ) (u : Val) → decode t (b_at t k) r2 over ≡ fits u rest → Reads r2 u × (over ≡ encode t (b_at t k) u ++ rest) × (length (flat u) ≤ 255))
        → Reads (or r1 r2) v × (bs ≡ encode t k v ++ rest) × (length (flat v) ≤ 255)
    go x ih1 ih2 =
        sound t k (or r1 r2) x
        (⊎_elim
        (λ h. side (a_at t k) r1 left 2 x.kind x.argument x.over (λ u. reads_left) (λ u. (refl, refl, refl)) (ih1 x.over) h.0 h.1)
        (λ h. side (b_at t k) r2 right 3 x.kind x.argument x.over (λ u. reads_right) (λ u. (refl, refl, refl)) (ih2 x.over) h.0 h.1)
        (pick-either (eqb x.kind 2 && eqb x.argument 0) (eqb x.kind 3 && eqb x.argument 0) (under left (decode t (a_at t k) r1 x.over))
        (under right (decode t (b_at t k) r2 x.over)) v rest x.found_there))
decode-sound t k (seq r1 r2) bs v rest e =
    go (record-fits k _ bs v rest e) (λ over u o. decode-sound t (a_at t k) r1 over u o) (λ over u. decode-sound t (b_at t k) r2 over u rest)
  where
    go :
        Recorded k (λ x y over. pick (eqb x 4 && eqb y 0) (chain pair (decode t (a_at t k) r1 over) (λ o. decode t (b_at t k) r2 o)) unfit) bs v rest
        → ((over : List ℕ) (u : Val) (o : List ℕ) → decode t (a_at t k) r1 over ≡ fits u o → Reads r1 u × (over ≡ encode t (a_at t k) u ++ o) × (length (flat u) ≤ 255))
        → ((over : List ℕ) (u : Val) → decode t (b_at t k) r2 over ≡ fits u rest → Reads r2 u × (over ≡ encode t (b_at t k) u ++ rest) × (length (flat u) ≤ 255))
        → Reads (seq r1 r2) v × (bs ≡ encode t k v ++ rest) × (length (flat v) ≤ 255)
    go x ih1 ih2 =
        let D : List ℕ → Decoded = λ o. decode t (b_at t k) r2 o in
        let y : (x.kind ≡ 4) × (x.argument ≡ 0) × (chain pair (decode t (a_at t k) r1 x.over) D ≡ fits v rest) =
        tested x.kind 4 x.argument 0 (chain pair (decode t (a_at t k) r1 x.over) D) v rest x.found_there in
        let z : Chained pair (decode t (a_at t k) r1 x.over) D v rest = chain_fits pair (decode t (a_at t k) r1 x.over) D v rest y.2 in
        let f : Reads r1 z.front × (x.over ≡ encode t (a_at t k) z.front ++ z.over) × (length (flat z.front) ≤ 255) =
        ih1 x.over z.front z.over z.found_front in
        let g : Reads r2 z.back × (z.over ≡ encode t (b_at t k) z.back ++ rest) × (length (flat z.back) ≤ 255) =
        ih2 z.over z.back z.found_back in
        sound t k (seq r1 r2) x
        (subst (λ (u : Val). Below t k (seq r1 r2) x.kind x.argument x.over u rest) (sym z.made)
        (record {
          reads = reads_pair f.0 g.0;
          kind_as = y.0;
          argument_as = y.1;
          below =
              f.1 ∙ ap (λ (o : List ℕ). encode t (a_at t k) z.front ++ o) g.1
              ∙ sym (append_assoc (encode t (a_at t k) z.front) (encode t (b_at t k) z.back) rest);
        }))
decode-sound t k (star r) bs v rest e = go (record-fits k _ bs v rest e) (λ over u o. decode-sound t (a_at t k) r over u o)
  where
    go :
        Recorded k (λ x y over. pick (eqb x 5) (decode_items (λ o. decode t (a_at t k) r o) y over) unfit) bs v rest
        → ((over : List ℕ) (u : Val) (o : List ℕ) → decode t (a_at t k) r over ≡ fits u o → Reads r u × (over ≡ encode t (a_at t k) u ++ o) × (length (flat u) ≤ 255))
        → Reads (star r) v × (bs ≡ encode t k v ++ rest) × (length (flat v) ≤ 255)
    go x ih =
        let D : List ℕ → Decoded = λ o. decode t (a_at t k) r o in
        let y : (eqb x.kind 5 ≡ true) × (decode_items D x.argument x.over ≡ fits v rest) =
        pick-fits (eqb x.kind 5) (decode_items D x.argument x.over) v rest x.found_there in
        let g : Reads (star r) v × (x.argument ≡ argument_of v) × (x.over ≡ encode_below t k v ++ rest) =
        items-sound t k D (λ o u s f. ((ih o u s f).0, (ih o u s f).1)) x.argument x.over v rest y.1 in
        sound t k (star r) x
        (record { reads = g.0; kind_as = eqb-true x.kind 5 y.0 ∙ sym (star-kind g.0); argument_as = g.1; below = g.2 })
