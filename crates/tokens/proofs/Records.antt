-- The walk over the records of a fitting reading lists its tokens, and every record has the number of a record of the table.
-- Assumes nothing.
use Prim.Native.Nat.{ℕ, zero, suc, ◌+◌, ◌≤◌, ◌<◌}
use mathlib.Core.Path.{◌≡◌, refl, sym, ◌∙◌, ap, ap₂, subst}
use mathlib.Core.Bool.{Bool, true, false, ◌&&◌, and-false}
use mathlib.Core.List.{List, [], ◌∷◌, ◌++◌, append_assoc, append-nil}
use native.Mathlib.Omega.{arith}
use borrow.Author.Tests.{le-leb, lt-leb}
use lib.ListN.{length, length-append}
use Rattle.posix.specs.Expressions.{Exp}
use Rattle.posix.specs.Values.{Val, flat, Reads, reads_void, reads_byte, reads_left, reads_right, reads_pair, reads_none, reads_more}
use Rattle.table.specs.Records.{count, a_at, b_at, tag_at}
use Rattle.table.specs.Faults.{Passes}
use Rattle.table.specs.Expression.{exp_of}
use Rattle.table.proofs.Children.{Node, node_or, node_seq, node_star, node}
use Rattle.reading.specs.Codec.{Record, records_of, kind_of, head_of, encode_below, encode}
use Rattle.reading.specs.Fitting.{Fits}
use Rattle.reading.proofs.Codec.{star-kind}
use Rattle.tokens.specs.Tokens.{Token, cons_if, positive, outermost, placed_below, placed_parts, filter, has_size, tokens_from}
use Rattle.tokens.specs.Walks.{width, is_listed, token_at, end_after, list_records, list_reading, Numbered, numbered_none, numbered_more}
use Rattle.tokens.proofs.Filters.{filter-append}

-- where the last token ended does not matter
step-alike :
    (b : Bool) (x : Token) (walk : ℕ → List Token) (e f : ℕ) → walk e ≡ walk f
    → cons_if b x [] ++ walk (end_after (cons_if b x []) e) ≡ cons_if b x [] ++ walk (end_after (cons_if b x []) f)
step-alike true x walk e f h = refl
step-alike false x walk e f h = h

ended-alike : (t : List ℕ) (rs : List Record) (at e f : ℕ) → e ≤ at → f ≤ at → list_records t rs at e ≡ list_records t rs at f
ended-alike t [] at e f g h = refl
ended-alike t (r ∷ rs) at e f g h =
    let next : ℕ = at + width r.kind in
    rw (le-leb e at g, le-leb f at h)
    (step-alike (positive (tag_at t r.number) && (positive r.size && true)) (record { tag = tag_at t r.number; offset = at; size = r.size })
    (list_records t rs next) e f (ended-alike t rs next e f (omega arith) (omega arith)))

-- a part inside a token is not listed
inside-unlisted : (tag size at e : ℕ) → at + size ≤ e → is_listed tag size at e ≡ false
inside-unlisted tag zero at e h = and-false (positive tag)
inside-unlisted tag (suc n) at e h = rw (lt-leb e at (omega arith)) (and-false (positive tag))

inside-none : (t : List ℕ) (r : Record) (at e : ℕ) → at + r.size ≤ e → token_at t r at e ≡ []
inside-none t r at e h =
    ap (λ (b : Bool). cons_if b (record { tag = tag_at t r.number; offset = at; size = r.size }) [])
    (inside-unlisted (tag_at t r.number) r.size at e h)

-- what the walk lists of bytes bs that are a part's, where the first bytes of its line u are passed already: nothing inside a token, and otherwise
-- the parts of at least one byte
record Walked (t bs : List ℕ) (first : ℕ) (u : List ℕ) (parts : ℕ → List Token) : Type 0 where
  inside :
      (rest : List ℕ) (at e : ℕ) → at + length u ≤ e
      → list_records t (records_of (bs ++ rest)) (at + first) e ≡ list_records t (records_of rest) (at + length u) e
  outside :
      (rest : List ℕ) (at : ℕ)
      → list_records t (records_of (bs ++ rest)) (at + first) at
      ≡ filter has_size (parts at) ++ list_records t (records_of rest) (at + length u) (at + length u)

-- a part by its tag; walk is what is listed below it, by the end of the last token
outermost-listed :
    (tag n at : ℕ) (below behind : List Token) (walk : ℕ → List Token) → walk at ≡ filter has_size below ++ behind → walk (at + n) ≡ behind
    → cons_if (is_listed tag n at at) (record { tag = tag; offset = at; size = n }) []
    ++ walk (end_after (cons_if (is_listed tag n at at) (record { tag = tag; offset = at; size = n }) []) at)
    ≡ filter has_size (outermost tag at n below) ++ behind
outermost-listed zero n at below behind walk g h = g
outermost-listed (suc tag) zero at below behind walk g h = let e : at ≡ at + 0 = omega arith in ap walk e ∙ h
outermost-listed (suc tag) (suc n) at below behind walk g h =
    rw (le-leb at at (omega arith)) (ap (λ (xs : List Token). record { tag = suc tag; offset = at; size = suc n } ∷ xs) h)

module _ (t : List ℕ) where
  -- no record
  walked_none : (u : List ℕ) → Walked t [] (length u) u (λ _. [])
  walked_none u =
      record {
        inside = λ rest at e h. refl;
        outside = λ rest at. ended-alike t (records_of rest) (at + length u) at (at + length u) (omega arith) (omega arith);
      }

  -- a part's own record, before those below it
  walked-part :
      (k : ℕ) (v : Val) → Walked t (encode_below t k v) (width (kind_of v)) (flat v) (placed_below t k v)
      → Walked t (encode t k v) 0 (flat v) (placed_parts t k v)
  walked-part k v w =
      record {
        inside = λ rest at e h.
            let z : at + 0 ≡ at = omega arith in
            ap (λ (i : ℕ). list_records t (records_of (encode t k v ++ rest)) i e) z
            ∙ ap (λ (xs : List Token). xs ++ list_records t (records_of (encode_below t k v ++ rest)) (at + width (kind_of v)) (end_after xs e))
            (inside-none t (head_of k v) at e h)
            ∙ w.inside rest at e h;
        outside = λ rest at.
            let z : at + 0 ≡ at = omega arith in
            ap (λ (i : ℕ). list_records t (records_of (encode t k v ++ rest)) i at) z
            ∙ outermost-listed (tag_at t k) (length (flat v)) at (placed_below t k v at)
            (list_records t (records_of rest) (at + length (flat v)) (at + length (flat v)))
            (list_records t (records_of (encode_below t k v ++ rest)) (at + width (kind_of v)))
            (w.outside rest at)
            (w.inside rest at (at + length (flat v)) (omega arith));
      }

  -- two parts
  walked_both :
      {bs cs u w : List ℕ} {p q : ℕ → List Token} → Walked t bs 0 u p → Walked t cs 0 w q
      → Walked t (bs ++ cs) 0 (u ++ w) (λ at. p at ++ q (at + length u))
  walked_both {bs} {cs} {u} {w} {p} {q} x y =
      record {
        inside = λ rest at e h.
            let m : at + length u ≡ at + length u + 0 = omega arith in
            let n : at + length u + length w ≡ at + length (u ++ w) = omega (arith, length-append u w) in
            ap (λ (b : List ℕ). list_records t (records_of b) (at + 0) e) (append_assoc bs cs rest)
            ∙ x.inside (cs ++ rest) at e (omega (arith, length-append u w))
            ∙ ap (λ (i : ℕ). list_records t (records_of (cs ++ rest)) i e) m
            ∙ y.inside rest (at + length u) e (omega (arith, length-append u w))
            ∙ ap (λ (i : ℕ). list_records t (records_of rest) i e) n;
        outside = λ rest at.
            let m : at + length u ≡ at + length u + 0 = omega arith in
            let n : at + length u + length w ≡ at + length (u ++ w) = omega (arith, length-append u w) in
            let first : List Token = filter has_size (p at) in
            let second : List Token = filter has_size (q (at + length u)) in
            let next : ℕ → List Token = λ i. list_records t (records_of rest) i i in
            ap (λ (b : List ℕ). list_records t (records_of b) (at + 0) at) (append_assoc bs cs rest)
            ∙ x.outside (cs ++ rest) at
            ∙ ap (λ (i : ℕ). first ++ list_records t (records_of (cs ++ rest)) i (at + length u)) m
            ∙ ap (λ (xs : List Token). first ++ xs) (y.outside rest (at + length u))
            ∙ sym (append_assoc first second (next (at + length u + length w)))
            ∙ ap₂ (λ (xs : List Token) (i : ℕ). xs ++ next i) (sym (filter-append has_size (p at) (q (at + length u)))) n;
      }

  walked-below : (k : ℕ) {e : Exp} {v : Val} → Reads e v → Walked t (encode_below t k v) (width (kind_of v)) (flat v) (placed_below t k v)
  walked-below k reads_void = walked_none []
  walked-below k (reads_byte {c = c} h) = walked_none (c ∷ [])
  walked-below k (reads_left {v = v} p) = walked-part (a_at t k) v (walked-below (a_at t k) p)
  walked-below k (reads_right {v = v} p) = walked-part (b_at t k) v (walked-below (b_at t k) p)
  walked-below k (reads_pair {v = v} {w = w} p q) =
      walked_both (walked-part (a_at t k) v (walked-below (a_at t k) p)) (walked-part (b_at t k) w (walked-below (b_at t k) q))
  walked-below k reads_none = walked_none []
  walked-below k (reads_more {v = v} {w = w} p n q) =
      let items : Walked t (encode_below t k w) 0 (flat w) (placed_below t k w) = rw (star-kind q) at (walked-below k q) in
      walked_both (walked-part (a_at t k) v (walked-below (a_at t k) p)) items

  -- the tokens of a fitting reading
  pub listed-fits : {k : ℕ} {bs : List ℕ} (f : Fits t k bs) → list_reading t bs ≡ tokens_from t k f.value 0
  listed-fits {k} f =
      ap (list_reading t) (f.encoded ∙ sym (append-nil (encode t k f.value)))
      ∙ (walked-part k f.value (walked-below k f.reads)).outside [] 0
      ∙ append-nil (tokens_from t k f.value 0)

  -- the numbers of a reading's records
  module _ (passes : Passes t) where
    numbered-part :
        (k : ℕ) → k < count t → (v : Val) (rest : List ℕ) → (Node t k (exp_of t k) → Numbered t (records_of (encode_below t k v ++ rest)))
        → Numbered t (records_of (encode t k v ++ rest))
    numbered-part k l v rest f = numbered_more l (f (node t passes k l))

    numbered_below :
        (k : ℕ) → k < count t → {e : Exp} {v : Val} → Reads e v → (rest : List ℕ) → Numbered t (records_of rest) → Node t k e
        → Numbered t (records_of (encode_below t k v ++ rest))
    numbered_below k l reads_void rest h b = h
    numbered_below k l (reads_byte g) rest h b = h
    numbered_below k l (reads_left {v = v} p) rest h (node_or x y e f) =
        numbered-part (a_at t k) (omega arith) v rest (λ z. numbered_below (a_at t k) (omega arith) p rest h (subst (Node t (a_at t k)) e z))
    numbered_below k l (reads_right {v = v} p) rest h (node_or x y e f) =
        numbered-part (b_at t k) (omega arith) v rest (λ z. numbered_below (b_at t k) (omega arith) p rest h (subst (Node t (b_at t k)) f z))
    numbered_below k l (reads_pair {v = v} {w = w} p q) rest h (node_seq x y e f) =
        subst (λ (bs : List ℕ). Numbered t (records_of bs)) (sym (append_assoc (encode t (a_at t k) v) (encode t (b_at t k) w) rest))
        (numbered-part (a_at t k) (omega arith) v (encode t (b_at t k) w ++ rest)
        (λ z. numbered_below (a_at t k) (omega arith) p (encode t (b_at t k) w ++ rest)
        (numbered-part (b_at t k) (omega arith) w rest (λ z. numbered_below (b_at t k) (omega arith) q rest h (subst (Node t (b_at t k)) f z))) (subst (Node t (a_at t k)) e z)))
    numbered_below k l reads_none rest h b = h
    numbered_below k l (reads_more {v = v} {w = w} p n q) rest h (node_star x e) =
        subst (λ (bs : List ℕ). Numbered t (records_of bs)) (sym (append_assoc (encode t (a_at t k) v) (encode_below t k w) rest))
        (numbered-part (a_at t k) (omega arith) v (encode_below t k w ++ rest)
        (λ z. numbered_below (a_at t k) (omega arith) p (encode_below t k w ++ rest) (numbered_below k l q rest h (node_star x e)) (subst (Node t (a_at t k)) e z)))

    pub numbered-fits : {k : ℕ} {bs : List ℕ} → k < count t → Fits t k bs → Numbered t (records_of bs)
    numbered-fits {k} l f =
        rw (f.encoded ∙ sym (append-nil (encode t k f.value)))
        (numbered-part k l f.value [] (numbered_below k l f.reads [] numbered_none))
