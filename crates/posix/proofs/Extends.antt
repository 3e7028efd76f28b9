-- The decision extends is true exactly on the lines that can still become lines of the expression (document 02, request 7).
-- Assumes nothing.
use Prim.Native.Nat.{ℕ, ◌≤◌, ◌<◌}
use native.Mathlib.Nat.{le_refl}
use native.Mathlib.Omega.{arith}
use mathlib.Core.Path.{◌≡◌, refl, sym, ap, ◌∙◌}
use mathlib.Core.Bool.{Bool, true, false, ◌&&◌, ◌||◌, true≢false}
use mathlib.Core.List.{List, [], ◌∷◌, ◌++◌, append_assoc, append-nil}
use mathlib.Core.Logic.{◌⊎◌, inl, inr, ⊎_elim, ⊎_map, ◌↔◌}
use borrow.Author.Tests.{lt-ltb, ltb-true, le-leb, leb-true}
use lib.Dec.{leb, ltb}
use Rattle.posix.specs.Expressions.{ByteSet, within, outside, allows, holds, Exp, nothing, empty, letter, or, seq, star}
use Rattle.posix.specs.Language.{Bytes, Parts, Iterated, no_more, one_more, L}
use Rattle.posix.specs.Spells.{some_cut, spells}
use Rattle.posix.specs.Extends.{Extends, holds_some, extends}
use Rattle.posix.proofs.Lists.{cons-not-nil, start-nil}
use Rattle.posix.proofs.Languages.{parts-map}
use Rattle.posix.proofs.Spells.{either, each, or-second, some_cut-sound, some_cut-complete, spells-sound, spells-complete}
use Rattle.posix.proofs.Bytes.{bytes-tail, spelled-bytes, holds-byte, outside-holds}

-- where holds_some is true the letter holds a byte
pub holds_some-sound : (b : ByteSet) → holds_some b ≡ true → (c : ℕ) × (holds b c ≡ true)
holds_some-sound (within lo hi) h =
    let p = each (leb lo hi) (ltb lo 256) h in
    (lo, rw (p.1, le-leb lo lo (le_refl lo), p.0))
holds_some-sound (outside lo hi) h = go (either (ltb 0 lo) (ltb hi 255) h)
  where
    go : (ltb 0 lo ≡ true) ⊎ (ltb hi 255 ≡ true) → (c : ℕ) × (holds (outside lo hi) c ≡ true)
    go (inl l) = (0, (outside-holds lo hi 0).1 (omega arith, inl (ltb-true 0 lo l)))
    go (inr l) = (255, (outside-holds lo hi 255).1 (omega arith, inr (ltb-true hi 255 l)))

-- where the letter holds a byte holds_some is true
pub holds_some-complete : (b : ByteSet) (c : ℕ) → holds b c ≡ true → holds_some b ≡ true
holds_some-complete (within lo hi) c h =
    let small : c < 256 = holds-byte (within lo hi) c h in
    let p = each (leb lo c) (leb c hi) (each (ltb c 256) (allows (within lo hi) c) h).1 in
    let low : lo ≤ c = leb-true lo c p.0 in
    let high : c ≤ hi = leb-true c hi p.1 in
    rw (le-leb lo hi (omega arith), lt-ltb lo 256 (omega arith))
holds_some-complete (outside lo hi) c h = go ((outside-holds lo hi c).0 h)
  where
    go : (c < 256) × ((c < lo) ⊎ (hi < c)) → (ltb 0 lo || ltb hi 255) ≡ true
    go (small, inl l) = rw (lt-ltb 0 lo (omega arith))
    go (small, inr l) = or-second (ltb 0 lo) (lt-ltb hi 255 (omega arith))

-- what the decision of a Seq asks
pub seq-extends-sound :
    (r1 r2 : Exp) (s : List ℕ) → extends (seq r1 r2) s ≡ true
    → ((extends r1 s ≡ true) × (extends r2 [] ≡ true)) ⊎ Parts (λ u. spells r1 u ≡ true) (λ u. extends r2 u ≡ true) s
seq-extends-sound r1 r2 s h =
    ⊎_map (each (extends r1 s) (extends r2 [])) (some_cut-sound (spells r1) (extends r2) s)
    (either (extends r1 s && extends r2 []) (some_cut (spells r1) (extends r2) s) h)

-- a Seq extends what its first part extends, where its second spells some line
pub seq-extends-first :
    (r1 r2 : Exp) (s : List ℕ) → extends r1 s ≡ true → extends r2 [] ≡ true → extends (seq r1 r2) s ≡ true
seq-extends-first r1 r2 s a b = rw (a, b)

-- a Seq extends a line that its first part spells, then one that its second extends
pub seq-extends-cut :
    (r1 r2 : Exp) (s : List ℕ) → Parts (λ u. spells r1 u ≡ true) (λ u. extends r2 u ≡ true) s
    → extends (seq r1 r2) s ≡ true
seq-extends-cut r1 r2 s p = or-second (extends r1 s && extends r2 []) (some_cut-complete (spells r1) (extends r2) s p)

-- what the decision of a Star asks
pub star-extends-sound :
    (r : Exp) (s : List ℕ) → extends (star r) s ≡ true
    → (s ≡ []) ⊎ Parts (λ u. spells (star r) u ≡ true) (λ u. extends r u ≡ true) s
star-extends-sound r [] h = inl refl
star-extends-sound r (c ∷ s) h = inr (some_cut-sound (spells (star r)) (extends r) (c ∷ s) h)

-- a Star extends some iterations, then a line that one more extends
pub star-extends-cut :
    (r : Exp) (s : List ℕ) → Parts (λ u. spells (star r) u ≡ true) (λ u. extends r u ≡ true) s
    → extends (star r) s ≡ true
star-extends-cut r [] p = refl
star-extends-cut r (c ∷ s) p = some_cut-complete (spells (star r)) (extends r) (c ∷ s) p

-- a Star extends the empty line
pub star-extends-nil : (r : Exp) → extends (star r) [] ≡ true
star-extends-nil r = refl

-- a list of bytes has a rest of bytes
bytes_rest : (s t : List ℕ) → Bytes (s ++ t) → Bytes t
bytes_rest [] t b = b
bytes_rest (c ∷ s) t b = bytes_rest s t (bytes-tail c (s ++ t) b)

-- the bytes behind a start of a line of L
extended : (r : Exp) (s t : List ℕ) → L r (s ++ t) → Extends r s
extended r s t l = record { more = t; bytes = bytes_rest s t (spelled-bytes r (s ++ t) l); spelled = l }

-- a line that is spelled extends, with no byte more
pub spelled-extends : (r : Exp) (s : List ℕ) → L r s → Extends r s
spelled-extends r s l = extended r s [] (rw append-nil l)

-- one iteration more at the end
iterated-last : {A : List ℕ → Type 0} {s : List ℕ} (t : List ℕ) → Iterated A s → A t → Iterated A (s ++ t)
iterated-last t (no_more e) a = one_more t [] (ap (λ (v : List ℕ). v ++ t) e ∙ sym (append-nil t)) a (no_more refl)
iterated-last t (one_more s1 s2 e b i) a =
    one_more s1 (s2 ++ t) (ap (λ (v : List ℕ). v ++ t) e ∙ append_assoc s1 s2 t) b (iterated-last t i a)

-- Seq, cut behind the line
seq-behind : (r1 r2 : Exp) (s : List ℕ) → Extends r1 s → Extends r2 [] → Extends (seq r1 r2) s
seq-behind r1 r2 s x y =
    extended (seq r1 r2) s (x.more ++ y.more)
    (record { s1 = s ++ x.more; s2 = y.more; joined = sym (append_assoc s x.more y.more); first = x.spelled; second = y.spelled })

-- Seq, cut inside the line
seq-inside : (r1 r2 : Exp) (s : List ℕ) → Parts (L r1) (Extends r2) s → Extends (seq r1 r2) s
seq-inside r1 r2 s p =
    let y : Extends r2 p.s2 = p.second in
    extended (seq r1 r2) s y.more
    (record {
      s1 = p.s1;
      s2 = p.s2 ++ y.more;
      joined = rw p.joined (append_assoc p.s1 p.s2 y.more);
      first = p.first;
      second = y.spelled;
    })

-- Star, cut before an iteration that extends the rest
star-inside : (r : Exp) (s : List ℕ) → Parts (L (star r)) (Extends r) s → Extends (star r) s
star-inside r s p =
    let y : Extends r p.s2 = p.second in
    let e : s ++ y.more ≡ p.s1 ++ (p.s2 ++ y.more) = rw p.joined (append_assoc p.s1 p.s2 y.more) in
    extended (star r) s y.more (rw e (iterated-last (p.s2 ++ y.more) p.first y.spelled))

-- Or, by either side
or-extends : (r1 r2 : Exp) (s : List ℕ) → Extends r1 s ⊎ Extends r2 s → Extends (or r1 r2) s
or-extends r1 r2 s (inl x) = record { more = x.more; bytes = x.bytes; spelled = inl x.spelled }
or-extends r1 r2 s (inr x) = record { more = x.more; bytes = x.bytes; spelled = inr x.spelled }

-- where the decision is true some bytes make the line one of L
pub extends-sound : (r : Exp) (s : List ℕ) → extends r s ≡ true → Extends r s
extends-sound nothing s h = absurd (true≢false (sym h))
extends-sound empty [] h = spelled-extends empty [] refl
extends-sound empty (c ∷ s) h = absurd (true≢false (sym h))
extends-sound (letter b) [] h =
    let p = holds_some-sound b h in
    extended (letter b) [] (p.0 ∷ []) (p.0, p.1, refl)
extends-sound (letter b) (c ∷ []) h = spelled-extends (letter b) (c ∷ []) (c, h, refl)
extends-sound (letter b) (c ∷ (d ∷ s)) h = absurd (true≢false (sym h))
extends-sound (or r1 r2) s h =
    or-extends r1 r2 s (⊎_map (extends-sound r1 s) (extends-sound r2 s) (either (extends r1 s) (extends r2 s) h))
extends-sound (seq r1 r2) s h =
    ⊎_elim
    (λ p. seq-behind r1 r2 s (extends-sound r1 s p.0) (extends-sound r2 [] p.1))
    (λ p. seq-inside r1 r2 s (parts-map (spells-sound r1) (extends-sound r2) p))
    (seq-extends-sound r1 r2 s h)
extends-sound (star r) s h =
    ⊎_elim
    (λ (n : s ≡ []). spelled-extends (star r) s (no_more n))
    (λ p. star-inside r s (parts-map (spells-sound (star r)) (extends-sound r) p))
    (star-extends-sound r s h)

-- a cut t1, t2 of the line s ++ u lies behind s or inside it
data Cut (s u t1 t2 : List ℕ) : Type 0 where
  behind : (v : List ℕ) → t1 ≡ s ++ v → u ≡ v ++ t2 → Cut s u t1 t2
  inside : (v : List ℕ) → s ≡ t1 ++ v → t2 ≡ v ++ u → Cut s u t1 t2

cut-cases : (s u t1 t2 : List ℕ) → s ++ u ≡ t1 ++ t2 → Cut s u t1 t2
cut-cases [] u t1 t2 e = behind t1 refl e
cut-cases (c ∷ s) u [] t2 e = inside (c ∷ s) refl (sym e)
cut-cases (c ∷ s) u (d ∷ t1) t2 e = below (cc) (cut-cases s u t1 t2 (cc))
  where
    below : d ≡ c → Cut s u t1 t2 → Cut (c ∷ s) u (d ∷ t1) t2
    below h (behind v p q) = behind v (cc) q
    below h (inside v p q) = inside v (cc) q

-- a start of a row of iterations is empty, or whole iterations and then a start of one
star-start :
    (r : Exp) → ((t v : List ℕ) → L r (t ++ v) → extends r t ≡ true)
    → (s u w : List ℕ)
    → s ++ u ≡ w
    → Iterated (L r) w
    → (s ≡ []) ⊎ Parts (λ t. spells (star r) t ≡ true) (λ t. extends r t ≡ true) s
star-start r f s u w h (no_more e) = inl (start-nil s u (sym (h ∙ e)))
star-start r f s u w h (one_more t1 t2 e a i) =
    go (cut-cases s u t1 t2 (h ∙ e)) (λ v q. star-start r f v u t2 q i)
  where
    Starts : List ℕ → Type 0
    Starts v = (v ≡ []) ⊎ Parts (λ t. spells (star r) t ≡ true) (λ t. extends r t ≡ true) v

    next : (v : List ℕ) → s ≡ t1 ++ v → Starts v → Starts s
    next v p (inl n) =
        inr (record { s1 = []; s2 = s; joined = refl; first = refl; second = rw (p, n, append-nil) (f t1 [] (rw append-nil a)) })
    next v p (inr c) =
        inr
        (record {
          s1 = t1 ++ c.s1;
          s2 = c.s2;
          joined = p ∙ ap (λ (t : List ℕ). t1 ++ t) c.joined ∙ sym (append_assoc t1 c.s1 c.s2);
          first = spells-complete (star r) (t1 ++ c.s1) (one_more t1 c.s1 refl a (spells-sound (star r) c.s1 c.first));
          second = c.second;
        })

    go : Cut s u t1 t2 → ((v : List ℕ) → v ++ u ≡ t2 → Starts v) → Starts s
    go (behind v p q) k = inr (record { s1 = []; s2 = s; joined = refl; first = refl; second = f s v (rw p at a) })
    go (inside v p q) k = next v p (k v (sym q))

-- on a start of a line of L the decision is true
start-extends : (r : Exp) (s u : List ℕ) → L r (s ++ u) → extends r s ≡ true
start-extends nothing s u l = absurd l
start-extends empty s u l = rw (start-nil s u (sym l))
start-extends (letter b) [] u l = holds_some-complete b l.0 l.1
start-extends (letter b) (c ∷ []) u l = let e : c ≡ l.0 = cc in rw e l.1
start-extends (letter b) (c ∷ (d ∷ s)) u l = absurd (cons-not-nil {c = d} {s = s ++ u} (cc))
start-extends (or r1 r2) s u (inl l) = rw (start-extends r1 s u l)
start-extends (or r1 r2) s u (inr l) = or-second (extends r1 s) (start-extends r2 s u l)
start-extends (seq r1 r2) s u l =
    go (λ v. start-extends r1 s v) (start-extends r2) (cut-cases s u l.s1 l.s2 l.joined)
  where
    go :
        ((v : List ℕ) → L r1 (s ++ v) → extends r1 s ≡ true)
        → ((t v : List ℕ) → L r2 (t ++ v) → extends r2 t ≡ true)
        → Cut s u l.s1 l.s2
        → extends (seq r1 r2) s ≡ true
    go f g (behind v p q) = seq-extends-first r1 r2 s (f v (rw p at l.first)) (g [] l.s2 l.second)
    go f g (inside v p q) =
        seq-extends-cut r1 r2 s
        (record { s1 = l.s1; s2 = v; joined = p; first = spells-complete r1 l.s1 l.first; second = g v u (rw q at l.second) })
start-extends (star r) s u l =
    ⊎_elim
    (λ (n : s ≡ []). rw n (star-extends-nil r))
    (star-extends-cut r s)
    (star-start r (start-extends r) s u (s ++ u) refl l)

-- where some bytes make the line one of L the decision is true
pub extends-complete : (r : Exp) (s : List ℕ) → Extends r s → extends r s ≡ true
extends-complete r s x = start-extends r s x.more x.spelled

-- a line that the decision spells extends
pub spells-extends : (r : Exp) (s : List ℕ) → spells r s ≡ true → extends r s ≡ true
spells-extends r s h = extends-complete r s (spelled-extends r s (spells-sound r s h))

-- what can be completed could be before its last bytes, too
pub extends-start : (r : Exp) (s t : List ℕ) → Extends r (s ++ t) → Extends r s
extends-start r s t x = extended r s (t ++ x.more) (rw (append_assoc s t x.more) at x.spelled)

-- 'spells some line at all' is the decision on the empty line
pub some-line : (r : Exp) → (extends r [] ≡ true) ↔ ((s : List ℕ) × L r s)
some-line r = (
  λ h. let x = extends-sound r [] h in (x.more, x.spelled),
  λ p. start-extends r [] p.0 p.1,
)

-- a Seq spells some line exactly where both parts do
pub seq-some : (r1 r2 : Exp) → extends (seq r1 r2) [] ≡ (extends r1 [] && extends r2 [])
seq-some r1 r2 = absorbed (extends r1 []) (extends r2 []) (spells r1 []) (spells-extends r1 [])
  where
    absorbed : (a b c : Bool) → (c ≡ true → a ≡ true) → ((a && b) || (c && b)) ≡ (a && b)
    absorbed true true c f = refl
    absorbed true false true f = refl
    absorbed true false false f = refl
    absorbed false b true f = absurd (true≢false (sym (f refl)))
    absorbed false b false f = refl
