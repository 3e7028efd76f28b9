-- The records of the parts held so far, one part behind the other: how many there are, and what a record or a tag stored at their end makes of them.
-- Assumes nothing.
use Prim.Native.Nat.{ℕ, ◌+◌, ◌*◌, ◌-◌, ◌%◌, ◌≤◌}
use mathlib.Core.Path.{◌≡◌, refl, sym, ◌∙◌, ap, subst}
use mathlib.Core.Bool.{Bool, true, false, cond}
use mathlib.Core.List.{List, [], ◌∷◌, ◌++◌, append-nil, append_assoc}
use native.Mathlib.Omega.{arith}
use native.Mathlib.Nat.{zero-add, add-zero, add_assoc, mod-eq_of_lt}
use borrow.Author.Tests.{leb-true, leb-false, ne_eqb}
use lib.Dec.{leb, eqb}
use lib.ListN.{length, drop, take, set, length-append, length-set}
use lib.Seq.{sets, sets-eq, length-sets, take_at, drop_at, drop-drop, set_at}
use Rattle.table.specs.Records.{record_bytes}
use Rattle.notation.specs.Trees.{Tree, alt, cat, many, with_tag, tag_of}
use Rattle.notation.specs.Tables.{size, under, records_from}
use Rattle.notation.specs.Decision.{Held, none, some, joined}
use Rattle.notation.specs.Walks.{held, total, layout, mark_of, Laid, LastPart, stored, tag_stored, join_leaves, join_count}
use Rattle.notation.proofs.Records.{two_from, records-length, Rooted, rooted, size-tag}

pub total-append : (ts us : List Tree) → total (ts ++ us) ≡ total ts + total us
total-append [] us = sym (zero-add (total us))
total-append (t ∷ ts) us = omega (arith, total-append ts us)

layout-append : (k : ℕ) (ts us : List Tree) → layout k (ts ++ us) ≡ layout k ts ++ layout (k + total ts) us
layout-append k [] us = rw add-zero
layout-append k (t ∷ ts) us =
    let e : k + size t + total ts ≡ k + (size t + total ts) = add_assoc k (size t) (total ts) in
    rw (layout-append (k + size t) ts us, e, append_assoc)

layout-length : (k : ℕ) (ts : List Tree) → length (layout k ts) ≡ 4 * total ts
layout-length k [] = refl
layout-length k (t ∷ ts) =
    rw (length-append (records_from k t) (layout (k + size t) ts)) (omega (arith, records-length k t, layout-length (k + size t) ts))

-- the records of the parts before the last, then those of the last
layout-last : (ts : List Tree) (t : Tree) → layout 0 (ts ++ (t ∷ [])) ≡ layout 0 ts ++ records_from (total ts) t
layout-last ts t = layout-append 0 ts (t ∷ []) ∙ rw (zero-add, append-nil)

pub total-last : (ts : List Tree) (t : Tree) → total (ts ++ (t ∷ [])) ≡ total ts + size t
total-last ts t = omega (arith, total-append ts (t ∷ []))

-- a buffer with some bytes in front, and more bytes stored behind them
stored-behind :
    (bs vs entry out : List ℕ) (n : ℕ) → length bs ≡ n → n + length vs ≤ length out → out ≡ bs ++ drop n entry
    → sets out n vs ≡ (bs ++ vs) ++ drop (n + length vs) entry
stored-behind bs vs entry out n e h f =
    let a : take n out ≡ bs = rw f (take_at bs (drop n entry) n e) in
    let b : drop n out ≡ drop n entry = rw f (drop_at bs (drop n entry) n e) in
    let c : drop (n + length vs) out ≡ drop (n + length vs) entry =
    sym (drop-drop (length vs) n out) ∙ ap (λ (l : List ℕ). drop (length vs) l) b ∙ drop-drop (length vs) n entry in
    sets-eq vs out n h ∙ rw (a, c)

-- one record more
pub laid-stored :
    (ts us : List Tree) (entry out : List ℕ) (kind a b : ℕ) → Laid ts entry out → total us ≡ total ts + 1
    → (total us ≤ 255 → layout 0 us ≡ layout 0 ts ++ record_bytes kind a b 0)
    → Laid us entry (stored out (total ts) (record_bytes kind a b 0))
laid-stored ts us entry out kind a b l n e = go (leb (4 * total ts + 4) (length out)) refl
  where
    go : (x : Bool) → leb (4 * total ts + 4) (length out) ≡ x
        → Laid us entry (cond x (sets out (4 * total ts) (record_bytes kind a b 0)) out)
    go true f =
        record {
          long = length-sets out (4 * total ts) (record_bytes kind a b 0) ∙ l.long;
          front = λ room few.
              let h : 4 * total ts + 4 ≤ length out = leb-true (4 * total ts + 4) (length out) f in
              let m : 4 * total us ≡ 4 * total ts + 4 = omega arith in
              rw (e few, m)
              (stored-behind (layout 0 ts) (record_bytes kind a b 0) entry out (4 * total ts) (layout-length 0 ts) h
              (l.front (omega arith) (omega arith)));
        }
    go false f =
        record {
          long = l.long;
          front = λ room few. absurd (omega (arith, leb-false (4 * total ts + 4) (length out) f, l.long));
        }

-- a tag for the last part's root
tag-set :
    (ts : List Tree) (t : Tree) (entry out : List ℕ) (n k : ℕ) → k + 1 ≡ total (ts ++ (t ∷ []))
    → out ≡ layout 0 (ts ++ (t ∷ [])) ++ drop (4 * (k + 1)) entry
    → set out (4 * k + 3) n ≡ layout 0 (ts ++ (with_tag t n ∷ [])) ++ drop (4 * (k + 1)) entry
tag-set ts t entry out n k c f =
    let r : Rooted (total ts) t = rooted (total ts) t in
    let front : List ℕ = layout 0 ts ++ (r.init ++ (r.kind ∷ r.a ∷ r.b ∷ [])) in
    let rest : List ℕ = drop (4 * (k + 1)) entry in
    let split : (x : ℕ) (u : Tree) → records_from (total ts) u ≡ r.init ++ record_bytes r.kind r.a r.b x
    → layout 0 (ts ++ (u ∷ [])) ++ rest ≡ front ++ x ∷ rest =
    λ x u e. rw (layout-last ts u, e) (simp append_assoc) in
    let m : length front ≡ 4 * k + 3 =
    simp (length-append, layout-length) (omega (arith, r.init_length, total-last ts t)) in
    let g : out ≡ front ++ tag_of t ∷ rest = f ∙ split (tag_of t) t r.root in
    rw g (set_at front (tag_of t) rest n (4 * k + 3) m) ∙ sym (split n (with_tag t n) (r.tagged n))

pub laid-tagged :
    (ts : List Tree) (t : Tree) (entry out : List ℕ) (n k : ℕ) → k + 1 ≡ total (ts ++ (t ∷ [])) → Laid (ts ++ (t ∷ [])) entry out
    → Laid (ts ++ (with_tag t n ∷ [])) entry (tag_stored out k n)
laid-tagged ts t entry out n k c l = go (leb (4 * k + 4) (length out)) refl
  where
    same : total (ts ++ (with_tag t n ∷ [])) ≡ k + 1
    same = total-last ts (with_tag t n) ∙ ap (λ (m : ℕ). total ts + m) (size-tag t n) ∙ sym (total-last ts t) ∙ sym c

    go : (x : Bool) → leb (4 * k + 4) (length out) ≡ x → Laid (ts ++ (with_tag t n ∷ [])) entry (cond x (set out (4 * k + 3) n) out)
    go true f =
        record {
          long = length-set out (4 * k + 3) n ∙ l.long;
          front = λ room few.
              let g : out ≡ layout 0 (ts ++ (t ∷ [])) ++ drop (4 * (k + 1)) entry =
              rw c (l.front (omega (arith, same)) (omega (arith, same))) in
              rw same (tag-set ts t entry out n k c g);
        }
    go false f =
        record {
          long = l.long;
          front = λ room few. absurd (omega (arith, same, leb-false (4 * k + 4) (length out) f, l.long));
        }

-- a constructor that joins two parts by a record of a kind
pub record Joins (kind : ℕ) (f : Tree → Tree → ℕ → Tree) : Type 0 where
  pub joined_size : (t u : Tree) → size (f t u 0) ≡ size t + size u + 1
  pub joined_records : (k : ℕ) (t u : Tree) → records_from k (f t u 0) ≡ two_from kind k t u 0

pub cat-joins : Joins 4 cat
cat-joins = record { joined_size = λ t u. omega arith; joined_records = λ k t u. refl }

pub alt-joins : Joins 3 alt
alt-joins = record { joined_size = λ t u. omega arith; joined_records = λ k t u. refl }

-- the last part joined to the one before it, if there is one
module _ {kind : ℕ} {f : Tree → Tree → ℕ → Tree} (j : Joins kind f) (ts : List Tree) (u : Tree) (entry out : List ℕ) (mark count : ℕ) where
  both-joined :
      (t : Tree) → Laid (ts ++ (t ∷ []) ++ (u ∷ [])) entry out → mark ≡ total ts + size t → count ≡ total ts + size t + size u
      → Laid (ts ++ (f t u 0 ∷ [])) entry (stored out count (record_bytes kind ((mark - 1) % 256) ((count - 1) % 256) 0))
  both-joined t l m c =
      let all : List Tree = ts ++ (t ∷ []) ++ (u ∷ []) in
      let before : total all ≡ count = omega (arith, total-last (ts ++ (t ∷ [])) u, total-last ts t) in
      let after : total (ts ++ (f t u 0 ∷ [])) ≡ total all + 1 = omega (arith, total-last ts (f t u 0), j.joined_size t u) in
      let bytes : List ℕ = record_bytes kind ((mark - 1) % 256) ((count - 1) % 256) 0 in
      subst (λ (x : ℕ). Laid (ts ++ (f t u 0 ∷ [])) entry (stored out x bytes)) before
      (laid-stored all (ts ++ (f t u 0 ∷ [])) entry out kind ((mark - 1) % 256) ((count - 1) % 256) l after
      (λ few.
      let a : (mark - 1) % 256 ≡ total ts + under t = mod-eq_of_lt (omega arith) ∙ omega arith in
      let b : (count - 1) % 256 ≡ total ts + size t + under u = mod-eq_of_lt (omega arith) ∙ omega arith in
      layout-last ts (f t u 0)
      ∙ rw (a, b, j.joined_records (total ts) t u, layout-last (ts ++ (t ∷ [])) u, layout-last ts t, total-last ts t) (simp append_assoc)))

  pub joins :
      (h : Held) → Laid (ts ++ held h ++ (u ∷ [])) entry out → mark ≡ mark_of (total ts) h → count ≡ total (ts ++ held h ++ (u ∷ []))
      → LastPart ts (joined f h (some u)) (join_count mark count) entry (join_leaves kind mark count out)
  joins none l m c =
      rw m (record { mark_right = c ∙ rw append-nil (total-last ts u); laid = rw append-nil at l })
  joins (some t) l m c =
      let n : count ≡ total ts + size t + size u = omega (arith, total-last (ts ++ (t ∷ [])) u, total-last ts t) in
      let g : eqb mark 0 ≡ false = ne_eqb mark 0 (omega arith) in
      rw g (record { mark_right = omega (arith, j.joined_size t u); laid = both-joined t l m n })

-- a part that is joined to another is there
pub joined-some : (f : Tree → Tree → ℕ → Tree) (h : Held) (u : Tree) → (x : Tree) × (joined f h (some u) ≡ some x)
joined-some f none u = (u, refl)
joined-some f (some t) u = (f t u 0, refl)

pub mark-total : (ts : List Tree) (x : Tree) → mark_of (total ts) (some x) ≡ total (ts ++ (x ∷ []))
mark-total ts x = sym (total-last ts x)

-- a leaf, an Empty or a Range, as a further part
pub leaf-laid :
    (ts : List Tree) (x : Tree) (entry out : List ℕ) (kind a b : ℕ) → size x ≡ 1
    → ((k : ℕ) → records_from k x ≡ record_bytes kind a b 0)
    → Laid ts entry out
    → Laid (ts ++ (x ∷ [])) entry (stored out (total ts) (record_bytes kind a b 0))
leaf-laid ts x entry out kind a b n e l =
    laid-stored ts (ts ++ (x ∷ [])) entry out kind a b l (omega (arith, total-last ts x)) (λ few. layout-last ts x ∙ rw (e (total ts)))

-- the last part in a Star
pub star-laid :
    (ts : List Tree) (t : Tree) (entry out : List ℕ) (count : ℕ) → count ≡ total (ts ++ (t ∷ [])) → Laid (ts ++ (t ∷ [])) entry out
    → Laid (ts ++ (many t 0 ∷ [])) entry (stored out count (record_bytes 5 ((count - 1) % 256) 0 0))
star-laid ts t entry out count c l =
    let after : total (ts ++ (many t 0 ∷ [])) ≡ total (ts ++ (t ∷ [])) + 1 = omega (arith, total-last ts (many t 0), total-last ts t) in
    let bytes : List ℕ = record_bytes 5 ((count - 1) % 256) 0 0 in
    subst (λ (x : ℕ). Laid (ts ++ (many t 0 ∷ [])) entry (stored out x bytes)) (sym c)
    (laid-stored (ts ++ (t ∷ [])) (ts ++ (many t 0 ∷ [])) entry out 5 ((count - 1) % 256) 0 l after
    (λ few.
    let a : (count - 1) % 256 ≡ total ts + under t = mod-eq_of_lt (omega (arith, total-last ts t)) ∙ omega (arith, total-last ts t) in
    layout-last ts (many t 0) ∙ rw (a, layout-last ts t) (simp append_assoc)))
