-- One law for each kind of record: the row as the code leaves it tells the truth of the record.
-- Assumes nothing.
use Prim.Native.Nat.{ℕ, suc, ◌+◌, ◌-◌, ◌≤◌, ◌<◌}
use native.Mathlib.Nat.{sub-zero}
use native.Mathlib.Omega.{arith}
use mathlib.Core.Path.{◌≡◌, refl, sym, ap, ◌∙◌}
use mathlib.Core.Logic.{◌⊎◌, inl, inr}
use mathlib.Core.Bool.{Bool, true, false, true≢false, ◌&&◌, ◌||◌}
use mathlib.Core.List.{List, [], ◌∷◌}
use lib.Dec.{leb, eqb}
use lib.ListN.{length, get_or, take, drop}
use lib.Seq.{length-take-le}
use denote.Enum.Bare.{sameb, same_true}
use Rattle.std.proofs.Common.{rules}
use borrow.Author.Tests.{ne_eqb, lt-leb}
use Rattle.posix.specs.Expressions.{Exp, empty, seq, star}
use Rattle.posix.specs.Spells.{spells}
use Rattle.table.specs.Records.{count, kind_at, a_at, b_at, is_letter}
use Rattle.table.specs.Faults.{Passes}
use Rattle.table.specs.Expression.{exp_of}
use Rattle.table.specs.Kinds.{number_of}
use Rattle.table.specs.contracts.Kind.{the_type}
use Rattle.table.specs.declared.Kind.{Kind}
use Rattle.table.specs.declared.Kind.TheVariants.{Star}
use Rattle.table.specs.Letters.{LetterKind}
use Rattle.table.proofs.Laws.{exp-nothing, exp-empty, exp-or, exp-seq, exp-star}
use Rattle.table.proofs.Passing.{a-below, b-below, star-a-below, kinds, kind-small, letter_at}
use Rattle.rows.specs.Layout.{is_set, longest_at, lowest_at, in_row, has, tells}
use Rattle.rows.specs.Cuts.{some, cut_at}
use Rattle.rows.specs.Rows.{Shaped, Growing, Grown, Earlier, Cutting, behind, second, cuts_joined}
use Rattle.rows.proofs.Places.{first_head, head-inside, size-grows}
use Rattle.rows.proofs.Bytes.{set-byte, clear-byte}
use Rattle.rows.proofs.Cuts.{below_or, some_same, cut-same}
use Rattle.area.specs.Filling.{truth, Known, Ready, Made, Base}
use Rattle.rows.proofs.Recurrences.{starts, rests, seq-cuts-apart, seq-of-star-cuts, star-cuts, star-chained, star-twice, star-same, seq-same}
use Rattle.rows.proofs.Growing.{lowest-one, grown-same}
use Rattle.rows.proofs.Joining.{grown-twice}
use Rattle.area.proofs.Parts.{part-whole}
use Rattle.area.proofs.Known.{inside, empty-told, lower-earlier, behind-told, lower-shape, behind-shape, behind-whole, cuts-told, known_kept}

-- a row whose longest length is 0 tells nothing, and one whose longest length is 1 tells 1
pub has-none : (m : ℕ) (w : List ℕ) (k d e : ℕ) → longest_at w m d k ≡ 0 → 1 ≤ e → has m w k d e ≡ false
unfolding has in_row
has-none m w k d e h l = rw (h, lt-leb e 0 l)

pub has_one : (m : ℕ) (w : List ℕ) (k d e : ℕ) → longest_at w m d k ≡ 1 → 1 ≤ e → has m w k d e ≡ eqb e 1
unfolding has in_row lowest_at is_set
has_one m w k d e h l = rw h (go (below_or 1 e))
  where
    go : (1 < e) ⊎ (e ≤ 1) → (leb e 1 && leb 1 e) ≡ eqb e 1
    go (inl x) = rw (lt-leb e 1 x, ne_eqb e 1 (λ (z : e ≡ 1). omega arith))
    go (inr x) = let z : e ≡ 1 = omega arith in rw z

pub one_set : is_set 1 ≡ true
unfolding is_set
one_set = refl

pub short-shape : (m d k : ℕ) (w : List ℕ) → 1 ≤ d → longest_at w m d k ≤ 1 → Shaped m d k w
short-shape m d k w one h =
    let l : lowest_at w m d k ≡ 1 = lowest-one w m d k h in
    record {
      small = omega arith;
      ordered = λ i. omega arith;
      clean = λ z e x y. absurd (true≢false (sym one_set ∙ ap is_set (sym l) ∙ z));
    }

empty-spells : (u : List ℕ) → 1 ≤ length u → spells empty u ≡ false
empty-spells [] l = absurd (omega arith)
empty-spells (c ∷ u) l = refl

-- the record that a Star iterates, and a Star below it
pub base-first : (t : List ℕ) → Passes t → (k : ℕ) → k < count t → kind_at t k ≡ 5 → (j : ℕ) → j ≡ a_at t k → Base t k j
base-first t passes k l kind j ej =
    let h : a_at t k < k = star-a-below t passes k l kind in
    record { lower = omega arith; same = λ u. rw (exp-star t k kind h, ej) refl }

pub base-next : (t : List ℕ) → Passes t → (k j : ℕ) → k < count t → Base t k j → kind_at t j ≡ 5 → (i : ℕ) → i ≡ a_at t j → Base t k i
base-next t passes k j l base kind i ei =
    let inner = base-first t passes j (omega (arith, base.lower)) kind i ei in
    record {
      lower = omega (arith, base.lower, inner.lower);
      same = λ u.
          base.same u
          ∙ star-same (exp_of t j) (star (exp_of t i)) inner.same u
          ∙ star-twice (exp_of t i) u;
    }

-- the code's test for a Star
pub star-seen : (t : List ℕ) (j : ℕ) (kind : Kind) (test : Bool) → number_of kind ≡ kind_at t j → test ≡ sameb the_type kind Star → test ≡ true
    → kind_at t j ≡ 5
star-seen t j kind test e same z =
    let star : kind ≡ Star = same_true the_type (search rules) _ _ (sym same ∙ z) in
    sym (rw star at e)

module _ (t s : List ℕ) (k : ℕ) (w : List ℕ) (p : Ready t s k w) where
  abbrev m : ℕ
  m = count t

  abbrev d : ℕ
  d = length s

  abbrev q : Known t s k w
  q = p.known

  -- the truth of this row
  whole : (e : ℕ) → truth t s k d e ≡ starts (exp_of t k) s e
  whole e = ap (spells (exp_of t k)) (part-whole s e)

  pub growing : Growing m d k w
  growing =
      record {
        inside = inside t s k w q k p.number;
        some_byte = q.some_byte;
        shape = short-shape m d k w q.some_byte (omega (arith, p.none));
      }

  fresh : (e : ℕ) → 1 ≤ e → has m w k d e ≡ false
  fresh e l = has-none m w k d e p.none l

  -- an empty row is right where no part of at least one byte is spelled
  pub unmade : ((e : ℕ) → 1 ≤ e → e ≤ d → starts (exp_of t k) s e ≡ false) → Made t s k w w
  unmade h =
      record {
        size = refl;
        kept = λ i n. refl;
        shape = growing.shape;
        facts = λ e l x. fresh e l ∙ sym (whole e ∙ h e l x);
      }

  pub nothing-made : kind_at t k ≡ 0 → Made t s k w w
  nothing-made kind = unmade (λ e l x. rw (exp-nothing t k kind))

  pub empty-made : kind_at t k ≡ 1 → Made t s k w w
  empty-made kind = unmade (λ e l x. rw (exp-empty t k kind) (empty-spells (take e s) (omega (arith, length-take-le e s x))))

  -- the children of Or and Seq
  pub a-child : (kind_at t k ≡ 3) ⊎ (kind_at t k ≡ 4) → a_at t k < k
  a-child = a-below t q.sized.passes k p.number

  pub b-child : (kind_at t k ≡ 3) ⊎ (kind_at t k ≡ 4) → b_at t k < k
  b-child = b-below t q.sized.passes k p.number

  -- the child of a Star
  pub star-child : kind_at t k ≡ 5 → a_at t k < k
  star-child = star-a-below t q.sized.passes k p.number

  -- a row to which the row of a lower record was added first
  module _ (j : ℕ) (lower : j < k) (u : List ℕ)
      (g : Grown m d k (λ e. has m w k d e || behind m w j d d e) w u) where
    pub added-known : Known t s k u
    added-known = known_kept t s k w q p.number _ u g

    pub added-growing : Growing m d k u
    added-growing =
        record { inside = inside t s k u added-known k p.number; some_byte = q.some_byte; shape = g.shape }

    pub added-facts : (e : ℕ) → 1 ≤ e → e ≤ d → has m u k d e ≡ starts (exp_of t j) s e
    added-facts e l x =
        g.facts e l x ∙ rw (fresh e l) (behind-whole t s k w q j e lower (omega (arith, p.number)) x)

  pub or-made : kind_at t k ≡ 3 → {a b : ℕ} → a ≡ a_at t k → b ≡ b_at t k → (u v : List ℕ)
      → Grown m d k (λ e. has m w k d e || behind m w a d d e) w u
      → Grown m d k (λ e. has m u k d e || behind m u b d d e) u v
      → Made t s k w v
  or-made kind {a} {b} ea eb u v g h =
      let x : a_at t k < k = a-child (inl kind) in
      let y : b_at t k < k = b-child (inl kind) in
      let a-low : a < k = omega arith in
      let b-low : b < k = omega arith in
      grown-same (grown-twice g h)
      (λ e l i.
      rw (
        added-facts a a-low u g e l i,
        behind-whole t s k u (added-known a a-low u g) b e b-low (omega (arith, p.number)) i,
      )
      (sym (whole e ∙ rw (exp-or t k kind x y, ← ea, ← eb))))

  -- what cutting needs, for a row v that is still to grow
  module _ (v : List ℕ) (known : Known t s k v) (grows : Growing m d k v) (i j : ℕ) (first : i < k) (second-in : j < m) where
    pub cutting-plain : Cutting m d k i j false v
    cutting-plain =
        record {
          growing = grows;
          first_lower = first;
          first_shape = lower-shape t s k v known i first (omega (arith, p.number));
          second_known = second-in;
          second_shape = λ c l h. behind-shape t s k v known j c second-in l h;
          chained = λ z. absurd (true≢false (sym z));
          closed = λ z. absurd (true≢false (sym z));
        }

    chain : (r : Exp) → exp_of t j ≡ star r → (a c e : ℕ) → 1 ≤ a → a ≤ c → c ≤ e → e ≤ d → second m v j d a (c - a) ≡ true
        → second m v j d c (e - c) ≡ true
        → second m v j d a (e - a) ≡ true
    chain r rule a c e one l h x y z =
        behind-told t s k v known j a (e - a) second-in one (omega arith) (omega arith)
        ∙ rw rule
        (star-chained r s a c e l h
        (rw rule at (sym (behind-told t s k v known j a (c - a) second-in one (omega arith) (omega arith)) ∙ y))
        (rw rule at (sym (behind-told t s k v known j c (e - c) second-in (omega arith) (omega arith) (omega arith)) ∙ z)))

    pub cutting-star : (star? : Bool) → (star? ≡ true → kind_at t j ≡ 5)
        → (star? ≡ true → (c e : ℕ) → 1 ≤ c → c ≤ e → e ≤ d → has m v k d c ≡ true → second m v j d c (e - c) ≡ true → has m v k d e ≡ true)
        → Cutting m d k i j star? v
    cutting-star star? kind closed =
        record {
          growing = grows;
          first_lower = first;
          first_shape = lower-shape t s k v known i first (omega (arith, p.number));
          second_known = second-in;
          second_shape = λ c l h. behind-shape t s k v known j c second-in l h;
          chained = λ z.
              chain (exp_of t (a_at t j)) (exp-star t j (kind z) (star-a-below t q.sized.passes j second-in (kind z)));
          closed = closed;
        }

    -- the row after its cuts
    pub cut-facts : (x : List ℕ) → Grown m d k (cuts_joined m v d k i j 1 (d + 1)) v x → (e : ℕ) → 1 ≤ e → e ≤ d
        → has m x k d e ≡ (has m v k d e || some (cut_at (starts (exp_of t i) s) (rests (exp_of t j) s) 1 e) (suc e))
    cut-facts x g e l h =
        g.facts e l h ∙ ap (λ (b : Bool). has m v k d e || b) (cuts-told t s k v known i j e first (omega (arith, p.number)) second-in h)

  -- a Star: the first iteration has at least one byte
  pub star-cutting : kind_at t k ≡ 5 → {a : ℕ} → a ≡ a_at t k → Cutting m d k a k true w
  star-cutting kind ea =
      let l : a_at t k < k = star-child kind in
      cutting-star w q growing _ k (omega arith) p.number true (λ z. kind)
      (λ z c e one x y h i. absurd (true≢false (sym h ∙ fresh c one)))

  pub star-made : kind_at t k ≡ 5 → {a : ℕ} → a ≡ a_at t k → (v : List ℕ) → Grown m d k (cuts_joined m w d k a k 1 (d + 1)) w v → Made t s k w v
  star-made kind {a} ea v g =
      let l : a_at t k < k = star-child kind in
      grown-same (record { size = g.size; kept = g.kept; shape = g.shape; facts = λ e x y. refl })
      (λ e x y.
      cut-facts w q growing a k (omega arith) p.number v g e x y
      ∙ rw (fresh e x)
      (sym (whole e ∙ rw (exp-star t k kind l, ← ea) (star-cuts (exp_of t a) s e x y))))

  -- a Star of a Star has the row of its child
  pub star-of-star-made : kind_at t k ≡ 5 → {a : ℕ} → a ≡ a_at t k → kind_at t a ≡ 5 → (v : List ℕ)
      → Grown m d k (λ e. has m w k d e || behind m w a d d e) w v
      → Made t s k w v
  star-of-star-made kind {a} ea five v g =
      let l : a_at t k < k = star-child kind in
      let a-low : a < k = omega arith in
      let inner : exp_of t a ≡ star (exp_of t (a_at t a)) =
      exp-star t a five (star-a-below t q.sized.passes a (omega (arith, p.number)) five) in
      grown-same (record { size = g.size; kept = g.kept; shape = g.shape; facts = λ e x y. refl })
      (λ e x y.
      added-facts a a-low v g e x y
      ∙ sym (whole e ∙ rw (exp-star t k kind l, ← ea) (rw inner (star-twice (exp_of t (a_at t a)) (take e s)))))

  -- a Seq whose first child does not spell the empty line
  module _ (kind : kind_at t k ≡ 4) {a b : ℕ} (ea : a ≡ a_at t k) (eb : b ≡ b_at t k) where
    a-low : a < k
    a-low = let l : a_at t k < k = a-child (inr kind) in omega arith

    b-low : b < k
    b-low = let l : b_at t k < k = b-child (inr kind) in omega arith

    rule : exp_of t k ≡ seq (exp_of t a) (exp_of t b)
    rule = rw (ea, eb) (exp-seq t k kind (a-child (inr kind)) (b-child (inr kind)))

    seq-truth : (e : ℕ) → e ≤ d
        → truth t s k d e
        ≡ ((spells (exp_of t a) [] && starts (exp_of t b) s e) || some (cut_at (starts (exp_of t a) s) (rests (exp_of t b) s) 1 e) (suc e))
    seq-truth e x = whole e ∙ rw rule (seq-cuts-apart (exp_of t a) (exp_of t b) s e x)

    pub without-cutting : {star? : Bool} → (star? ≡ true → kind_at t b ≡ 5) → Cutting m d k a b star? w
    without-cutting h =
        cutting-star w q growing a b a-low (omega (arith, b-low, p.number)) _ h
        (λ z c e one x y i j. absurd (true≢false (sym i ∙ fresh c one)))

    pub without-made : spells (exp_of t (a_at t k)) [] ≡ false → (v : List ℕ) → Grown m d k (cuts_joined m w d k a b 1 (d + 1)) w v → Made t s k w v
    without-made none v g =
        grown-same (record { size = g.size; kept = g.kept; shape = g.shape; facts = λ e x y. refl })
        (λ e x y.
        let z : spells (exp_of t a) [] ≡ false = rw ea none in
        cut-facts w q growing a b a-low (omega (arith, b-low, p.number)) v g e x y
        ∙ rw (fresh e x) (sym (seq-truth e y ∙ rw z)))

    -- one whose first child does
    module _ (u : List ℕ) (g : Grown m d k (λ e. has m w k d e || behind m w b d d e) w u) where
      abbrev known-u : Known t s k u
      known-u = added-known b b-low u g

      abbrev growing-u : Growing m d k u
      growing-u = added-growing b b-low u g

      pub with-cutting : {star? : Bool} → (star? ≡ true → kind_at t b ≡ 5) → Cutting m d k a b star? u
      with-cutting h =
          cutting-star u known-u growing-u a b a-low (omega (arith, b-low, p.number)) _ h
          (λ z c e one x y i j. closed (h z) c e one x y i j)
        where
          closed : kind_at t b ≡ 5 → (c e : ℕ) → 1 ≤ c → c ≤ e → e ≤ d → has m u k d c ≡ true → second m u b d c (e - c) ≡ true
              → has m u k d e ≡ true
          closed five c e one x y i j =
              let l : a_at t b < b = star-a-below t q.sized.passes b (omega (arith, b-low, p.number)) five in
              let star-rule : exp_of t b ≡ star (exp_of t (a_at t b)) = exp-star t b five l in
              let front : starts (exp_of t b) s c ≡ true = sym (added-facts b b-low u g c one (omega arith)) ∙ i in
              let back : rests (exp_of t b) s c (e - c) ≡ true =
              sym (behind-told t s k u known-u b c (e - c) (omega (arith, b-low, p.number)) one (omega arith) (omega arith)) ∙ j in
              let joined : rests (star (exp_of t (a_at t b))) s 0 (e - 0) ≡ true =
              star-chained (exp_of t (a_at t b)) s 0 c e (omega arith) x (rw (sub-zero c) (rw star-rule at front)) (rw star-rule at back) in
              added-facts b b-low u g e (omega arith) y ∙ rw star-rule (rw (sub-zero e) at joined)

      pub with-made : spells (exp_of t (a_at t k)) [] ≡ true → (v : List ℕ) → Grown m d k (cuts_joined m u d k a b 1 (d + 1)) u v → Made t s k w v
      with-made some-empty v h =
          grown-same (grown-twice g (record { size = h.size; kept = h.kept; shape = h.shape; facts = λ e x y. refl }))
          (λ e x y.
          let z : spells (exp_of t a) [] ≡ true = rw ea some-empty in
          cut-facts u known-u growing-u a b a-low (omega (arith, b-low, p.number)) v h e x y
          ∙ rw (added-facts b b-low u g e x y) (sym (seq-truth e y ∙ rw z)))

      -- one whose first child spells the lines of a Star of record i
      module _ {i : ℕ} (base : Base t (a_at t k) i) where
        i-low : i < k
        i-low = let l : a_at t k < k = a-child (inr kind) in omega (arith, base.lower)

        of-star : (u : List ℕ) → spells (exp_of t k) u ≡ spells (seq (star (exp_of t i)) (exp_of t b)) u
        of-star u = rw rule (seq-same (exp_of t a) (star (exp_of t i)) (exp_of t b) (λ v. rw ea (base.same v)) u)

        pub of-star-cutting : Cutting m d k i k false u
        of-star-cutting = cutting-plain u known-u growing-u i k i-low p.number

        pub of-star-made : (v : List ℕ) → Grown m d k (cuts_joined m u d k i k 1 (d + 1)) u v → Made t s k w v
        of-star-made v h =
            grown-same (grown-twice g (record { size = h.size; kept = h.kept; shape = h.shape; facts = λ e x y. refl }))
            (λ e x y.
            cut-facts u known-u growing-u i k i-low p.number v h e x y
            ∙ rw (added-facts b b-low u g e x y)
            (ap (λ (o : Bool). starts (exp_of t b) s e || o)
            (some_same (cut_at (starts (exp_of t i) s) (rests (exp_of t k) s) 1 e)
            (cut_at (starts (exp_of t i) s) (rests (seq (star (exp_of t i)) (exp_of t b)) s) 1 e) (suc e)
            (λ c z.
            cut-same (starts (exp_of t i) s) (starts (exp_of t i) s) (rests (exp_of t k) s) (rests (seq (star (exp_of t i)) (exp_of t b)) s) 1 e c
            (λ o n. refl) (λ o n. of-star (take (e - c) (drop c s)))))
            ∙ sym (whole e ∙ of-star (take e s) ∙ seq-of-star-cuts (exp_of t i) (exp_of t b) s e y)))

-- what the code's calls need, in the order of the code
module _ (t s : List ℕ) (k : ℕ) (w : List ℕ) (p : Ready t s k w) where
  -- a child's row may be added first
  child-adds : (j : ℕ) → j < k
      → Growing (count t) (length s) k w × Earlier (count t) (length s) k j (length s) w
  child-adds j l = (growing t s k w p, lower-earlier t s k w p.known j l (omega (arith, p.number)))

  pub or-first : kind_at t k ≡ 3 → {a : ℕ} → a ≡ a_at t k
      → Growing (count t) (length s) k w × Earlier (count t) (length s) k a (length s) w
  or-first kind ea = let l : a_at t k < k = a-child t s k w p (inl kind) in child-adds _ (omega arith)

  pub or-second : kind_at t k ≡ 3 → {a b : ℕ} → a ≡ a_at t k → b ≡ b_at t k → (u : List ℕ)
      → Grown (count t) (length s) k (λ e. has (count t) w k (length s) e || behind (count t) w a (length s) (length s) e) w u
      → Growing (count t) (length s) k u × Earlier (count t) (length s) k b (length s) u
  or-second kind {a} {b} ea eb u g =
      let l : a_at t k < k = a-child t s k w p (inl kind) in
      let h : b_at t k < k = b-child t s k w p (inl kind) in (
        added-growing t s k w p a (omega arith) u g,
        lower-earlier t s k u (added-known t s k w p a (omega arith) u g) b (omega arith) (omega (arith, p.number)),
      )

  pub star-first : kind_at t k ≡ 5 → {a : ℕ} → a ≡ a_at t k
      → Growing (count t) (length s) k w × Earlier (count t) (length s) k a (length s) w
  star-first kind ea = let l : a_at t k < k = star-child t s k w p kind in child-adds _ (omega arith)

  pub seq-first : kind_at t k ≡ 4 → {b : ℕ} → b ≡ b_at t k
      → Growing (count t) (length s) k w × Earlier (count t) (length s) k b (length s) w
  seq-first kind eb = let l : b_at t k < k = b-child t s k w p (inr kind) in child-adds _ (omega arith)

  -- the empty part of a lower record, as the code looks it up
  pub empty-looked : (j : ℕ) → j < count t → is_set (get_or w j 0) ≡ spells (exp_of t j) []
  unfolding tells
  empty-looked j l = rw (first_head (count t) j) at (empty-told t s k w p.known j l)

  pub empty-there : (j : ℕ) → j < count t → j < length w
  empty-there j l =
      omega (arith, p.known.sized.room, head-inside (count t) 0 j l, first_head (count t) j, size-grows (count t) 0 (length s) (omega arith))

  pub looked-unset : (j : ℕ) → j < count t → get_or w j 0 ≡ 0 → spells (exp_of t j) [] ≡ false
  looked-unset j l z = sym (empty-looked j l) ∙ clear-byte (get_or w j 0) z

  pub looked-set : (j : ℕ) → j < count t → ¬ (get_or w j 0 ≡ 0) → spells (exp_of t j) [] ≡ true
  looked-set j l n = sym (empty-looked j l) ∙ set-byte (get_or w j 0) n

  -- a record without children that is no letter
  pub leaf-made : is_letter t k ≡ false → (n : ℕ) → n ≡ kind_at t k → ¬ (n ≡ 3) → ¬ (n ≡ 4) → ¬ (n ≡ 5) → Made t s k w w
  leaf-made no-letter n e three four five = go (kinds (kind_at t k) (kind-small t p.known.sized.passes k p.number))
    where
      go : ((kind_at t k ≡ 0) ⊎ (kind_at t k ≡ 1) ⊎ LetterKind (kind_at t k)) ⊎ ((kind_at t k ≡ 3) ⊎ (kind_at t k ≡ 4)) ⊎ (kind_at t k ≡ 5)
          → Made t s k w w
      go (inl (inl z)) = nothing-made t s k w p z
      go (inl (inr (inl z))) = empty-made t s k w p z
      go (inl (inr (inr z))) = absurd (true≢false (sym (letter_at t k refl z) ∙ no-letter))
      go (inr (inl (inl z))) = absurd (three (e ∙ z))
      go (inr (inl (inr z))) = absurd (four (e ∙ z))
      go (inr (inr z)) = absurd (five (e ∙ z))
