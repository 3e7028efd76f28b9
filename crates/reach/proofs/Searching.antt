-- The search from the start record downward: what its marks mean before and after each visit, and the records that spell some line at all.
-- Assumes nothing.
use Prim.Native.Nat.{ℕ, zero, suc, ◌+◌, ◌/◌, ◌%◌, ◌^◌, ◌≤◌, ◌<◌}
use native.Mathlib.Nat.{zero-div}
use native.Mathlib.Omega.{arith}
use mathlib.Core.Path.{◌≡◌, refl, sym, ap, ◌∙◌, subst}
use mathlib.Core.Bool.{Bool, true, false, ◌&&◌, ◌||◌, true≢false}
use mathlib.Core.Logic.{◌⊎◌, inl, inr, ⊎_elim}
use mathlib.Core.List.{List}
use lib.ListN.{length, get_or, replicate}
use Rattle.posix.specs.Extends.{holds_some, extends}
use Rattle.posix.proofs.Extends.{seq-some}
use Rattle.table.specs.Records.{count, kind_at, a_at, b_at}
use Rattle.table.specs.Faults.{Passes}
use Rattle.table.specs.Letters.{LetterKind, byte_set}
use Rattle.table.specs.Expression.{exp_of}
use Rattle.table.proofs.Laws.{exp-nothing, exp-empty, exp-letter, exp-or, exp-seq, exp-star}
use Rattle.table.proofs.Passing.{a-below, b-below, star-a-below, letter_at}
use Rattle.marks.specs.Marks.{marked, MarkedAll, MarkedToo}
use Rattle.marks.proofs.Laws.{unmarked-bit}
use Rattle.rows.proofs.Cuts.{below_or}
use Rattle.area.proofs.Parts.{part-line}
use Rattle.reach.specs.Reaching.{goes_on, place, If, spells_some, SomeFound, Alive, Visited, Reaching}

-- what was marked below stays so, and no number is marked from k on
pub record SomeSoFar (t : List ℕ) (k : ℕ) (some : List ℕ) : Type 0 where
  pub found : SomeFound t k some
  pub none : (j : ℕ) → k ≤ j → marked some j ≡ false

zeros-word : (n i : ℕ) → get_or {A = ℕ} (replicate n 0) i 0 ≡ 0
zeros-word zero i = refl
zeros-word (suc n) zero = refl
zeros-word (suc n) (suc i) = zeros-word n i

-- in words of 0 nothing is marked
none-marked : (n i : ℕ) → marked (replicate n 0) i ≡ false
none-marked n i =
    unmarked-bit (replicate n 0) i (rw (zeros-word n (i / 64)) (ap (λ (x : ℕ). x % 2) (zero-div (2 ^ (i % 64)))))

pub some-none : (t : List ℕ) → SomeSoFar t 0 (replicate 4 0)
some-none t = record { found = record { size = refl; found = λ j l. absurd (omega arith) }; none = λ j l. none-marked 4 j }

not-true : (b : Bool) → (b ≡ true → ⊥) → b ≡ false
not-true true n = absurd (n refl)
not-true false n = refl

below-or-same : (j k : ℕ) → j < k + 1 → (j < k) ⊎ (j ≡ k)
below-or-same j k l = ⊎_elim (λ (h : j < k). inl h) (λ (h : k ≤ j). inr (omega arith)) (below_or j k)

-- record k is marked where it spells some line
pub some_more :
    (t : List ℕ) (k : ℕ) (some some' : List ℕ) {b : Bool} → SomeSoFar t k some → b ≡ spells_some t k → MarkedAll (If b (λ j. j ≡ k)) some some'
    → SomeSoFar t (k + 1) some'
some_more t k some some' p f q =
    record {
      found =
          record {
            size = m.size ∙ p.found.size;
            found = λ j l.
                ⊎_elim (λ (h : j < k). earlier j h (spells_some t j) refl) (λ (h : j ≡ k). rw h (here (spells_some t k) refl)) (below-or-same j k l);
          };
      none = λ j l.
          not-true (marked some' j) (λ (x : marked some' j ≡ true).
          was j (λ (y : j ≡ k). omega arith) (λ (y : marked some j ≡ true). true≢false (sym y ∙ p.none j (omega arith))) x);
    }
  where
    m : MarkedAll (If (spells_some t k) (λ j. j ≡ k)) some some'
    m = subst (λ (x : Bool). MarkedAll (If x (λ j. j ≡ k)) some some') f q

    -- a mark is new at k, or was there
    was : (j : ℕ) → (j ≡ k → ⊥) → (marked some j ≡ true → ⊥) → marked some' j ≡ true → ⊥
    was j f g x = ⊎_elim (λ (y : If (spells_some t k) (λ i. i ≡ k) j). f y.1) (λ (y : marked some j ≡ true). g y) (m.only j x)

    earlier : (j : ℕ) → j < k → (b : Bool) → spells_some t j ≡ b → marked some' j ≡ spells_some t j
    earlier j h true f = m.kept j (p.found.found j h ∙ f) ∙ sym f
    earlier j h false f =
        not-true (marked some' j)
        (was j (λ (y : j ≡ k). omega arith) (λ (y : marked some j ≡ true). true≢false (sym y ∙ p.found.found j h ∙ f)))
        ∙ sym f

    here : (b : Bool) → spells_some t k ≡ b → marked some' k ≡ spells_some t k
    here true f = m.new k (f, refl) ∙ sym f
    here false f =
        not-true (marked some' k) (λ (x : marked some' k ≡ true).
        ⊎_elim
        (λ (y : If (spells_some t k) (λ i. i ≡ k) k). true≢false (sym y.0 ∙ f))
        (λ (y : marked some k ≡ true). true≢false (sym y ∙ p.none k (omega arith)))
        (m.only k x))
        ∙ sym f

-- whether record k spells some line, by its bytes as they are read
module _
    (t : List ℕ) (p : Passes t) (k : ℕ) (l : k < count t) {kind a b : ℕ} (e : kind ≡ kind_at t k) (ea : a ≡ a_at t k) (eb : b ≡ b_at t k)
    {some : List ℕ} (f : SomeFound t k some)
  where
    pub some-nothing : kind ≡ 0 → false ≡ spells_some t k
    some-nothing z = rw (exp-nothing t k (sym e ∙ z))

    pub some-unit : (kind ≡ 1) ⊎ (kind ≡ 5) → true ≡ spells_some t k
    some-unit (inl z) = rw (exp-empty t k (sym e ∙ z))
    some-unit (inr z) = rw (exp-star t k (sym e ∙ z) (star-a-below t p k l (sym e ∙ z)))

    pub some-letter : LetterKind kind → holds_some (byte_set kind a b) ≡ spells_some t k
    some-letter z =
        rw (exp-letter t k (letter_at t k refl (subst LetterKind e z)), e, ea, eb)

    some_or : kind ≡ 3 → (marked some a || marked some b) ≡ spells_some t k
    some_or z =
        let h : kind_at t k ≡ 3 = sym e ∙ z in
        let i : a_at t k < k = a-below t p k l (inl h) in
        let j : b_at t k < k = b-below t p k l (inl h) in
        rw (exp-or t k h i j, ea, eb, f.found (a_at t k) i, f.found (b_at t k) j)

    pub some-or-first : kind ≡ 3 → marked some a ≡ true → true ≡ spells_some t k
    some-or-first z m = ap (λ (x : Bool). x || marked some b) (sym m) ∙ some_or z

    pub some-or-second : kind ≡ 3 → marked some a ≡ false → marked some b ≡ spells_some t k
    some-or-second z m = ap (λ (x : Bool). x || marked some b) (sym m) ∙ some_or z

    some-seq : kind ≡ 4 → (marked some a && marked some b) ≡ spells_some t k
    some-seq z =
        let h : kind_at t k ≡ 4 = sym e ∙ z in
        let i : a_at t k < k = a-below t p k l (inr h) in
        let j : b_at t k < k = b-below t p k l (inr h) in
        rw (exp-seq t k h i j, ea, eb, f.found (a_at t k) i, f.found (b_at t k) j)
        (sym (seq-some (exp_of t (a_at t k)) (exp_of t (b_at t k))))

    pub some-seq-first : kind ≡ 4 → marked some a ≡ true → marked some b ≡ spells_some t k
    some-seq-first z m = ap (λ (x : Bool). x && marked some b) (sym m) ∙ some-seq z

    pub some-seq-none : kind ≡ 4 → marked some a ≡ false → false ≡ spells_some t k
    some-seq-none z m = ap (λ (x : Bool). x && marked some b) (sym m) ∙ some-seq z

-- the start: the start record is to be looked at from the line's first byte on
pub search-starts :
    (t s : List ℕ) (start : ℕ) {ws : List ℕ} → length s ≤ 255 → MarkedToo (place start (length s)) (replicate 1024 0) ws
    → Reaching t s start (start + 1) ws
search-starts t s start {ws} short m =
    record {
      size = m.size;
      sound = λ j d h x e.
          ⊎_elim
          (λ (y : place j d ≡ place start (length s)).
          let same : j ≡ start = omega arith in
          let whole : d ≡ length s = omega arith in
          ap (λ (u : List ℕ). extends (exp_of t start) u) (sym (part-line s))
          ∙ subst (λ (i : ℕ). goes_on t s start i ≡ true) whole (subst (λ (i : ℕ). goes_on t s i d ≡ true) same e))
          (λ (y : marked (replicate 1024 0) (place j d) ≡ true). absurd (true≢false (sym y ∙ none-marked 1024 (place j d))))
          (m.only (place j d) x);
      complete = λ e. (
        start,
        omega arith,
        record {
          left = length s;
          within = omega arith;
          there = m.new (place start (length s)) refl;
          on = ap (λ (u : List ℕ). extends (exp_of t start) u) (part-line s) ∙ e;
        },
      );
    }

module _ {t s : List ℕ} {start k : ℕ} {ws : List ℕ} (p : Reaching t s start (k + 1) ws) where
  alive-sound : Alive t s ws k → extends (exp_of t start) s ≡ true
  alive-sound x = p.sound k x.left x.within x.there x.on

  -- found
  pub search-found : {ws' : List ℕ} {r : Bool} → Visited t s k ws ws' r → r ≡ true → extends (exp_of t start) s ≡ true
  search-found v e = alive-sound (v.right e)

  -- not found at record k
  pub search-on : {ws' : List ℕ} {r : Bool} → Visited t s k ws ws' r → r ≡ false → Reaching t s start k ws'
  search-on {ws'} {r} v f =
      record {
        size = v.size ∙ p.size;
        sound = λ j d h x e.
            ⊎_elim (λ (y : marked ws (place j d) ≡ true). p.sound j d h y e) (λ (y : Alive t s ws k). alive-sound y) (v.sound j d h x e);
        complete = λ e. lower (p.complete e);
      }
    where
      here : Alive t s ws k → (j : ℕ) × (j < k) × Alive t s ws' j
      here x = ⊎_elim (λ (y : r ≡ true). absurd (true≢false (sym y ∙ f))) (λ (y : (j : ℕ) × (j < k) × Alive t s ws' j). y) (v.complete x)

      lower : (j : ℕ) × (j < k + 1) × Alive t s ws j → (j : ℕ) × (j < k) × Alive t s ws' j
      lower (j, l, x) =
          ⊎_elim
          (λ (h : j < k). (j, h, record { left = x.left; within = x.within; there = v.kept (place j x.left) x.there; on = x.on }))
          (λ (h : j ≡ k). here (subst (λ (i : ℕ). Alive t s ws i) h x))
          (below-or-same j k l)

-- a search at record k is one at any number that is the same
pub search-at : {t s : List ℕ} {start k : ℕ} {ws : List ℕ} (j : ℕ) → k ≡ j → Reaching t s start k ws → Reaching t s start j ws
search-at {t} {s} {start} {k} {ws} j e p = subst (λ (i : ℕ). Reaching t s start i ws) e p
