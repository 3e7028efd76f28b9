-- What a visit of a record does, by its kind: where it finds that the line can be extended, and that it hands its marks on so that nothing is
-- lost and nothing is made up.
-- Assumes nothing.
use Prim.Native.Nat.{ℕ, ◌+◌, ◌-◌, ◌*◌, ◌≤◌, ◌<◌}
use native.Mathlib.Nat.{le_refl}
use native.Mathlib.Omega.{arith}
use mathlib.Core.Path.{◌≡◌, refl, sym, ap, ◌∙◌, subst}
use mathlib.Core.Bool.{Bool, true, false, ◌&&◌, ◌||◌, true≢false}
use mathlib.Core.Logic.{◌⊎◌, inl, inr, ⊎_elim}
use mathlib.Core.List.{List}
use lib.Dec.{leb}
use lib.ListN.{length, get_or}
use borrow.Author.Tests.{le-leb, leb-true}
use Rattle.posix.specs.Expressions.{holds}
use Rattle.posix.specs.Extends.{holds_some}
use Rattle.posix.proofs.Spells.{either, each, or-second}
use Rattle.table.specs.Records.{count, kind_at, a_at, b_at, is_letter}
use Rattle.table.specs.Letters.{byte_set, byte_set_at}
use Rattle.marks.specs.Marks.{marked, MarkedAll, FromWord, Copied}
use Rattle.marks.proofs.Laws.{marked-inside, marked-then}
use Rattle.table.proofs.Passing.{count-bound}
use Rattle.rows.specs.Rows.{Inside}
use Rattle.rows.proofs.Places.{row-held}
use Rattle.rows.proofs.Cuts.{below_or}
use Rattle.reach.specs.Reaching.{goes_on, place, spells_some, Known, RowOf, RestOf, RestOfRow, Alive, Visiting, letter_found, Visited}
use Rattle.reach.proofs.Rests.{nothing-on, empty-on, empty-on-only, letter-on-none, letter-on-one, letter-on-only, or-a, or-b, or-on-a, or-on-b, or-on-only, CutOn, seq-a, seq-b, seq-on-first, seq-on-cut, seq-on-only, star-a, star-on-none, star-on-cut, star-on-only}

-- a mark that stands in the row's place of record `to` is the row's
row_number :
    (row : List ℕ) (to j d : ℕ) → length row ≡ 4 → d < 256 → FromWord (4 * to) row (place j d) → (j ≡ to) × (marked row d ≡ true)
row_number row to j d size l (above, there) =
    ⊎_elim
    (λ (x : place j d - 64 * (4 * to) < 256).
    let same : j ≡ to = omega arith in
    let number : place j d - 64 * (4 * to) ≡ d = omega arith in
    (same, subst (λ (i : ℕ). marked row i ≡ true) number there))
    (λ (x : 256 ≤ place j d - 64 * (4 * to)). absurd (marked-inside row (place j d - 64 * (4 * to)) (omega arith) there))
    (below_or (place j d - 64 * (4 * to)) 256)

number-row : (row : List ℕ) (to d : ℕ) → marked row d ≡ true → FromWord (4 * to) row (place to d)
number-row row to d there =
    let number : place to d - 64 * (4 * to) ≡ d = omega arith in
    (omega arith, subst (λ (i : ℕ). marked row i ≡ true) (sym number) there)

-- the marks of record k, copied
row_copied : {k : ℕ} {ws to row : List ℕ} → length to ≡ 4 → Copied (4 * k) ws to row → RowOf k ws row
row_copied {k} {ws} size c =
    record {
      size = c.size ∙ size;
      same = λ d l.
          let number : 64 * (4 * k) + d ≡ place k d = omega arith in
          c.same d (omega arith) ∙ ap (λ (i : ℕ). marked ws i) number;
    }

pub visiting :
    {t s w : List ℕ} {k : ℕ} {ws to row : List ℕ} → Known t s w → k < count t → length ws ≡ 1024 → length to ≡ 4 → Copied (4 * k) ws to row
    → Visiting t s w k ws row
visiting p l n size c = record { known = p; inside = l; size = n; own = row_copied size c }

module _ {t s w : List ℕ} {k : ℕ} {ws row : List ℕ} (v : Visiting t s w k ws row) where
  -- a mark of the row whose rest goes on is one of the record's
  row-alive : (d : ℕ) → d ≤ length s → marked row d ≡ true → goes_on t s k d ≡ true → Alive t s ws k
  row-alive d h m e =
      record { left = d; within = h; there = sym (v.own.same d (omega (arith, v.known.short))) ∙ m; on = e }

  alive-row : (x : Alive t s ws k) → marked row x.left ≡ true
  alive-row x = v.own.same x.left (omega (arith, x.within, v.known.short)) ∙ x.there

  -- a visit that marks nothing
  at_rest : (r : Bool) → (r ≡ true → Alive t s ws k) → (Alive t s ws k → r ≡ true) → Visited t s k ws ws r
  at_rest r f g =
      record {
        size = refl;
        kept = λ i m. m;
        right = f;
        sound = λ j d h m e. inl m;
        complete = λ x. inl (g x);
      }

  -- a visit that hands its marks on
  handed :
      {P : ℕ → Type 0} {ws' : List ℕ} → MarkedAll P ws ws'
      → ((j d : ℕ) → d ≤ length s → P (place j d) → goes_on t s j d ≡ true → Alive t s ws k)
      → (Alive t s ws k → (j : ℕ) × (j < k) × (d : ℕ) × (d ≤ length s) × P (place j d) × (goes_on t s j d ≡ true))
      → Visited t s k ws ws' false
  handed {P} {ws'} m f g =
      record {
        size = m.size;
        kept = m.kept;
        right = λ e. absurd (true≢false (sym e));
        sound = λ j d h x e. ⊎_elim (λ (y : P (place j d)). inr (f j d h y e)) (λ (y : marked ws (place j d) ≡ true). inl y) (m.only (place j d) x);
        complete = λ x. inr (on (g x));
      }
    where
      on : (j : ℕ) × (j < k) × (d : ℕ) × (d ≤ length s) × P (place j d) × (goes_on t s j d ≡ true) → (j : ℕ) × (j < k) × Alive t s ws' j
      on (j, l, d, h, p, e) = (j, l, record { left = d; within = h; there = m.new (place j d) p; on = e })

  -- Nothing
  pub nothing-visited : kind_at t k ≡ 0 → Visited t s k ws ws false
  nothing-visited z =
      at_rest false (λ e. absurd (true≢false (sym e))) (λ x. absurd (nothing-on v.known k v.inside z x.left x.on))

  -- Empty
  pub empty-visited : kind_at t k ≡ 1 → (r : Bool) → r ≡ marked row 0 → Visited t s k ws ws r
  empty-visited z r e =
      at_rest r (λ f. row-alive 0 (omega arith) (sym e ∙ f) (empty-on v.known k v.inside z))
      (λ x.
      let n : x.left ≡ 0 = empty-on-only v.known k v.inside z x.left x.within x.on in
      e ∙ subst (λ (i : ℕ). marked row i ≡ true) n (alive-row x))

  -- a letter
  pub letter-visited : is_letter t k ≡ true → (r : Bool) → r ≡ letter_found t s k row → Visited t s k ws ws r
  letter-visited z r e = at_rest r (λ f. found (sym e ∙ f)) (λ x. e ∙ finds x)
    where
      found : letter_found t s k row ≡ true → Alive t s ws k
      found f =
          ⊎_elim
          (λ (x : (marked row 0 && holds_some (byte_set_at t k)) ≡ true).
          let y : (marked row 0 ≡ true) × (holds_some (byte_set_at t k) ≡ true) = each (marked row 0) (holds_some (byte_set_at t k)) x in
          row-alive 0 (omega arith) y.0 (letter-on-none v.known k v.inside z y.1))
          (λ (x : (leb 1 (length s) && (marked row 1 && holds (byte_set_at t k) (get_or s (length s - 1) 0))) ≡ true).
          let y : (leb 1 (length s) ≡ true) × ((marked row 1 && holds (byte_set_at t k) (get_or s (length s - 1) 0)) ≡ true) =
          each (leb 1 (length s)) (marked row 1 && holds (byte_set_at t k) (get_or s (length s - 1) 0)) x in
          let u : (marked row 1 ≡ true) × (holds (byte_set_at t k) (get_or s (length s - 1) 0) ≡ true) =
          each (marked row 1) (holds (byte_set_at t k) (get_or s (length s - 1) 0)) y.1 in
          row-alive 1 (leb-true 1 (length s) y.0) u.0 (letter-on-one v.known k v.inside z (leb-true 1 (length s) y.0) u.1))
          (either (marked row 0 && holds_some (byte_set_at t k)) (leb 1 (length s) && (marked row 1 && holds (byte_set_at t k) (get_or s (length s - 1) 0))) f)

      finds : Alive t s ws k → letter_found t s k row ≡ true
      finds x =
          ⊎_elim
          (λ (y : (x.left ≡ 0) × (holds_some (byte_set_at t k) ≡ true)).
          let m : marked row 0 ≡ true = subst (λ (i : ℕ). marked row i ≡ true) y.0 (alive-row x) in
          rw (m, y.1))
          (λ (y : (x.left ≡ 1) × (holds (byte_set_at t k) (get_or s (length s - 1) 0) ≡ true)).
          let m : marked row 1 ≡ true = subst (λ (i : ℕ). marked row i ≡ true) y.0 (alive-row x) in
          or-second (marked row 0 && holds_some (byte_set_at t k))
          (rw (le-leb 1 (length s) (omega (arith, x.within, y.0)), m, y.1)))
          (letter-on-only v.known k v.inside z x.left x.within x.on)

  -- Or
  pub or-visited :
      {us vs : List ℕ} {a b : ℕ} → kind_at t k ≡ 3 → a ≡ a_at t k → b ≡ b_at t k → MarkedAll (FromWord (4 * a) row) ws us
      → MarkedAll (FromWord (4 * b) row) us vs
      → Visited t s k ws vs false
  or-visited {us} {vs} z ea eb p q =
      handed {P = λ i. FromWord (4 * a_at t k) row i ⊎ FromWord (4 * b_at t k) row i}
      (marked-then (λ j x. x) (λ j x. inl x) (λ j x. inr x) (subst (λ (x : ℕ). MarkedAll (FromWord (4 * x) row) ws us) ea p)
      (subst (λ (x : ℕ). MarkedAll (FromWord (4 * x) row) us vs) eb q)) back on
    where
      back :
          (j d : ℕ) → d ≤ length s → FromWord (4 * a_at t k) row (place j d) ⊎ FromWord (4 * b_at t k) row (place j d)
          → goes_on t s j d ≡ true
          → Alive t s ws k
      back j d h x e =
          ⊎_elim
          (λ (y : FromWord (4 * a_at t k) row (place j d)).
          let n : (j ≡ a_at t k) × (marked row d ≡ true) = row_number row (a_at t k) j d v.own.size (omega (arith, v.known.short)) y in
          row-alive d h n.1 (or-on-a v.known k v.inside z d (subst (λ (i : ℕ). goes_on t s i d ≡ true) n.0 e)))
          (λ (y : FromWord (4 * b_at t k) row (place j d)).
          let n : (j ≡ b_at t k) × (marked row d ≡ true) = row_number row (b_at t k) j d v.own.size (omega (arith, v.known.short)) y in
          row-alive d h n.1 (or-on-b v.known k v.inside z d (subst (λ (i : ℕ). goes_on t s i d ≡ true) n.0 e)))
          x

      on :
          Alive t s ws k
          → (j : ℕ)
          × (j < k)
          × (d : ℕ)
          × (d ≤ length s)
          × (FromWord (4 * a_at t k) row (place j d) ⊎ FromWord (4 * b_at t k) row (place j d))
          × (goes_on t s j d ≡ true)
      on x =
          ⊎_elim
          (λ (y : goes_on t s (a_at t k) x.left ≡ true).
          (a_at t k, or-a v.known k v.inside z, x.left, x.within, inl (number-row row (a_at t k) x.left (alive-row x)), y))
          (λ (y : goes_on t s (b_at t k) x.left ≡ true).
          (b_at t k, or-b v.known k v.inside z, x.left, x.within, inr (number-row row (b_at t k) x.left (alive-row x)), y))
          (or-on-only v.known k v.inside z x.left x.on)

  -- a mark behind a told part of record `of`, read back
  rest-number :
      {of to j d : ℕ} → d ≤ length s → RestOfRow (count t) w row (length s) of to (place j d)
      → (j ≡ to) × (e : ℕ) × (e ≤ length s) × (marked row e ≡ true) × ((goes_on t s j d ≡ true) → CutOn v.known k v.inside of to e)
  rest-number {of} {to} {j} {d} h x =
      let b : RestOf (count t) w of to x.left (place j d) = x.behind in
      let i : b.cut ≤ x.left = b.inside in
      let n : place j d ≡ place to (x.left - b.cut) = b.number in
      let short : length s ≤ 255 = v.known.short in
      let few : x.left ≤ length s = x.within in
      let same : j ≡ to = omega arith in
      let left : d ≡ x.left - b.cut = omega arith in (
        same,
        x.left,
        few,
        x.there,
        λ e.
            record {
              cut = b.cut;
              inside = i;
              told = b.told;
              on = subst (λ (y : ℕ). goes_on t s to y ≡ true) left (subst (λ (y : ℕ). goes_on t s y d ≡ true) same e);
            },
      )

  -- and found
  rest-marked :
      {of to e : ℕ} → e ≤ length s → marked row e ≡ true → (c : CutOn v.known k v.inside of to e)
      → RestOfRow (count t) w row (length s) of to (place to (e - c.cut))
  rest-marked {of} {to} {e} h m c =
      record {
        left = e;
        within = h;
        there = m;
        behind = record { cut = c.cut; inside = c.inside; told = c.told; number = refl };
      }

  -- a row of the area for the whole line
  pub visiting-row : {c : ℕ} → c < count t → Inside (count t) (length s) c w
  visiting-row l =
      row-held (omega (arith, count-bound t v.known.passes)) v.known.short l (le_refl (length s)) v.known.area

  -- Seq
  pub seq-first : {a : ℕ} → kind_at t k ≡ 4 → a ≡ a_at t k → a < k
  seq-first z e = omega (arith, seq-a v.known k v.inside z)

  pub seq-second : {b : ℕ} → kind_at t k ≡ 4 → b ≡ b_at t k → b < k
  seq-second z e = omega (arith, seq-b v.known k v.inside z)

  seq-rests :
      {us : List ℕ} {a b : ℕ} → a ≡ a_at t k → b ≡ b_at t k → MarkedAll (RestOfRow (count t) w row (length s) a b) ws us
      → MarkedAll (RestOfRow (count t) w row (length s) (a_at t k) (b_at t k)) ws us
  seq-rests {us} {a} {b} ea eb p =
      subst (λ (x : ℕ). MarkedAll (RestOfRow (count t) w row (length s) (a_at t k) x) ws us) eb
      (subst (λ (x : ℕ). MarkedAll (RestOfRow (count t) w row (length s) x b) ws us) ea p)

  pub seq-visited :
      {us : List ℕ} {a b : ℕ} → kind_at t k ≡ 4 → a ≡ a_at t k → b ≡ b_at t k → spells_some t b ≡ false
      → MarkedAll (RestOfRow (count t) w row (length s) a b) ws us
      → Visited t s k ws us false
  seq-visited {us} {a} {b} z ea eb f p =
      handed (seq-rests ea eb p) (λ j d h x e.
      let n = rest-number h x in
      row-alive n.1 n.2 n.3 (seq-on-cut v.known k v.inside z n.1 n.2 (n.4 e))) on
    where
      none : spells_some t (b_at t k) ≡ false
      none = subst (λ (x : ℕ). spells_some t x ≡ false) eb f

      on :
          Alive t s ws k
          → (j : ℕ)
          × (j < k)
          × (d : ℕ)
          × (d ≤ length s)
          × RestOfRow (count t) w row (length s) (a_at t k) (b_at t k) (place j d)
          × (goes_on t s j d ≡ true)
      on x =
          ⊎_elim
          (λ (y : (goes_on t s (a_at t k) x.left ≡ true) × (spells_some t (b_at t k) ≡ true)). absurd (true≢false (sym y.1 ∙ none)))
          (λ (c : CutOn v.known k v.inside (a_at t k) (b_at t k) x.left). (
            b_at t k,
            seq-b v.known k v.inside z,
            x.left - c.cut,
            omega (arith, x.within),
            rest-marked x.within (alive-row x) c,
            c.on,
          ))
          (seq-on-only v.known k v.inside z x.left x.within x.on)

  pub seq-visited-some :
      {us vs : List ℕ} {a b : ℕ} → kind_at t k ≡ 4 → a ≡ a_at t k → b ≡ b_at t k → spells_some t b ≡ true
      → MarkedAll (RestOfRow (count t) w row (length s) a b) ws us
      → MarkedAll (FromWord (4 * a) row) us vs
      → Visited t s k ws vs false
  seq-visited-some {us} {vs} {a} {b} z ea eb f p q =
      handed {P = Mark}
      (marked-then (λ j x. x) (λ j x. inl x) (λ j x. inr x) (seq-rests ea eb p)
      (subst (λ (x : ℕ). MarkedAll (FromWord (4 * x) row) us vs) ea q)) back on
    where
      some : spells_some t (b_at t k) ≡ true
      some = subst (λ (x : ℕ). spells_some t x ≡ true) eb f

      Mark : ℕ → Type 0
      Mark i = RestOfRow (count t) w row (length s) (a_at t k) (b_at t k) i ⊎ FromWord (4 * a_at t k) row i

      back : (j d : ℕ) → d ≤ length s → Mark (place j d) → goes_on t s j d ≡ true → Alive t s ws k
      back j d h x e =
          ⊎_elim
          (λ (y : RestOfRow (count t) w row (length s) (a_at t k) (b_at t k) (place j d)).
          let n = rest-number h y in
          row-alive n.1 n.2 n.3 (seq-on-cut v.known k v.inside z n.1 n.2 (n.4 e)))
          (λ (y : FromWord (4 * a_at t k) row (place j d)).
          let n : (j ≡ a_at t k) × (marked row d ≡ true) = row_number row (a_at t k) j d v.own.size (omega (arith, v.known.short)) y in
          row-alive d h n.1 (seq-on-first v.known k v.inside z d (subst (λ (i : ℕ). goes_on t s i d ≡ true) n.0 e) some))
          x

      on : Alive t s ws k → (j : ℕ) × (j < k) × (d : ℕ) × (d ≤ length s) × Mark (place j d) × (goes_on t s j d ≡ true)
      on x =
          ⊎_elim
          (λ (y : (goes_on t s (a_at t k) x.left ≡ true) × (spells_some t (b_at t k) ≡ true)).
          (a_at t k, seq-a v.known k v.inside z, x.left, x.within, inr (number-row row (a_at t k) x.left (alive-row x)), y.0))
          (λ (c : CutOn v.known k v.inside (a_at t k) (b_at t k) x.left). (
            b_at t k,
            seq-b v.known k v.inside z,
            x.left - c.cut,
            omega (arith, x.within),
            inl (rest-marked x.within (alive-row x) c),
            c.on,
          ))
          (seq-on-only v.known k v.inside z x.left x.within x.on)

  -- Star
  pub star-first : {a : ℕ} → kind_at t k ≡ 5 → a ≡ a_at t k → a < k
  star-first z e = omega (arith, star-a v.known k v.inside z)

  pub star-found : kind_at t k ≡ 5 → marked row 0 ≡ true → Visited t s k ws ws true
  star-found z m = at_rest true (λ e. row-alive 0 (omega arith) m (star-on-none v.known k v.inside z)) (λ x. refl)

  pub star-visited :
      {us : List ℕ} {a : ℕ} → kind_at t k ≡ 5 → a ≡ a_at t k → marked row 0 ≡ false
      → MarkedAll (RestOfRow (count t) w row (length s) k a) ws us
      → Visited t s k ws us false
  star-visited {us} z ea none p =
      handed (subst (λ (x : ℕ). MarkedAll (RestOfRow (count t) w row (length s) k x) ws us) ea p) (λ j d h x e.
      let n = rest-number h x in
      row-alive n.1 n.2 n.3 (star-on-cut v.known k v.inside z n.1 n.2 (n.4 e))) on
    where
      on :
          Alive t s ws k
          → (j : ℕ)
          × (j < k)
          × (d : ℕ)
          × (d ≤ length s)
          × RestOfRow (count t) w row (length s) k (a_at t k) (place j d)
          × (goes_on t s j d ≡ true)
      on x =
          ⊎_elim
          (λ (y : x.left ≡ 0). absurd (true≢false (sym (subst (λ (i : ℕ). marked row i ≡ true) y (alive-row x)) ∙ none)))
          (λ (c : CutOn v.known k v.inside k (a_at t k) x.left). (
            a_at t k,
            star-a v.known k v.inside z,
            x.left - c.cut,
            omega (arith, x.within),
            rest-marked x.within (alive-row x) c,
            c.on,
          ))
          (star-on-only v.known k v.inside z x.left x.within x.on)

-- what is found at a letter, by its bytes as they are read
module _
    (t s : List ℕ) (k : ℕ) (row : List ℕ) {kind a b : ℕ} (e : kind ≡ kind_at t k) (ea : a ≡ a_at t k) (eb : b ≡ b_at t k) {m0 some : Bool}
    (em : m0 ≡ marked row 0) (es : some ≡ holds_some (byte_set kind a b))
  where
    pub found-no-line : length s ≡ 0 → (m0 && some) ≡ letter_found t s k row
    found-no-line z = rw (z, em, es, e, ea, eb) (sym (or-false (marked row 0 && holds_some (byte_set_at t k))))
      where
        or-false : (x : Bool) → (x || false) ≡ x
        or-false true = refl
        or-false false = refl

    pub found-line :
        {m1 held : Bool} → 1 ≤ length s → m1 ≡ marked row 1 → held ≡ holds (byte_set kind a b) (get_or s (length s - 1) 0)
        → ((m0 && some) || (m1 && held)) ≡ letter_found t s k row
    found-line l e1 eh = rw (le-leb 1 (length s) l, em, es, e1, eh, e, ea, eb)
