-- The positions that a walk goes to from the position it is at, and the longest cut there.
-- Assumes nothing.
use Prim.Native.Nat.{ℕ, ◌-◌, ◌≤◌, ◌<◌}
use native.Mathlib.Omega.{arith}
use mathlib.Core.Path.{◌≡◌, sym, ◌∙◌, subst}
use mathlib.Core.Bool.{Bool, true, false, ◌||◌}
use mathlib.Core.List.{List}
use mathlib.Core.Logic.{inl, inr}
use lib.ListN.{length}
use Rattle.posix.specs.Expressions.{Exp, nothing, or, seq, star}
use Rattle.posix.specs.Values.{Val}
use Rattle.posix.specs.Relation.{Posix}
use Rattle.posix.specs.Spells.{spells}
use Rattle.posix.proofs.Spells.{spells-sound}
use Rattle.posix.proofs.Parse.{posix-exists}
use Rattle.table.specs.Records.{count, kind_at, a_at, b_at}
use Rattle.table.specs.Expression.{exp_of}
use Rattle.table.proofs.Laws.{exp-nothing, exp-or, exp-seq, exp-star}
use Rattle.table.proofs.Passing.{a-below, b-below, star-a-below, count-bound}
use Rattle.rows.specs.Layout.{area_size, tells}
use Rattle.rows.specs.Rows.{Inside}
use Rattle.rows.proofs.Places.{row-held}
use Rattle.area.specs.Area.{part}
use Rattle.matcher.specs.Walks.{Here, ToldCut, Searched, LongestCut}
use Rattle.matcher.proofs.Cuts.{Largest}
use Rattle.matcher.proofs.Readings.{SomeCut, seq-cut, star-cut}

module _ {t s w : List ℕ} {k d e : ℕ} (h : Here t s w k d e) where
  -- the part has a POSIX reading
  pub reading : (v : Val) × Posix (part s d e) (exp_of t k) v
  reading = posix-exists (exp_of t k) (part s d e) (spells-sound (exp_of t k) (part s d e) h.spelled)

  -- no part is spelled by Nothing
  pub not-nothing : kind_at t k ≡ 0 → ⊥
  not-nothing z =
      let g : spells nothing (part s d e) ≡ true = subst (λ (r : Exp). spells r (part s d e) ≡ true) (exp-nothing t k z) h.spelled in
      let i : ◌≡◌ {A = ℕ} 0 1 = cc in omega arith

  -- another record and another part that the area tells
  pub moved : (c d' e' : ℕ) → c < count t → d' ≤ d → e' ≤ d' → tells (count t) w c d' e' ≡ true → Here t s w c d' e'
  moved c d' e' l i j g =
      record {
        passes = h.passes;
        told = h.told;
        record_inside = l;
        short = h.short;
        left = omega (arith, h.left);
        size = j;
        spelled = sym (h.told.fact c d' e' l (omega (arith, h.left)) j) ∙ g;
      }

  -- what the area tells of a record and a part within the part's bytes
  pub fact : (c d' e' : ℕ) → c < count t → d' ≤ d → e' ≤ d' → tells (count t) w c d' e' ≡ spells (exp_of t c) (part s d' e')
  fact c d' e' l i j = h.told.fact c d' e' l (omega (arith, h.left)) j

  -- a record's row of the part's bytes is in the area
  pub row_told : (c : ℕ) → c < count t → area_size (count t) (length s) ≤ length w → Inside (count t) d c w
  row_told c l room = row-held (omega (arith, count-bound t h.passes)) (omega (arith, h.left, h.short)) l h.left room

  -- the search for a cut, where some cut is spelled
  searched :
      (a b low : ℕ) → a < count t → b < count t → area_size (count t) (length s) ≤ length w → SomeCut (exp_of t a) (exp_of t b) s d e low
      → Searched (count t) a b d e low w
  searched a b low i j room x =
      record {
        records = omega (arith, count-bound t h.passes);
        first = i;
        second = j;
        left = omega (arith, h.left, h.short);
        size = h.size;
        line = length s;
        inside = h.left;
        held = room;
        some = x.at;
        has_cut =
            record {
              above = x.above;
              inside = x.inside;
              front = fact a d x.at i (omega arith) (omega (arith, x.inside, h.size)) ∙ x.front;
              back = fact b (d - x.at) (e - x.at) j (omega arith) (omega (arith, x.inside, h.size)) ∙ x.back;
            };
      }

  -- the longest cut that the area tells is the largest that is spelled
  pub cut-largest :
      {a b low cut : ℕ} → a < count t → b < count t → LongestCut (count t) w a b d e low cut → Largest (exp_of t a) (exp_of t b) s d e cut
  cut-largest {a} {b} {low} {cut} i j x =
      record {
        inside = h.left;
        size = h.size;
        cut = x.found.inside;
        front = sym (fact a d cut i (omega arith) (omega (arith, x.found.inside, h.size))) ∙ x.found.front;
        back = sym (fact b (d - cut) (e - cut) j (omega arith) (omega (arith, x.found.inside, h.size))) ∙ x.found.back;
        none_larger = λ f l n p q.
            x.none_larger f l n (fact a d f i (omega arith) (omega (arith, h.size)) ∙ p)
            (fact b (d - f) (e - f) j (omega arith) (omega (arith, h.size)) ∙ q);
      }

  -- the two parts of a cut
  pub first-here : {a b low cut : ℕ} → a < count t → ToldCut (count t) w a b d e low cut → Here t s w a d cut
  first-here {a} {b} {low} {cut} i x = moved a d cut i (omega arith) (omega (arith, x.inside, h.size)) x.front

  pub second-here : {a b low cut : ℕ} → b < count t → ToldCut (count t) w a b d e low cut → Here t s w b (d - cut) (e - cut)
  second-here {a} {b} {low} {cut} j x =
      moved b (d - cut) (e - cut) j (omega arith) (omega (arith, x.inside, h.size)) x.back

-- the children of Or
module _ {t s w : List ℕ} {k d e a b : ℕ} (h : Here t s w k d e) (p : a ≡ a_at t k) (q : b ≡ b_at t k) (z : kind_at t k ≡ 3) where
  pub or-a : a < k
  or-a = omega (arith, a-below t h.passes k h.record_inside (inl z))

  pub or-b : b < k
  or-b = omega (arith, b-below t h.passes k h.record_inside (inl z))

  pub or-exp : exp_of t k ≡ or (exp_of t a) (exp_of t b)
  or-exp = rw (p, q) (exp-or t k z (rw p at or-a) (rw q at or-b))

  -- where the first does not spell the part, the second does
  pub right-here : tells (count t) w a d e ≡ false → Here t s w b d e
  right-here g =
      record {
        passes = h.passes;
        told = h.told;
        record_inside = omega (arith, or-b, h.record_inside);
        short = h.short;
        left = h.left;
        size = h.size;
        spelled =
            second (spells (exp_of t a) (part s d e)) (spells (exp_of t b) (part s d e))
            (subst (λ (r : Exp). spells r (part s d e) ≡ true) or-exp h.spelled)
            (sym (h.told.fact a d e (omega (arith, or-a, h.record_inside)) h.left h.size) ∙ g);
      }
    where
      second : (x y : Bool) → (x || y) ≡ true → x ≡ false → y ≡ true
      second true y p q = let i : ◌≡◌ {A = ℕ} 0 1 = cc in absurd (omega arith)
      second false y p q = p

-- the children of Seq
module _ {t s w : List ℕ} {k d e a b : ℕ} (h : Here t s w k d e) (p : a ≡ a_at t k) (q : b ≡ b_at t k) (z : kind_at t k ≡ 4) where
  pub seq-a : a < k
  seq-a = omega (arith, a-below t h.passes k h.record_inside (inr z))

  pub seq-b : b < k
  seq-b = omega (arith, b-below t h.passes k h.record_inside (inr z))

  pub seq-exp : exp_of t k ≡ seq (exp_of t a) (exp_of t b)
  seq-exp = rw (p, q) (exp-seq t k z (rw p at seq-a) (rw q at seq-b))

  pub seq-searched : area_size (count t) (length s) ≤ length w → Searched (count t) a b d e 0 w
  seq-searched room =
      searched h a b 0 (omega (arith, seq-a, h.record_inside)) (omega (arith, seq-b, h.record_inside)) room
      (seq-cut (exp_of t a) (exp_of t b) s d e h.left h.size
      (subst (λ (r : Exp). spells r (part s d e) ≡ true) seq-exp h.spelled))

-- the child of Star
module _ {t s w : List ℕ} {k d e a : ℕ} (h : Here t s w k d e) (p : a ≡ a_at t k) (z : kind_at t k ≡ 5) where
  pub star-a : a < k
  star-a = omega (arith, star-a-below t h.passes k h.record_inside z)

  pub star-exp : exp_of t k ≡ star (exp_of t a)
  star-exp = rw p (exp-star t k z (rw p at star-a))

  pub star-searched : (low : ℕ) → low ≤ 1 → 1 ≤ e → area_size (count t) (length s) ≤ length w → Searched (count t) a k d e low w
  star-searched low o l room =
      searched h a k low (omega (arith, star-a, h.record_inside)) h.record_inside room
      (subst (λ (r : Exp). SomeCut (exp_of t a) r s d e low) (sym star-exp) (lower (star-cut (exp_of t a) s d e h.left h.size l
      (subst (λ (r : Exp). spells r (part s d e) ≡ true) star-exp h.spelled))))
    where
      lower : {r1 r2 : Exp} → SomeCut r1 r2 s d e 1 → SomeCut r1 r2 s d e low
      lower x = record { at = x.at; above = omega (arith, x.above); inside = x.inside; front = x.front; back = x.back }
