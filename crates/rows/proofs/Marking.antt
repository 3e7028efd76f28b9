-- Laws of rows that are written out and then grow: from `without_run` on, and where they are written out already.
-- Assumes nothing.
use Prim.Native.Nat.{ℕ, ◌-◌, ◌≤◌, ◌<◌}
use native.Mathlib.Nat.{eq-or-lt_of_le}
use native.Mathlib.Omega.{arith}
use mathlib.Core.Path.{◌≡◌, sym, ap, ◌∙◌}
use mathlib.Core.Logic.{◌⊎◌, inl, inr}
use mathlib.Core.Bool.{Bool, false, ◌||◌}
use mathlib.Core.List.{List}
use lib.ListN.{get_or}
use Rattle.rows.specs.Layout.{is_set, longest_at, lowest_at, has}
use Rattle.rows.specs.Rows.{Inside, Growing, Grown, Explicit, in_run, behind, behind_non_empty, Earlier, open_has, Open, WrittenOut}
use Rattle.rows.proofs.Cuts.{below_or}
use Rattle.rows.proofs.Places.{head-row}
use Rattle.rows.proofs.Growing.{has_above, has_end, open_above, open-whole, open-mark, grown-same, explicit-kept, earlier-row}
use Rattle.rows.proofs.Growing.{written_has}
use Rattle.rows.proofs.Joining.{earlier-stays, rest-stays, add-only-empty}
use Rattle.rows.proofs.Kept.{Same, longest-kept, lowest-kept}

-- a row that `without_run` has written out: w is the area before, and h its longest length there
module _ {m d k : ℕ} {w v : List ℕ} (g : Growing m d k w) (q : Explicit m d k (has m w k d) w v) (h : ℕ) (eh : h ≡ longest_at w m d k) where
  pub explicit-open : Open m d k h v
  explicit-open =
      record {
        inside = record { few = g.inside.few; short = g.inside.short; known = g.inside.known; room = rw q.size g.inside.room };
        some_byte = g.some_byte;
        no_run = q.no_run;
        small = omega (arith, g.shape.small);
        clean = λ e x y. q.marks e (omega arith) y ∙ has_above w m d k e (omega arith);
      }

  explicit-has : (e : ℕ) → 1 ≤ e → e ≤ d → open_has m v k d h e ≡ has m w k d e
  explicit-has e a b = go (eq-or-lt_of_le b) (below_or h e)
    where
      go : (e ≡ d) ⊎ (e < d) → (h < e) ⊎ (e ≤ h) → open_has m v k d h e ≡ has m w k d e
      go (inl x) y = rw (x, eh) (open-whole m v k d (longest_at w m d k) ∙ sym (has_end w m d k g.shape g.some_byte))
      go (inr x) (inl y) = open_above m v k d h e y ∙ sym (has_above w m d k e (omega arith))
      go (inr x) (inr y) = open-mark m v k d h e x y ∙ q.marks e a x

  -- what is added then is added to the row as it was
  pub explicit-grown : (f f' : ℕ → Bool) {u : List ℕ} → ((e : ℕ) → e ≤ d → f e ≡ f' e) → Grown m d k (λ e. open_has m v k d h e || f e) v u
      → Grown m d k (λ e. has m w k d e || f' e) w u
  explicit-grown f f' same p =
      record {
        size = p.size ∙ q.size;
        kept = λ i n. p.kept i n ∙ explicit-kept q i n;
        shape = p.shape;
        facts = λ e a b. p.facts e a b ∙ rw (explicit-has e a b, same e b);
      }

-- the rows before a row that is written out stay
module _ {m d k s p : ℕ} {f : ℕ → Bool} {w v : List ℕ} (i : Inside m d k w) (q : Explicit m d k f w v) (r : Earlier m d k s p w) where
  there-same : Same m p s w v
  there-same j (inl x) = q.before j (omega (arith, head-row m p s s r.known, earlier-row i r))
  there-same j (inr x) = q.before j (omega (arith, x.1, earlier-row i r))

  pub there-kept : Earlier m d k s p v
  there-kept = earlier-stays m d k s p w v there-same r

  pub there-longest : (high : ℕ) → high ≡ longest_at w m p s → high ≡ longest_at v m p s
  there-longest high e = e ∙ sym (longest-kept m p s w v there-same)

  pub there-no-run : 1 ≤ p → is_set (lowest_at w m p s) ≡ false → is_set (lowest_at v m p s) ≡ false
  there-no-run l z = rw (lowest-kept m p s w v there-same l) z

  pub there-rest : (e : ℕ) → e ≤ d → behind_non_empty m v s d p e ≡ behind_non_empty m w s d p e
  there-rest = rest-stays m d s p w v there-same r.within

-- what is added to a row that is written out is added to what it has
pub written-grown : {m d k h : ℕ} {w v : List ℕ} (f : ℕ → Bool) → WrittenOut m d k h w → Grown m d k (λ e. open_has m w k d h e || f e) w v
    → Grown m d k (λ e. has m w k d e || f e) w v
written-grown f z p = grown-same p (λ e a b. ap (λ (x : Bool). x || f e) (written_has z e))

-- the empty part is all that record s spells of no bytes
pub add-at-end : (m d k s p : ℕ) (w w' : List ℕ) → p ≡ 0 → ¬ (get_or w s 0 ≡ 0) → Grown m d k (λ e. has m w k d e || in_run (d - p) (d - p) e) w w'
    → Grown m d k (λ e. has m w k d e || behind m w s d p e) w w'
add-at-end m d k s p w w' z x q = let same : d - p ≡ d = omega arith in add-only-empty m d k s p w w' z x (rw same at q)
