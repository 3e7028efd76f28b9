-- Laws of rows that are joined: what a row tells by its header and its lowest length, rows shifted behind some bytes, and cuts joined one by one.
-- Assumes nothing.
use Prim.Native.Nat.{ℕ, ◌+◌, ◌-◌, ◌≤◌, ◌<◌, min, max}
use native.Mathlib.Nat.{eq-or-lt_of_le}
use native.Mathlib.Omega.{arith}
use mathlib.Core.Path.{◌≡◌, refl, sym, ap, ◌∙◌}
use mathlib.Core.Logic.{◌⊎◌, inl, inr, ⊎_elim}
use mathlib.Core.Bool.{Bool, true, false, true≢false, ◌&&◌, ◌||◌, or_assoc, or-false}
use mathlib.Core.List.{List}
use lib.Dec.{leb}
use lib.ListN.{get_or}
use borrow.Author.Tests.{leb-true, le-leb, lt-leb}
use Rattle.std.specs.Prelude.{Option, Some, None}
use Rattle.std.specs.Option.{unwrap_or}
use Rattle.std.proofs.lemmas.Option.{MatchOption-at_none, MatchOption-at_some}
use Rattle.posix.proofs.Spells.{either, each, or-second}
use Rattle.rows.specs.Layout.{row_at, is_set, longest_at, lowest_at, mark_at, has, tells}
use Rattle.rows.specs.Cuts.{some, cut_at}
use Rattle.rows.specs.Rows.{row_set, NextSet, Inside, Shaped, Growing, Grown, in_run, behind, behind_non_empty, Earlier, second, cuts_joined}
use Rattle.rows.specs.Rows.{NextLength, OfLength, Cutting, Skipped, Covered, Tail}
use Rattle.rows.proofs.Cuts.{same_truth, below_or, some-found, some_holds, some-skip}
use Rattle.rows.proofs.Cuts.{cut-true, cut_holds, cut_low}
use Rattle.rows.proofs.Bytes.{set-byte, clear-byte}
use Rattle.rows.proofs.Places.{size-grows, first_head}
use Rattle.rows.proofs.Growing.{lowest-one, run_in, run-true, run-low, run-high, has_above, has-run, has-whole, has-mark, tells-has, grown-same}
use Rattle.rows.proofs.Kept.{Same, longest-kept, lowest-kept, has_kept, shape-kept, same-other, same-lower, tells-lower}

-- a run behind c bytes
shift-run : (c low high e : ℕ) → 1 ≤ low → (leb (c + 1) e && in_run low high (e - c)) ≡ in_run (c + low) (c + high) e
shift-run c low high e l =
    same_truth (leb (c + 1) e && in_run low high (e - c)) (in_run (c + low) (c + high) e)
    (λ t.
    let p = each (leb (c + 1) e) _ t in
    let a : c + 1 ≤ e = leb-true (c + 1) e p.0 in
    let q = run-true low high (e - c) p.1 in
    run_in (c + low) (c + high) e (omega arith) (omega arith))
    (λ t.
    let q = run-true (c + low) (c + high) e t in
    rw (le-leb (c + 1) e (omega arith)) (run_in low high (e - c) (omega arith) (omega arith)))

-- the byte that tells of the empty part
pub tells-empty : (m d k : ℕ) (w : List ℕ) → tells m w k d 0 ≡ is_set (get_or w k 0)
unfolding tells
tells-empty m d k w = rw (first_head m k)

-- the row of record s in block p behind the first d - p bytes
module _ (m : ℕ) (w : List ℕ) (s d p : ℕ) where
  behind-below : (e : ℕ) → e < d - p → behind m w s d p e ≡ false
  behind-below e l = rw (lt-leb (d - p) e l)

  behind-at : (e : ℕ) → e ≡ d - p → behind m w s d p e ≡ tells m w s p 0
  behind-at e q = let z : e - (d - p) ≡ 0 = omega arith in rw (le-leb (d - p) e (omega arith), z)

  behind-above : (e : ℕ) → d - p < e → behind m w s d p e ≡ has m w s p (e - (d - p))
  behind-above e l = rw (le-leb (d - p) e (omega arith)) (tells-has w m s p (e - (d - p)) (omega arith))

  rest-above : (e : ℕ) → d - p < e → behind_non_empty m w s d p e ≡ has m w s p (e - (d - p))
  rest-above e l = rw (le-leb (d - p + 1) e (omega arith))

  rest_below : (e : ℕ) → e ≤ d - p → behind_non_empty m w s d p e ≡ false
  rest_below e l = rw (lt-leb (d - p + 1) e (omega arith))

  -- below, at and above the first length
  side : (e : ℕ) (P : Type 0) → (e < d - p → P) → (e ≡ d - p → P) → (d - p < e → P) → P
  side e P a b c = ⊎_elim a (λ (l : d - p ≤ e). ⊎_elim (λ (q : d - p ≡ e). b (sym q)) c (eq-or-lt_of_le l)) (below_or e (d - p))

  -- without the empty part
  pub behind-none : tells m w s p 0 ≡ false → (e : ℕ) → behind_non_empty m w s d p e ≡ behind m w s d p e
  behind-none z e =
      side e (behind_non_empty m w s d p e ≡ behind m w s d p e)
      (λ l. rest_below e (omega arith) ∙ sym (behind-below e l))
      (λ q. rest_below e (omega arith) ∙ sym (behind-at e q ∙ z))
      (λ l. rest-above e l ∙ sym (behind-above e l))

  pub behind-whole : p ≡ d → (e : ℕ) → 1 ≤ e → behind_non_empty m w s d p e ≡ behind m w s d p e
  behind-whole q e l = rest-above e (omega arith) ∙ sym (behind-above e (omega arith))

  -- with it
  pub behind-parts : tells m w s p 0 ≡ true → (e : ℕ) → (in_run (d - p) (d - p) e || behind_non_empty m w s d p e) ≡ behind m w s d p e
  behind-parts z e =
      side e ((in_run (d - p) (d - p) e || behind_non_empty m w s d p e) ≡ behind m w s d p e)
      (λ l. rw (run-low (d - p) (d - p) e l) (rest_below e (omega arith) ∙ sym (behind-below e l)))
      (λ q. rw (run_in (d - p) (d - p) e (omega arith) (omega arith)) (sym (behind-at e q ∙ z)))
      (λ l. rw (run-high (d - p) (d - p) e l) (rest-above e l ∙ sym (behind-above e l)))

  -- of a row of no bytes there is only the empty part
  pub behind-empty : p ≡ 0 → tells m w s p 0 ≡ true → (e : ℕ) → e ≤ d → in_run d d e ≡ behind m w s d p e
  behind-empty q z e h =
      side e (in_run d d e ≡ behind m w s d p e)
      (λ l. run-low d d e (omega arith) ∙ sym (behind-below e l))
      (λ x. run_in d d e (omega arith) (omega arith) ∙ sym (behind-at e x ∙ z))
      (λ l. absurd (omega arith))

  pub behind-nothing : p ≡ 0 → tells m w s p 0 ≡ false → (e : ℕ) → e ≤ d → behind m w s d p e ≡ false
  behind-nothing q z e h = sym (behind-none z e) ∙ rest_below e (omega arith)

  -- a row with no length, and a run
  pub rest-none : longest_at w m p s ≡ 0 → (e : ℕ) → behind_non_empty m w s d p e ≡ false
  rest-none z e =
      side e (behind_non_empty m w s d p e ≡ false)
      (λ l. rest_below e (omega arith))
      (λ q. rest_below e (omega arith))
      (λ l. rest-above e l ∙ has_above w m p s (e - (d - p)) (omega arith))

  pub rest-run : is_set (lowest_at w m p s) ≡ true → 1 ≤ lowest_at w m p s → (e : ℕ)
      → in_run (d - p + lowest_at w m p s) (d - p + longest_at w m p s) e ≡ behind_non_empty m w s d p e
  rest-run z l e =
      sym (shift-run (d - p) (lowest_at w m p s) (longest_at w m p s) e l)
      ∙ ap (λ (b : Bool). leb (d - p + 1) e && b) (sym (has-run w m p s (e - (d - p)) z))

  pub behind-run : tells m w s p 0 ≡ true → lowest_at w m p s ≡ 1 → (e : ℕ)
      → in_run (d - p) (d - p + longest_at w m p s) e ≡ behind m w s d p e
  behind-run t z e =
      side e (in_run (d - p) (d - p + longest_at w m p s) e ≡ behind m w s d p e)
      (λ l. run-low (d - p) (d - p + longest_at w m p s) e l ∙ sym (behind-below e l))
      (λ q. run_in (d - p) (d - p + longest_at w m p s) e (omega arith) (omega arith) ∙ sym (behind-at e q ∙ t))
      (λ l. same e l ∙ sym (behind-above e l))
    where
      same : (e : ℕ) → d - p < e → in_run (d - p) (d - p + longest_at w m p s) e ≡ has m w s p (e - (d - p))
      same e l =
          same_truth (in_run (d - p) (d - p + longest_at w m p s) e) (in_run 1 (longest_at w m p s) (e - (d - p)))
          (λ t.
          let q = run-true (d - p) (d - p + longest_at w m p s) e t in
          run_in 1 (longest_at w m p s) (e - (d - p)) (omega arith) (omega arith))
          (λ t.
          let q = run-true 1 (longest_at w m p s) (e - (d - p)) t in
          run_in (d - p) (d - p + longest_at w m p s) e (omega arith) (omega arith))
          ∙ sym (has-run w m p s (e - (d - p)) (rw z (set-byte 1 (λ (x : 1 ≡ 0). omega arith)))
          ∙ ap (λ (x : ℕ). in_run x (longest_at w m p s) (e - (d - p))) z)

-- a row that stays
pub grown-none : {m d k : ℕ} {w : List ℕ} → Shaped m d k w → Grown m d k (has m w k d) w w
grown-none p = record { size = refl; kept = λ i n. refl; shape = p; facts = λ e l x. refl }

-- a row that grew twice
pub grown-twice : {m d k : ℕ} {f g : ℕ → Bool} {u v w : List ℕ} → Grown m d k f u v → Grown m d k g v w → Grown m d k g u w
grown-twice p q =
    record { size = q.size ∙ p.size; kept = λ i n. q.kept i n ∙ p.kept i n; shape = q.shape; facts = q.facts }

-- an earlier row whose bytes stay
pub earlier-stays : (m d k s p : ℕ) (w w' : List ℕ) → Same m p s w w' → Earlier m d k s p w → Earlier m d k s p w'
earlier-stays m d k s p w w' same q =
    record {
      known = q.known;
      within = q.within;
      before = q.before;
      shape = λ x. shape-kept m p s w w' same x (q.shape x);
    }

pub rest-stays : (m d s p : ℕ) (w w' : List ℕ) → Same m p s w w' → p ≤ d → (e : ℕ) → e ≤ d
    → behind_non_empty m w' s d p e ≡ behind_non_empty m w s d p e
rest-stays m d s p w w' same l e h =
    ⊎_elim
    (λ (x : e < d - p + 1). rest_below m w' s d p e (omega arith) ∙ sym (rest_below m w s d p e (omega arith)))
    (λ (x : d - p + 1 ≤ e).
    ap (λ (b : Bool). leb (d - p + 1) e && b)
    (has_kept m p s w w' same (e - (d - p)) (omega arith) (omega arith)))
    (below_or e (d - p + 1))

-- where record k's row grew, it may grow on, and the rows before it stay
module _ (m d k : ℕ) (f : ℕ → Bool) (w w' : List ℕ) (g : Grown m d k f w w') where
  pub inside-kept : (j p : ℕ) → Inside m p j w → Inside m p j w'
  inside-kept j p i = record { few = i.few; short = i.short; known = i.known; room = rw g.size i.room }

  pub growing-kept : Growing m d k w → Growing m d k w'
  growing-kept p = record { inside = inside-kept k d p.inside; some_byte = p.some_byte; shape = g.shape }

  pub earlier-same : k < m → (s p : ℕ) → Earlier m d k s p w → Same m p s w w'
  earlier-same l s p q = go q.before
    where
      lower : (p ≡ d) ⊎ (p < d) → s < k → Same m p s w w'
      lower (inl x) y = rw x (same-other m d k f w w' l g s q.known (λ (z : s ≡ k). omega arith))
      lower (inr x) y = same-lower m d k f w w' l g p s x q.known

      go : (p < d) ⊎ (s < k) → Same m p s w w'
      go (inl x) = same-lower m d k f w w' l g p s x q.known
      go (inr y) = lower (eq-or-lt_of_le q.within) y

  pub earlier-kept : k < m → (s p : ℕ) → Earlier m d k s p w → Earlier m d k s p w'
  earlier-kept l s p q = earlier-stays m d k s p w w' (earlier-same l s p q) q

  -- what stands behind
  pub rest-kept : k < m → (s p : ℕ) → Earlier m d k s p w → (e : ℕ) → e ≤ d
      → behind_non_empty m w' s d p e ≡ behind_non_empty m w s d p e
  rest-kept l s p q e h = rest-stays m d s p w w' (earlier-same l s p q) q.within e h

-- what the code adds, and what it is to add: h is the longest length of record s's row in block p, and low its lowest
module _ (m d k s p : ℕ) (w w' : List ℕ) where
  add_same : (f g : ℕ → Bool) → ((e : ℕ) → 1 ≤ e → e ≤ d → f e ≡ g e) → Grown m d k (λ e. has m w k d e || f e) w w'
      → Grown m d k (λ e. has m w k d e || g e) w w'
  add_same f g h q = grown-same q (λ e a b. ap (λ (x : Bool). has m w k d e || x) (h e a b))

  pub add-whole : p ≡ d → Grown m d k (λ e. has m w k d e || behind_non_empty m w s d p e) w w'
      → Grown m d k (λ e. has m w k d e || behind m w s d p e) w w'
  add-whole x q = add_same (behind_non_empty m w s d p) (behind m w s d p) (λ e a b. behind-whole m w s d p x e a) q

  pub add-no-empty : get_or w s 0 ≡ 0 → Grown m d k (λ e. has m w k d e || behind_non_empty m w s d p e) w w'
      → Grown m d k (λ e. has m w k d e || behind m w s d p e) w w'
  add-no-empty x q =
      add_same (behind_non_empty m w s d p) (behind m w s d p)
      (λ e a b. behind-none m w s d p (tells-empty m p s w ∙ clear-byte (get_or w s 0) x) e) q

  pub add-only-empty : p ≡ 0 → ¬ (get_or w s 0 ≡ 0) → Grown m d k (λ e. has m w k d e || in_run d d e) w w'
      → Grown m d k (λ e. has m w k d e || behind m w s d p e) w w'
  add-only-empty z x q =
      add_same (in_run d d) (behind m w s d p)
      (λ e a b. behind-empty m w s d p z (tells-empty m p s w ∙ set-byte (get_or w s 0) x) e b) q

  module _ (h low : ℕ) (long : h ≡ longest_at w m p s) (lower : low ≡ lowest_at w m p s) where
    pub add-run-rest : 1 ≤ low → Grown m d k (λ e. has m w k d e || in_run (d - p + low) (d - p + h) e) w w'
        → Grown m d k (λ e. has m w k d e || behind_non_empty m w s d p e) w w'
    add-run-rest n q =
        add_same (in_run (d - p + low) (d - p + h)) (behind_non_empty m w s d p)
        (λ e a b.
        rw (long, lower)
        (rest-run m w s d p (set-byte (lowest_at w m p s) (λ (z : lowest_at w m p s ≡ 0). omega arith)) (omega arith) e))
        q

    pub add-run-all : tells m w s p 0 ≡ true → low ≡ 1 → Grown m d k (λ e. has m w k d e || in_run (d - p) (d - p + h) e) w w'
        → Grown m d k (λ e. has m w k d e || behind m w s d p e) w w'
    add-run-all t o q =
        add_same (in_run (d - p) (d - p + h)) (behind m w s d p)
        (λ e a b. rw long (behind-run m w s d p t (sym lower ∙ o) e)) q

  -- the empty part first, and then the rest
  pub add-both : (v : List ℕ) → Growing m d k w → Earlier m d k s p w → tells m w s p 0 ≡ true
      → Grown m d k (λ e. has m w k d e || in_run (d - p) (d - p) e) w v
      → Grown m d k (λ e. has m v k d e || behind_non_empty m v s d p e) v w'
      → Grown m d k (λ e. has m w k d e || behind m w s d p e) w w'
  add-both v g o t x y =
      grown-twice x
      (grown-same y
      (λ e a b.
      rw (x.facts e a b, rest-kept m d k (λ e. has m w k d e || in_run (d - p) (d - p) e) w v x g.inside.known s p o e b)
      (or_assoc (has m w k d e) (in_run (d - p) (d - p) e) (behind_non_empty m w s d p e)
      ∙ ap (λ (b : Bool). has m w k d e || b) (behind-parts m w s d p t e))))

-- nothing is to be added
module _ (m d k s p : ℕ) (w : List ℕ) (g : Growing m d k w) where
  add-empty : (f : ℕ → Bool) → ((e : ℕ) → 1 ≤ e → e ≤ d → f e ≡ false) → Grown m d k (λ e. has m w k d e || f e) w w
  add-empty f h =
      grown-same (grown-none g.shape)
      (λ e a b. sym (ap (λ (x : Bool). has m w k d e || x) (h e a b) ∙ or-false (has m w k d e)))

  pub add-no-row : (h : ℕ) → h ≡ longest_at w m p s → h ≡ 0 → Grown m d k (λ e. has m w k d e || behind_non_empty m w s d p e) w w
  add-no-row h l z = add-empty (behind_non_empty m w s d p) (λ e a b. rest-none m w s d p (sym l ∙ z) e)

  pub add_nothing : p ≡ 0 → get_or w s 0 ≡ 0 → Grown m d k (λ e. has m w k d e || behind m w s d p e) w w
  add_nothing z x =
      add-empty (behind m w s d p)
      (λ e a b. behind-nothing m w s d p z (tells-empty m p s w ∙ clear-byte (get_or w s 0) x) e b)

-- the next length of a row: h is its longest length and low its lowest, as the code has them
module _ (m d k : ℕ) (w : List ℕ) (g : Growing m d k w) (from h : ℕ) (long : h ≡ longest_at w m d k) where
  -- none is left above the longest
  pub length_above : from ≤ d + 1 → h < from → NextLength m w k d from (d + 1)
  length_above x l =
      record { not_before = x; passed = λ e a b c. has_above w m d k e (omega arith); found = λ i. absurd (omega arith) }

  -- in a run
  pub length_run : (low : ℕ) → low ≡ lowest_at w m d k → 1 ≤ from → from ≤ h → 1 ≤ low → (r : ℕ) → r ≡ max from low → NextLength m w k d from r
  length_run low lower x l n r q =
      let set : is_set (lowest_at w m d k) ≡ true = set-byte (lowest_at w m d k) (λ (z : lowest_at w m d k ≡ 0). omega arith) in
      let o : lowest_at w m d k ≤ longest_at w m d k = g.shape.ordered (omega arith) in
      record {
        not_before = omega arith;
        passed = λ e a b c. has-run w m d k e set ∙ run-low (lowest_at w m d k) (longest_at w m d k) e (omega arith);
        found = λ i. has-run w m d k r set ∙ run_in (lowest_at w m d k) (longest_at w m d k) r (omega arith) (omega arith);
      }

  -- among the marks, which end before `end` and stand from `at` on
  module _ (z : lowest_at w m d k ≡ 0) (end at : ℕ) (least : end ≡ min (h + 1) d) (place : at ≡ row_at m d k) where
    mark-passed : (e : ℕ) → e < end → row_set w at e ≡ false → has m w k d e ≡ false
    unfolding mark_at
    mark-passed e l x =
        let y : is_set (get_or w (row_at m d k + e) 0) ≡ false = rw place at x in
        has-mark w m d k e (clear-byte (lowest_at w m d k) z) (omega arith) (omega arith) ∙ y

    pub length-mark : (r : ℕ) → NextSet w at from end r → r < end → NextLength m w k d from r
    unfolding mark_at
    length-mark r n l =
        record {
          not_before = n.not_before;
          passed = λ e a b c. mark-passed e (omega arith) (n.passed e a b);
          found = λ i.
              let y : is_set (get_or w (row_at m d k + r) 0) ≡ true = rw place at (n.found l) in
              has-mark w m d k r (clear-byte (lowest_at w m d k) z) (omega arith) (omega arith) ∙ y;
        }

    -- behind the marks: the whole block, or none
    pub length-end : from ≤ h → h ≡ d → ((e : ℕ) → from ≤ e → e < end → row_set w at e ≡ false) → NextLength m w k d from d
    length-end a y n =
        record {
          not_before = omega arith;
          passed = λ e b l i. mark-passed e (omega arith) (n e b (omega arith));
          found = λ i. has-whole w m d k (clear-byte (lowest_at w m d k) z) ∙ le-leb d (longest_at w m d k) (omega arith);
        }

    pub length_none : ¬ (h ≡ d) → from ≤ d + 1 → ((e : ℕ) → from ≤ e → e < end → row_set w at e ≡ false) → NextLength m w k d from (d + 1)
    length_none y a n =
        let x : h < d = shorter in
        record {
          not_before = a;
          passed = λ e b l i.
              ⊎_elim
              (λ (o : h < e). has_above w m d k e (omega arith))
              (λ (o : e ≤ h). mark-passed e (omega arith) (n e b (omega arith)))
              (below_or h e);
          found = λ i. absurd (omega arith);
        }
      where
        shorter : h < d
        shorter = ⊎_elim (λ (o : h ≡ d). absurd (y o)) (λ (o : h < d). o) (eq-or-lt_of_le (omega (arith, g.shape.small)))

-- cuts that are left out
module _ (m d k : ℕ) (w : List ℕ) (c : ℕ) (star : Bool) where
  pub skipped-none : Skipped m w k d c star c
  skipped-none = record { not_before = omega arith; held = λ i a b x. absurd (omega arith); free = λ h. absurd (omega arith) }

  pub skipped-one : star ≡ true → 1 ≤ c → (t : Bool) → t ≡ tells m w k d c → t ≡ true → Skipped m w k d c star (c + 1)
  skipped-one s l t o y =
      record {
        not_before = omega arith;
        held = λ i a b x. let e : i ≡ c = omega arith in rw e (sym (tells-has w m k d c l) ∙ sym o ∙ y);
        free = λ h. inl s;
      }

  module _ (h low : ℕ) (long : h ≡ longest_at w m d k) (lower : low ≡ lowest_at w m d k) where
    pub skipped-full : 1 ≤ c → c ≤ d + 1 → low ≡ 1 → h ≡ d → Skipped m w k d c star (d + 1)
    skipped-full y l z q =
        record { not_before = l; held = λ i a b x. full i (omega arith) x; free = λ i. inr full }
      where
        full : (e : ℕ) → 1 ≤ e → e ≤ d → has m w k d e ≡ true
        full e a b =
            has-run w m d k e (set-byte (lowest_at w m d k) (λ (x : lowest_at w m d k ≡ 0). omega arith))
            ∙ run_in (lowest_at w m d k) (longest_at w m d k) e (omega arith) (omega arith)

    pub skipped-run : star ≡ true → 1 ≤ low → low ≤ c → c ≤ h → Skipped m w k d c star (h + 1)
    skipped-run s n l y =
        record {
          not_before = omega arith;
          held = λ i a b x.
              has-run w m d k i (set-byte (lowest_at w m d k) (λ (z : lowest_at w m d k ≡ 0). omega arith))
              ∙ run_in (lowest_at w m d k) (longest_at w m d k) i (omega arith) (omega arith);
          free = λ x. inl s;
        }

-- with `star`, record k's row is closed under the second sides that w tells
abbrev pub Closed : (m d k s : ℕ) → Bool → (w w' : List ℕ) → Type 0
Closed m d k s star w w' =
    star ≡ true → (c e : ℕ) → 1 ≤ c → c ≤ e → e ≤ d → has m w' k d c ≡ true → second m w s d c (e - c) ≡ true → has m w' k d e ≡ true

-- the cuts below i are joined, and i is a length of record f's row or above d
pub record CutAt (m d k f s from : ℕ) (w w' : List ℕ) (i : ℕ) : Type 0 where
  pub not_before : from ≤ i
  pub joined : Grown m d k (cuts_joined m w d k f s from i) w w'
  pub held : i ≤ d → has m w f d i ≡ true

module _ (m d k f s from : ℕ) (w w' : List ℕ) (next : Option ℕ) (at : OfLength d (CutAt m d k f s from w w') next) where
  pub cut-some : (i : ℕ) → next ≡ Some i → (i ≤ d) × CutAt m d k f s from w w' i
  cut-some i e = MatchOption-at_some (CutAt m d k f s from w w' (d + 1)) (λ (l : ℕ). (l ≤ d) × CutAt m d k f s from w w' l) i e at

  pub cut-none : next ≡ None → CutAt m d k f s from w w' (d + 1)
  cut-none e = MatchOption-at_none (CutAt m d k f s from w w' (d + 1)) (λ (l : ℕ). (l ≤ d) × CutAt m d k f s from w w' l) e at

-- fewer cuts are left from the next length on
pub fewer-left : (m d f i : ℕ) (w : List ℕ) (next : Option ℕ) → OfLength d (NextLength m w f d i) next → d + 1 - unwrap_or next (d + 1) ≤ d + 1 - i
fewer-left m d f i w None n = omega arith
fewer-left m d f i w (Some r) (h, n) = omega (arith, n.not_before)

-- one cut is joined
pub one-cut : (m d k f s i : ℕ) (u v : List ℕ) → 1 ≤ i → i ≤ d → has m u f d i ≡ true
    → Grown m d k (λ e. has m u k d e || behind m u s d (d - i) e) u v
    → Grown m d k (cuts_joined m u d k f s i (i + 1)) u v
one-cut m d k f s i u v l h t g = grown-same g (λ e a b. ap (λ (x : Bool). has m u k d e || x) (same e))
  where
    same : (e : ℕ) → behind m u s d (d - i) e ≡ some (cut_at (has m u f d) (second m u s d) i e) (i + 1)
    same e =
        let back : d - (d - i) ≡ i = omega arith in
        rw back
        (same_truth (leb i e && second m u s d i (e - i)) (some (cut_at (has m u f d) (second m u s d) i e) (i + 1))
        (λ x.
        let r = each (leb i e) _ x in
        some_holds (cut_at (has m u f d) (second m u s d) i e) (i + 1) i (omega arith)
        (cut_holds (has m u f d) (second m u s d) i e i (omega arith) (leb-true i e r.0) t r.1))
        (λ x.
        let c = some-found (cut_at (has m u f d) (second m u s d) i e) (i + 1) x in
        let r = cut-true (has m u f d) (second m u s d) i e c.0 c.2 in
        let z : c.0 ≡ i = omega (arith, c.1, r.0) in
        rw (le-leb i e (omega (arith, r.1))) (rw z at r.3)))

-- a row that is joined by cuts from `from` on: w is the area before the first of them
module _ (m d k f s : ℕ) (star : Bool) (w : List ℕ) (p : Cutting m d k f s star w) (from : ℕ) (one : 1 ≤ from) where
  -- cut c of the first e bytes
  abbrev cut : ℕ → ℕ → Bool
  cut e c = cut_at (has m w f d) (second m w s d) from e c

  -- the row holds the cuts below `end`
  abbrev pub Joining : ℕ → List ℕ → Type 0
  Joining end w' = Grown m d k (cuts_joined m w d k f s from end) w w'

  known : k < m
  known = p.growing.inside.known

  pub joining-growing : (i : ℕ) (w' : List ℕ) → Joining i w' → Growing m d k w'
  joining-growing i w' q = growing-kept m d k (cuts_joined m w d k f s from i) w w' q p.growing

  first-other : (i : ℕ) (w' : List ℕ) → Joining i w' → Same m d f w w'
  first-other i w' q =
      same-other m d k (cuts_joined m w d k f s from i) w w' known q f (omega (arith, p.first_lower, known))
      (λ (z : f ≡ k). omega (arith, p.first_lower))

  pub first-growing : (i : ℕ) (w' : List ℕ) → Joining i w' → Growing m d f w'
  first-growing i w' q =
      let g = joining-growing i w' q in
      record {
        inside = record {
          few = g.inside.few;
          short = g.inside.short;
          known = omega (arith, p.first_lower, known);
          room = g.inside.room;
        };
        some_byte = p.growing.some_byte;
        shape = shape-kept m d f w w' (first-other i w' q) p.growing.some_byte p.first_shape;
      }

  pub first-longest : (i : ℕ) (w' : List ℕ) → Joining i w' → longest_at w' m d f ≡ longest_at w m d f
  first-longest i w' q = longest-kept m d f w w' (first-other i w' q)

  pub first-lowest : (i : ℕ) (w' : List ℕ) → Joining i w' → lowest_at w' m d f ≡ lowest_at w m d f
  first-lowest i w' q = lowest-kept m d f w w' (first-other i w' q) p.growing.some_byte

  pub first-kept : (i : ℕ) (w' : List ℕ) → Joining i w' → (e : ℕ) → 1 ≤ e → e ≤ d → has m w' f d e ≡ has m w f d e
  first-kept i w' q = has_kept m d f w w' (first-other i w' q)

  pub second-earlier : (i : ℕ) (w' : List ℕ) → Joining i w' → (c : ℕ) → 1 ≤ c → c ≤ d → Earlier m d k s (d - c) w'
  second-earlier i w' q c l h =
      earlier-kept m d k (cuts_joined m w d k f s from i) w w' q known s (d - c)
      (record {
        known = p.second_known;
        within = omega arith;
        before = inl (omega arith);
        shape = λ x. p.second_shape (d - c) x (omega arith);
      })

  -- no cut was joined
  pub joining-back : (i : ℕ) (w' : List ℕ) → Joining i w' → from ≤ i → i ≤ from → Joining from w'
  joining-back i w' q l h = let z : i ≡ from = omega arith in rw z at q

  -- cuts that add nothing are left out
  pass : (i j : ℕ) (w' : List ℕ) → Joining i w' → i ≤ j
      → ((e c : ℕ) → 1 ≤ e → e ≤ d → i ≤ c → c < j → cut e c ≡ true → has m w' k d e ≡ true)
      → Joining j w'
  pass i j w' q l h = grown-same q (λ e a b. same_truth _ _ (up e) (down e a b))
    where
      up : (e : ℕ) → cuts_joined m w d k f s from i e ≡ true → cuts_joined m w d k f s from j e ≡ true
      up e t =
          ⊎_elim
          (λ (x : has m w k d e ≡ true). rw x)
          (λ (x : some (cut e) i ≡ true).
          let c = some-found (cut e) i x in
          or-second (has m w k d e) (some_holds (cut e) j c.0 (omega (arith, c.1)) c.2))
          (either (has m w k d e) (some (cut e) i) t)

      down : (e : ℕ) → 1 ≤ e → e ≤ d → cuts_joined m w d k f s from j e ≡ true → cuts_joined m w d k f s from i e ≡ true
      down e a b t =
          ⊎_elim
          (λ (x : has m w k d e ≡ true). rw x)
          (λ (x : some (cut e) j ≡ true).
          let c = some-found (cut e) j x in
          ⊎_elim
          (λ (y : c.0 < i). or-second (has m w k d e) (some_holds (cut e) i c.0 y c.2))
          (λ (y : i ≤ c.0). sym (q.facts e a b) ∙ h e c.0 a b y c.1 c.2)
          (below_or c.0 i))
          (either (has m w k d e) (some (cut e) j) t)

  -- no cut is joined yet
  pub joining-none : Joining from w
  unfolding some
  joining-none =
      grown-same (grown-none p.growing.shape)
      (λ e a b.
      let z : some (cut e) from ≡ false =
      some-skip (cut e) 0 from (omega arith) (λ c x y. cut_low (has m w f d) (second m w s d) from e c y) in
      sym (ap (λ (x : Bool). has m w k d e || x) z ∙ or-false (has m w k d e)))

  -- on to the next length of the first row
  pub joining-next : (i r : ℕ) (w' : List ℕ) → Joining i w' → from ≤ i → NextLength m w' f d i r → Joining r w'
  joining-next i r w' q l n =
      pass i r w' q n.not_before
      (λ e c a b x y t.
      let u = cut-true (has m w f d) (second m w s d) from e c t in
      absurd
      (true≢false
      (sym u.2 ∙ sym (first-kept i w' q c (omega (arith, one, u.0)) (omega (arith, u.1))) ∙ n.passed c x y (omega arith))))

  first-has : (i r : ℕ) (w' : List ℕ) → Joining i w' → from ≤ i → NextLength m w' f d i r → r ≤ d → has m w f d r ≡ true
  first-has i r w' q l n h =
      sym (first-kept i w' q r (omega (arith, one, n.not_before)) h) ∙ n.found h

  -- the next cut at hand
  pub cut-next : (i : ℕ) (w' : List ℕ) → Joining i w' → from ≤ i → (next : Option ℕ) → OfLength d (NextLength m w' f d i) next
      → OfLength d (CutAt m d k f s from w w') next
  cut-next i w' q l None n = at (d + 1) n
    where
      at : (r : ℕ) → NextLength m w' f d i r → CutAt m d k f s from w w' r
      at r n = record { not_before = omega (arith, n.not_before); joined = joining-next i r w' q l n; held = first-has i r w' q l n }
  cut-next i w' q l (Some r) (h, n) =
      (h, record { not_before = omega (arith, n.not_before); joined = joining-next i r w' q l n; held = first-has i r w' q l n })

  -- past the cuts that are left out
  pub joining-skip : (i r : ℕ) (w' : List ℕ) → Joining i w' → Closed m d k s star w w' → Skipped m w' k d i star r → Joining r w'
  joining-skip i r w' q z n =
      pass i r w' q n.not_before
      (λ e c a b x y t.
      let u = cut-true (has m w f d) (second m w s d) from e c t in
      ⊎_elim
      (λ (v : star ≡ true). z v c e (omega (arith, one, u.0)) u.1 b (n.held c x y (omega arith)) u.3)
      (λ (v : (e : ℕ) → 1 ≤ e → e ≤ d → has m w' k d e ≡ true). v e a b)
      (n.free (omega arith)))

  pub joining-covered : (i r : ℕ) (w' : List ℕ) → Joining i w' → from ≤ i → Covered m w' k s d i r → Joining r w'
  joining-covered i r w' q after n =
      pass i r w' q n.not_before
      (λ e c a b x y t.
      let u = cut-true (has m w f d) (second m w s d) from e c t in
      n.held c e x y u.1 b
      (tells-lower m d k (cuts_joined m w d k f s from i) w w' known q (d - c) s (omega (arith, one, u.0, u.1)) p.second_known (e - c) (omega arith) ∙ u.3))

  -- what the second sides tell stays
  second-same : (i : ℕ) (u : List ℕ) → Joining i u → (c e : ℕ) → 1 ≤ c → c ≤ e → e ≤ d
      → second m u s d c (e - c) ≡ second m w s d c (e - c)
  second-same i u q c e x y z =
      tells-lower m d k (cuts_joined m w d k f s from i) w u known q (d - c) s (omega arith) p.second_known (e - c) (omega arith)

  -- the row as it is now may be joined by cuts
  pub cutting-kept : (i : ℕ) (u : List ℕ) → Joining i u → Closed m d k s star w u → Cutting m d k f s star u
  cutting-kept i u q z =
      record {
        growing = joining-growing i u q;
        first_lower = p.first_lower;
        first_shape = (first-growing i u q).shape;
        second_known = p.second_known;
        second_shape = λ x a b.
            shape-kept m x s w u (same-lower m d k (cuts_joined m w d k f s from i) w u known q x s b p.second_known) a (p.second_shape x a b);
        chained = λ on a c e x y z n t b.
            second-same i u q a e x (omega arith) n
            ∙ p.chained on a c e x y z n (sym (second-same i u q a c x y (omega arith)) ∙ t)
            (sym (second-same i u q c e (omega arith) z n) ∙ b);
        closed = λ on c e x y n t b. z on c e x y n t (sym (second-same i u q c e x y n) ∙ b);
      }

  -- more cuts, from i on up to `end`
  module _ (i end : ℕ) (u v : List ℕ) (q : Joining i u) (l : from ≤ i) (h : i ≤ end)
      (g : Grown m d k (cuts_joined m u d k f s i end) u v) where
    abbrev cut' : ℕ → ℕ → Bool
    cut' e c = cut_at (has m u f d) (second m u s d) i e c

    cut-kept : (e c : ℕ) → e ≤ d → i ≤ c → cut' e c ≡ cut e c
    cut-kept e c b x =
        same_truth (cut' e c) (cut e c)
        (λ t.
        let y = cut-true (has m u f d) (second m u s d) i e c t in
        cut_holds (has m w f d) (second m w s d) from e c (omega arith) y.1
        (sym (first-kept i u q c (omega (arith, one)) (omega (arith, y.1))) ∙ y.2)
        (sym (second-same i u q c e (omega (arith, one)) y.1 b) ∙ y.3))
        (λ t.
        let y = cut-true (has m w f d) (second m w s d) from e c t in
        cut_holds (has m u f d) (second m u s d) i e c x y.1
        (first-kept i u q c (omega (arith, one)) (omega (arith, y.1)) ∙ y.2)
        (second-same i u q c e (omega (arith, one)) y.1 b ∙ y.3))

    pub joining-more : Joining end v
    joining-more = grown-twice q (grown-same g (λ e a b. same_truth _ _ (up e a b) (down e a b)))
      where
        up : (e : ℕ) → 1 ≤ e → e ≤ d → cuts_joined m u d k f s i end e ≡ true → cuts_joined m w d k f s from end e ≡ true
        up e a b t =
            ⊎_elim
            (λ (x : has m u k d e ≡ true).
            ⊎_elim
            (λ (y : has m w k d e ≡ true). rw y)
            (λ (y : some (cut e) i ≡ true).
            let c = some-found (cut e) i y in
            or-second (has m w k d e) (some_holds (cut e) end c.0 (omega (arith, c.1)) c.2))
            (either (has m w k d e) (some (cut e) i) (sym (q.facts e a b) ∙ x)))
            (λ (x : some (cut' e) end ≡ true).
            let c = some-found (cut' e) end x in
            let y = cut-true (has m u f d) (second m u s d) i e c.0 c.2 in
            or-second (has m w k d e) (some_holds (cut e) end c.0 c.1 (sym (cut-kept e c.0 b y.0) ∙ c.2)))
            (either (has m u k d e) (some (cut' e) end) t)

        down : (e : ℕ) → 1 ≤ e → e ≤ d → cuts_joined m w d k f s from end e ≡ true → cuts_joined m u d k f s i end e ≡ true
        down e a b t =
            ⊎_elim
            (λ (x : has m w k d e ≡ true). let y : has m u k d e ≡ true = q.facts e a b ∙ rw x in rw y)
            (λ (x : some (cut e) end ≡ true).
            let c = some-found (cut e) end x in
            ⊎_elim
            (λ (y : c.0 < i).
            let z : has m u k d e ≡ true = q.facts e a b ∙ or-second (has m w k d e) (some_holds (cut e) i c.0 y c.2) in rw z)
            (λ (y : i ≤ c.0). or-second (has m u k d e) (some_holds (cut' e) end c.0 c.1 (cut-kept e c.0 b y ∙ c.2)))
            (below_or c.0 i))
            (either (has m w k d e) (some (cut e) end) t)

    pub closed-more : Closed m d k s star w u → Closed m d k s star w v
    closed-more z on a e x y n t b =
        ⊎_elim
        (λ (o : has m u k d a ≡ true).
        let r : has m u k d e ≡ true = z on a e x y n o b in
        g.facts e (omega arith) n ∙ rw r)
        (λ (o : some (cut' a) end ≡ true).
        let c = some-found (cut' a) end o in
        let r = cut-true (has m u f d) (second m u s d) i a c.0 c.2 in
        let first : second m w s d c.0 (a - c.0) ≡ true =
        sym (second-same i u q c.0 a (omega (arith, one, r.0)) r.1 (omega arith)) ∙ r.3 in
        let rest : second m u s d c.0 (e - c.0) ≡ true =
        second-same i u q c.0 e (omega (arith, one, r.0)) (omega (arith, r.1)) n
        ∙ p.chained on c.0 a e (omega (arith, one, r.0)) r.1 y n first b in
        g.facts e (omega arith) n
        ∙ or-second (has m u k d e)
        (some_holds (cut' e) end c.0 c.1
        (cut_holds (has m u f d) (second m u s d) i e c.0 r.0 (omega (arith, r.1)) r.2 rest)))
        (either (has m u k d a) (some (cut' a) end) (sym (g.facts a x (omega arith)) ∙ t))

  -- one cut more
  module _ (i : ℕ) (u v : List ℕ) (q : Joining i u) (l : from ≤ i) (h : i ≤ d) (t : has m w f d i ≡ true)
      (g : Grown m d k (λ e. has m u k d e || behind m u s d (d - i) e) u v) where
    cuts : Grown m d k (cuts_joined m u d k f s i (i + 1)) u v
    cuts =
        one-cut m d k f s i u v (omega (arith, one)) h
        (first-kept i u q i (omega (arith, one)) h ∙ t) g

    pub joining-one : Joining (i + 1) v
    joining-one = joining-more i (i + 1) u v q l (omega arith) cuts

    pub closed-one : Closed m d k s star w u → Closed m d k s star w v
    closed-one = closed-more i (i + 1) u v q l (omega arith) cuts

-- a first row with no length, and one with one byte alone: h is its longest length
module _ (m d k f s : ℕ) (star : Bool) (w : List ℕ) (p : Cutting m d k f s star w) (h : ℕ) (long : h ≡ longest_at w m d f) where
  abbrev none : Grown m d k (cuts_joined m w d k f s 1 1) w w
  none = joining-none m d k f s star w p 1 (omega arith)

  pub cuts-none : h ≡ 0 → Grown m d k (cuts_joined m w d k f s 1 (d + 1)) w w
  cuts-none z =
      joining-next m d k f s star w p 1 (omega arith) 1 (d + 1) w none (omega arith)
      (length_above m d f w (first-growing m d k f s star w p 1 (omega arith) 1 w none) 1 h long (omega arith) (omega arith))

  pub one_earlier : Earlier m d k s (d - 1) w
  one_earlier = second-earlier m d k f s star w p 1 (omega arith) 1 w none 1 (omega arith) p.growing.some_byte

  pub cuts-one : h ≡ 1 → (v : List ℕ) → Grown m d k (λ e. has m w k d e || behind m w s d (d - 1) e) w v
      → Grown m d k (cuts_joined m w d k f s 1 (d + 1)) w v
  cuts-one z v g =
      let l : 1 ≤ d = p.growing.some_byte in
      let low : lowest_at w m d f ≡ 1 = lowest-one w m d f (omega arith) in
      let here : has m w f d 1 ≡ true =
      has-run w m d f 1 (rw low (set-byte 1 (λ (x : 1 ≡ 0). omega arith)))
      ∙ run_in (lowest_at w m d f) (longest_at w m d f) 1 (omega arith) (omega arith) in
      let more = joining-one m d k f s star w p 1 (omega arith) 1 w v none (omega arith) l here g in
      joining-next m d k f s star w p 1 (omega arith) 2 (d + 1) v more (omega arith)
      (length_above m d f v (first-growing m d k f s star w p 1 (omega arith) 2 v more) 2 h
      (long ∙ sym (first-longest m d k f s star w p 1 (omega arith) 2 v more)) (omega arith) (omega arith))

-- cuts of which none is left out may be joined wherever some may be
pub cutting-free : {m d k f s : ℕ} {star : Bool} {w : List ℕ} → Cutting m d k f s star w → Cutting m d k f s false w
cutting-free p =
    record {
      growing = p.growing;
      first_lower = p.first_lower;
      first_shape = p.first_shape;
      second_known = p.second_known;
      second_shape = p.second_shape;
      chained = λ on. absurd (true≢false (sym on));
      closed = λ on. absurd (true≢false (sym on));
    }

-- a mark is its byte of the row
mark-byte : (m d k e : ℕ) (w : List ℕ) → is_set (mark_at w m d k e) ≡ row_set w (row_at m d k) e
unfolding mark_at
mark-byte m d k e w = refl

-- a row that has every length up to its longest
module _ (m d k : ℕ) (w : List ℕ) where
  pub closed_run : Growing m d k w → (h end at : ℕ) → h ≡ longest_at w m d k → lowest_at w m d k ≡ 0 → at ≡ row_at m d k → end ≡ min (h + 1) d
      → ((i : ℕ) → 1 ≤ i → i < end → row_set w at i ≡ true)
      → (w' : List ℕ)
      → Grown m d k (in_run 1 h) w w'
      → Grown m d k (has m w k d) w w'
  closed_run g h end at eh low ea ee marks w' q = grown-same q (λ e a b. same e a b (below_or h e))
    where
      unset : is_set (lowest_at w m d k) ≡ false
      unset = clear-byte (lowest_at w m d k) low

      small : longest_at w m d k ≤ d
      small = g.shape.small

      mark : (e : ℕ) → 1 ≤ e → e < end → is_set (mark_at w m d k e) ≡ true
      mark e a b = mark-byte m d k e w ∙ rw ea at (marks e a b)

      held : (e : ℕ) → 1 ≤ e → e ≤ h → (e ≡ d) ⊎ (e < d) → has m w k d e ≡ true
      held e a b (inl z) = rw z (has-whole w m d k unset ∙ le-leb d (longest_at w m d k) (omega arith))
      held e a b (inr z) = has-mark w m d k e unset z (omega arith) ∙ mark e a (omega arith)

      same : (e : ℕ) → 1 ≤ e → e ≤ d → (h < e) ⊎ (e ≤ h) → in_run 1 h e ≡ has m w k d e
      same e a b (inl x) = run-high 1 h e x ∙ sym (has_above w m d k e (omega arith))
      same e a b (inr x) = run_in 1 h e a x ∙ sym (held e a x (eq-or-lt_of_le b))

-- a row that grew and was closed
pub grown-closed : {m d k : ℕ} {f : ℕ → Bool} {u v w : List ℕ} → Grown m d k f u v → Grown m d k (has m v k d) v w → Grown m d k f u w
grown-closed p q = grown-same (grown-twice p q) (λ e a b. p.facts e a b)

-- a row that has every length from t on still has them when it grew
pub tail-kept : (m d k t : ℕ) (g : ℕ → Bool) (u v : List ℕ) → Grown m d k (λ e. has m u k d e || g e) u v → 1 ≤ t → Tail m u k d t
    → Tail m v k d t
tail-kept m d k t g u v q l p e a b = let x : has m u k d e ≡ true = p e a b in q.facts e (omega arith) b ∙ rw x

-- a row that has every length from t on has what the cuts from there on add
pub tail-covered : (m : ℕ) (w : List ℕ) (k s d t c : ℕ) → Tail m w k d t → t ≤ c → c ≤ d + 1 → Covered m w k s d c (d + 1)
tail-covered m w k s d t c p l h =
    record { not_before = h; not_behind = omega arith; held = λ i e x y a b z. p e (omega arith) b }

-- a row in a block of fewer bytes stands inside the area
pub block_inside : (m d k s : ℕ) (w : List ℕ) → Inside m d k w → s < m → (p : ℕ) → p ≤ d → Inside m p s w
block_inside m d k s w i l p h =
    record { few = i.few; short = omega (arith, i.short); known = l; room = omega (arith, i.room, size-grows m p d h) }
