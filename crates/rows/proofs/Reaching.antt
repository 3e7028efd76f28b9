-- Laws of runs behind cuts: what a record spells of a block as a run, two runs that are one, and a run that cuts extend one by one.
-- Assumes nothing.
use Prim.Native.Nat.{ℕ, ◌+◌, ◌-◌, ◌≤◌, ◌<◌, min, max}
use native.Mathlib.Omega.{arith}
use mathlib.Core.Path.{◌≡◌, sym, ◌∙◌}
use mathlib.Core.Logic.{◌⊎◌, inl, inr, ⊎_elim}
use mathlib.Core.Bool.{true, false, true≢false, cond, ◌||◌}
use mathlib.Core.List.{List}
use lib.Dec.{leb}
use lib.ListN.{get_or}
use borrow.Author.Tests.{le-leb, lt-leb}
use Rattle.posix.proofs.Spells.{either, or-second}
use Rattle.rows.specs.Layout.{is_set, longest_at, lowest_at, has, tells}
use Rattle.rows.specs.Rows.{Shaped, in_run, LowBehind, JoinedRun, CutBehind, Reached}
use Rattle.rows.proofs.Cuts.{same_truth, below_or}
use Rattle.rows.proofs.Bytes.{set-byte, clear-byte}
use Rattle.rows.proofs.Growing.{run_in, run-true, run-low, run-high, has_above, has-run, tells-has}
use Rattle.rows.proofs.Joining.{tells-empty}

-- The longest length that a record spells of the last p bytes: the header of its row, and 0 where there is none.

module _ (p x : ℕ) where
  pub high-none : p ≡ 0 → 0 ≡ cond (leb p 0) 0 x
  high-none z = rw (le-leb p 0 (omega arith))

  pub high-row : ¬ (p ≡ 0) → x ≡ cond (leb p 0) 0 x
  high-row n = rw (lt-leb p 0 (omega arith))

-- h is that length
module _ (m s p : ℕ) (w : List ℕ) (h : ℕ) (long : h ≡ cond (leb p 0) 0 (longest_at w m p s)) where
  pub high-some : ¬ (h ≡ 0) → 1 ≤ p
  high-some n = ⊎_elim (λ (l : 0 < p). l) (λ (l : p ≤ 0). absurd (n (long ∙ sym (high-none p _ (omega arith))))) (below_or 0 p)

  pub high-longest : 1 ≤ p → h ≡ longest_at w m p s
  high-longest l = long ∙ sym (high-row p (longest_at w m p s) (λ (z : p ≡ 0). omega arith))

  pub high_small : (1 ≤ p → Shaped m p s w) → h ≤ p
  high_small q =
      ⊎_elim
      (λ (l : 0 < p). omega (arith, high-longest l, (q l).small))
      (λ (l : p ≤ 0). omega (arith, long, high-none p (longest_at w m p s) (omega arith)))
      (below_or 0 p)

  -- nothing above it is told
  high-above : (e : ℕ) → h < e → e ≤ p → tells m w s p e ≡ false
  high-above e l b = tells-has w m s p e (omega arith) ∙ has_above w m p s e (omega (arith, high-longest (omega arith)))

  -- nothing at all is told
  pub high-nothing : h ≡ 0 → get_or w s 0 ≡ 0 → (e : ℕ) → e ≤ p → tells m w s p e ≡ false
  high-nothing z x e b =
      ⊎_elim
      (λ (l : 0 < e). high-above e (omega arith) b)
      (λ (l : e ≤ 0). let q : e ≡ 0 = omega arith in rw q (tells-empty m p s w ∙ clear-byte (get_or w s 0) x))
      (below_or 0 e)

  -- What `low_behind` returns.

  -- the empty part alone
  pub low-empty : h ≡ 0 → tells m w s p 0 ≡ true → LowBehind m w s p h 0
  low-empty z t =
      record {
        ordered = omega arith;
        told = λ e b.
            ⊎_elim
            (λ (x : 0 < e). high-above e (omega arith) b ∙ sym (run-high 0 h e (omega arith)))
            (λ (x : e ≤ 0). let q : e ≡ 0 = omega arith in rw q (t ∙ sym (run_in 0 h 0 (omega arith) (omega arith))))
            (below_or 0 e);
      }

  module _ (shape : 1 ≤ p → Shaped m p s w) (some : ¬ (h ≡ 0)) (low : ℕ) (lower : low ≡ lowest_at w m p s) where
    run-has : 1 ≤ low → (e : ℕ) → 1 ≤ e → tells m w s p e ≡ in_run low h e
    run-has n e l =
        rw (lower, high-longest (high-some some))
        (tells-has w m s p e l ∙ has-run w m p s e (set-byte (lowest_at w m p s) (λ (z : lowest_at w m p s ≡ 0). omega arith)))

    -- a run without the empty part
    pub low-rest : get_or w s 0 ≡ 0 → 1 ≤ low → LowBehind m w s p h low
    low-rest x n =
        record {
          ordered =
              omega (
                arith,
                lower,
                high-longest (high-some some),
                (shape (high-some some)).ordered (omega (arith, high-longest (high-some some))),
              );
          told = λ e a.
              ⊎_elim
              (λ (y : 0 < e). run-has n e y)
              (λ (y : e ≤ 0).
              let q : e ≡ 0 = omega arith in
              rw q (tells-empty m p s w ∙ clear-byte (get_or w s 0) x ∙ sym (run-low low h 0 n)))
              (below_or 0 e);
        }

    -- a run with it
    pub low-all : ¬ (get_or w s 0 ≡ 0) → low ≡ 1 → LowBehind m w s p h 0
    low-all x one =
        record {
          ordered = omega arith;
          told = λ e a.
              ⊎_elim
              (λ (y : 0 < e). run-has (omega arith) e y ∙ wider e y)
              (λ (y : e ≤ 0).
              let q : e ≡ 0 = omega arith in
              rw q (tells-empty m p s w ∙ set-byte (get_or w s 0) x ∙ sym (run_in 0 h 0 (omega arith) (omega arith))))
              (below_or 0 e);
        }
      where
        wider : (e : ℕ) → 1 ≤ e → in_run low h e ≡ in_run 0 h e
        wider e y =
            same_truth (in_run low h e) (in_run 0 h e)
            (λ t. run_in 0 h e (omega arith) (run-true low h e t).1)
            (λ t. run_in low h e (omega arith) (run-true 0 h e t).1)

-- Two runs, the lengths from low to high and those from a to b.

module _ (low high a b : ℕ) where
  -- the first has no length
  pub join_first : 1 ≤ low → high ≡ 0 → 1 ≤ a → a ≤ b → JoinedRun low high a b a
  join_first l z f o =
      record {
        positive = f;
        ordered = omega arith;
        same = λ e.
            same_truth (in_run a (max high b) e) (in_run low high e || in_run a b e)
            (λ t.
            let p = run-true a (max high b) e t in
            or-second (in_run low high e) (run_in a b e p.0 (omega arith)))
            (λ t.
            ⊎_elim
            (λ (x : in_run low high e ≡ true). let p = run-true low high e x in absurd (omega arith))
            (λ (x : in_run a b e ≡ true).
            let p = run-true a b e x in
            run_in a (max high b) e p.0 (omega arith))
            (either (in_run low high e) (in_run a b e) t));
      }

  -- they meet
  pub join-both : 1 ≤ low → 1 ≤ a → low ≤ high → a ≤ b → a ≤ high + 1 → low ≤ b + 1 → (r : ℕ) → r ≡ min low a → JoinedRun low high a b r
  join-both l f o q x y r z =
      record {
        positive = omega arith;
        ordered = omega arith;
        same = λ e.
            same_truth (in_run r (max high b) e) (in_run low high e || in_run a b e)
            (λ t. there e (run-true r (max high b) e t))
            (λ t.
            ⊎_elim
            (λ (v : in_run low high e ≡ true).
            let p = run-true low high e v in
            run_in r (max high b) e (omega arith) (omega arith))
            (λ (v : in_run a b e ≡ true).
            let p = run-true a b e v in
            run_in r (max high b) e (omega arith) (omega arith))
            (either (in_run low high e) (in_run a b e) t));
      }
    where
      there : (e : ℕ) → (r ≤ e) × (e ≤ max high b) → (in_run low high e || in_run a b e) ≡ true
      there e p =
          ⊎_elim
          (λ (u : e < low). or-second (in_run low high e) (run_in a b e (omega arith) (omega arith)))
          (λ (u : low ≤ e).
          ⊎_elim
          (λ (v : high < e). or-second (in_run low high e) (run_in a b e (omega arith) (omega arith)))
          (λ (v : e ≤ high). rw (run_in low high e u v))
          (below_or high e))
          (below_or e low)

-- What `run_end` returns: h is the row's longest length, and low its lowest.

module _ (m d k : ℕ) (w : List ℕ) (c : ℕ) (t : has m w k d c ≡ true) where
  pub end-here : (i : ℕ) → c ≤ i → i ≤ c → has m w k d i ≡ true
  end-here i a b = let q : i ≡ c = omega arith in rw q t

  pub end-run : (h low : ℕ) → h ≡ longest_at w m d k → low ≡ lowest_at w m d k → 1 ≤ low → (i : ℕ) → c ≤ i → i ≤ h → has m w k d i ≡ true
  end-run h low long lower n i a b =
      let set : is_set (lowest_at w m d k) ≡ true = set-byte (lowest_at w m d k) (λ (z : lowest_at w m d k ≡ 0). omega arith) in
      let p = run-true (lowest_at w m d k) (longest_at w m d k) c (sym (has-run w m d k c set) ∙ t) in
      has-run w m d k i set ∙ run_in (lowest_at w m d k) (longest_at w m d k) i (omega arith) (omega arith)

-- A run that cuts extend.

-- a cut before a place is one before a later place
cut_later : {m s d c end next e : ℕ} {w : List ℕ} (next' : ℕ) → next ≤ next' → CutBehind m w s d c end next e
    → CutBehind m w s d c end next' e
cut_later next' l p =
    record {
      place = p.place;
      not_before = p.not_before;
      not_behind = p.not_behind;
      done = omega (arith, p.done);
      within = p.within;
      spelled = p.spelled;
    }

module _ (m d s c end low high : ℕ) (w : List ℕ) where
  -- no cut was looked at
  pub reached-none : c ≤ d + 1 → 1 ≤ low → high ≤ d → (1 ≤ high → low ≤ high) → Reached m w d s c end low high low high c
  reached-none l one b o =
      record {
        not_before = omega arith;
        not_behind = l;
        positive = one;
        small = b;
        ordered = o;
        kept = λ e t. t;
        found = λ e t. inl t;
        held = λ i e x y. absurd (omega arith);
      }

  module _ (bottom top i : ℕ) (p : Reached m w d s c end low high bottom top i) where
    -- nothing is spelled behind this cut; h is the longest length there
    pub reached-pass : i ≤ d → (h : ℕ) → h ≡ cond (leb (d - i) 0) 0 (longest_at w m (d - i) s) → h ≡ 0 → get_or w s 0 ≡ 0
        → Reached m w d s c end low high bottom top (i + 1)
    reached-pass l h long z x =
        record {
          not_before = omega (arith, p.not_before);
          not_behind = omega arith;
          positive = p.positive;
          small = p.small;
          ordered = p.ordered;
          kept = p.kept;
          found = λ e t.
              ⊎_elim
              (λ (q : in_run low high e ≡ true). inl q)
              (λ (q : CutBehind m w s d c end i e). inr (cut_later (i + 1) (omega arith) q))
              (p.found e t);
          held = λ j e a b y u t.
              ⊎_elim
              (λ (q : j < i). p.held j e a q y u t)
              (λ (q : i ≤ j).
              let same : j ≡ i = omega arith in
              absurd (true≢false (sym (rw same at t) ∙ high-nothing m s (d - i) w h long z x (e - i) (omega arith))))
              (below_or j i);
        }

    -- the cut's lengths, those from i + l to i + h, are joined to the run
    pub reached-more : i < end + 1 → end ≤ d → (h l : ℕ) → i + h ≤ d → LowBehind m w s (d - i) h l → (r : ℕ)
        → JoinedRun bottom top (i + l) (i + h) r
        → (high' : ℕ)
        → high' ≡ max top (i + h)
        → Reached m w d s c end low high r high' (i + 1)
    reached-more before within h l b q r j high' eh =
        rw eh
        record {
          not_before = omega (arith, p.not_before);
          not_behind = omega arith;
          positive = j.positive;
          small = omega (arith, p.small);
          ordered = λ _. j.ordered;
          kept = λ e t. j.same e ∙ rw (p.kept e t);
          found = λ e t.
              ⊎_elim
              (λ (x : in_run bottom top e ≡ true). earlier e (p.found e x))
              (λ (x : in_run (i + l) (i + h) e ≡ true). inr (here e (run-true (i + l) (i + h) e x)))
              (either (in_run bottom top e) (in_run (i + l) (i + h) e) (sym (j.same e) ∙ t));
          held = λ k e a x y u t.
              ⊎_elim
              (λ (v : k < i). j.same e ∙ rw (p.held k e a v y u t))
              (λ (v : i ≤ k).
              let same : k ≡ i = omega arith in
              let z = run-true l h (e - i) (sym (q.told (e - i) (omega arith)) ∙ (rw same at t)) in
              j.same e ∙ or-second (in_run bottom top e) (run_in (i + l) (i + h) e (omega arith) (omega arith)))
              (below_or k i);
        }
      where
        earlier : (e : ℕ) → (in_run low high e ≡ true) ⊎ (CutBehind m w s d c end i e)
            → (in_run low high e ≡ true) ⊎ (CutBehind m w s d c end (i + 1) e)
        earlier e (inl x) = inl x
        earlier e (inr x) = inr (cut_later (i + 1) (omega arith) x)

        here : (e : ℕ) → (i + l ≤ e) × (e ≤ i + h) → CutBehind m w s d c end (i + 1) e
        here e x =
            record {
              place = i;
              not_before = p.not_before;
              not_behind = omega arith;
              done = omega arith;
              within = omega arith;
              spelled = q.told (e - i) (omega arith) ∙ run_in l h (e - i) (omega arith) (omega arith);
            }

    -- a run up to the block's end that starts no later than the next cut has whatever later cuts add
    pub reached-full : top ≡ d → bottom ≤ i → Reached m w d s c end low high bottom top (d + 1)
    reached-full z l =
        record {
          not_before = omega (arith, p.not_before, p.not_behind);
          not_behind = omega arith;
          positive = p.positive;
          small = p.small;
          ordered = p.ordered;
          kept = p.kept;
          found = λ e t.
              ⊎_elim
              (λ (q : in_run low high e ≡ true). inl q)
              (λ (q : CutBehind m w s d c end i e). inr (cut_later (d + 1) p.not_behind q))
              (p.found e t);
          held = λ j e a b y u t.
              ⊎_elim
              (λ (q : j < i). p.held j e a q y u t)
              (λ (q : i ≤ j). run_in bottom top e (omega arith) (omega arith))
              (below_or j i);
        }
