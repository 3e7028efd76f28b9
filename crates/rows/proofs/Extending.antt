-- A row that stays a run while cuts are joined.
-- Assumes nothing.
use Prim.Native.Nat.{ℕ, ◌≤◌}
use native.Mathlib.Omega.{arith}
use mathlib.Core.Path.{◌≡◌, sym, ◌∙◌}
use mathlib.Core.Logic.{⊎_elim}
use mathlib.Core.Bool.{true}
use mathlib.Core.List.{List}
use Rattle.posix.proofs.Spells.{either, or-second}
use Rattle.rows.specs.Layout.{longest_at, lowest_at, has}
use Rattle.rows.specs.Cuts.{some, cut_at}
use Rattle.rows.specs.Rows.{Growing, Grown, in_run, second, cuts_joined, CutBehind, Reached}
use Rattle.rows.proofs.Cuts.{same_truth, some-found, some_holds, cut-true, cut_holds}
use Rattle.rows.proofs.Bytes.{set-byte}
use Rattle.rows.proofs.Growing.{run-true, has-run, grown-same}
use Rattle.rows.proofs.Joining.{grown-none}

-- the run that record k's row is: `high` is its longest length and `low` its lowest
module _ (m d k : ℕ) (w : List ℕ) (g : Growing m d k w) (low high : ℕ) (eh : high ≡ longest_at w m d k) (el : low ≡ lowest_at w m d k)
    (n : 1 ≤ low) where
  pub run-bounds : (1 ≤ low) × (high ≤ d) × (1 ≤ high → low ≤ high)
  run-bounds = (
    n,
    omega (arith, g.shape.small),
    λ l.
        let o : lowest_at w m d k ≤ longest_at w m d k = g.shape.ordered (omega arith) in omega arith,
  )

  has-it : (e : ℕ) → has m w k d e ≡ in_run low high e
  has-it e = rw (el, eh) (has-run w m d k e (set-byte (lowest_at w m d k) (λ (z : lowest_at w m d k ≡ 0). omega arith)))

  -- what cuts from c on make of it, where record f's row has every length from c up to `end`
  module _ (f s c end low' high' next : ℕ) (r : Reached m w d s c end low high low' high' next)
      (first : (i : ℕ) → c ≤ i → i ≤ end → has m w f d i ≡ true) where
    reached-cuts : (e : ℕ) → e ≤ d → in_run low' high' e ≡ cuts_joined m w d k f s c next e
    reached-cuts e b = same_truth (in_run low' high' e) (cuts_joined m w d k f s c next e) there back
      where
        there : in_run low' high' e ≡ true → cuts_joined m w d k f s c next e ≡ true
        there t =
            ⊎_elim
            (λ (x : in_run low high e ≡ true). let y : has m w k d e ≡ true = has-it e ∙ x in rw y)
            (λ (x : CutBehind m w s d c end next e).
            or-second (has m w k d e)
            (some_holds (cut_at (has m w f d) (second m w s d) c e) next x.place x.done
            (cut_holds (has m w f d) (second m w s d) c e x.place x.not_before x.within
            (first x.place x.not_before x.not_behind) x.spelled)))
            (r.found e t)

        back : cuts_joined m w d k f s c next e ≡ true → in_run low' high' e ≡ true
        back t =
            ⊎_elim
            (λ (x : has m w k d e ≡ true). r.kept e (sym (has-it e) ∙ x))
            (λ (x : some (cut_at (has m w f d) (second m w s d) c e) next ≡ true).
            let i = some-found (cut_at (has m w f d) (second m w s d) c e) next x in
            let y = cut-true (has m w f d) (second m w s d) c e i.0 i.2 in
            r.held i.0 e y.0 i.1 y.1 b y.3)
            (either (has m w k d e) (some (cut_at (has m w f d) (second m w s d) c e) next) t)

    -- as a run that is stored
    pub extended_run : (w' : List ℕ) → Grown m d k (in_run low' high') w w' → Grown m d k (cuts_joined m w d k f s c next) w w'
    extended_run w' q = grown-same q (λ e a b. reached-cuts e b)

    -- nothing was there, and nothing came
    pub extended_none : high' ≡ 0 → Grown m d k (cuts_joined m w d k f s c next) w w
    extended_none z =
        grown-same (grown-none g.shape)
        (λ e a b.
        same_truth (has m w k d e) (cuts_joined m w d k f s c next e)
        (λ t. rw t)
        (λ t. let x = run-true low' high' e (reached-cuts e b ∙ t) in absurd (omega (arith, x.1))))
