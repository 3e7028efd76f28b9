-- What the answer 1 means: no line is spelled by both alternatives.
-- Assumes nothing.
use Prim.Native.Nat.{ℕ}
use native.Mathlib.Omega.{arith}
use mathlib.Core.Path.{◌≡◌, refl, sym, ◌∙◌}
use mathlib.Core.Bool.{Bool, true, false, cond}
use mathlib.Core.List.{List}
use Rattle.table.specs.Answers.{gives}
use Rattle.reading.proofs.Admission.{Admitted, start_gives}
use Rattle.reorder.specs.Exchanges.{Apart}
use Rattle.reorder.specs.Tests.{seen_apart}
use Rattle.reorder.proofs.Tests.{seen_apart_lem}
use Rattle.apart.specs.Calls.{apart_says}

by-yes : (b : Bool) → gives (cond b 1 0) ≡ gives 1 → b ≡ true
by-yes true e = refl
by-yes false e = absurd (let z : ◌≡◌ {A = ℕ} 0 1 = cc in omega arith)

pub yes-apart : (t : List ℕ) (k : ℕ) → apart_says t k ≡ gives 1 → Apart t k
unfolding apart_says
yes-apart t k e =
    let w : Admitted t k = start_gives t k (gives (cond (seen_apart t k) 1 0)) 1 e in
    seen_apart_lem t k w.inside (by-yes (seen_apart t k) (sym (w.said_on (gives (cond (seen_apart t k) 1 0))) ∙ e))
