-- The two facts of a line, from a work area that is filled for it.
-- Assumes nothing.
use Prim.Native.Nat.{ℕ, ◌≤◌, ◌<◌}
use native.Mathlib.Nat.{le_refl}
use native.Mathlib.Omega.{arith}
use borrow.Author.Tests.{lt-ltb, le-ltb}
use mathlib.Core.Path.{◌≡◌, sym, ap, ◌∙◌}
use mathlib.Core.Bool.{Bool, true, false}
use mathlib.Core.List.{List}
use lib.ListN.{length}
use Rattle.posix.specs.Spells.{spells}
use Rattle.posix.specs.Extends.{extends}
use Rattle.posix.proofs.Extends.{spells-extends}
use Rattle.table.specs.Records.{count}
use Rattle.table.specs.Answers.{gives, refuses}
use Rattle.table.specs.Expression.{exp_of}
use Rattle.rows.specs.Layout.{area_size, tells}
use Rattle.rows.proofs.Places.{area_size-formula}
use Rattle.area.specs.Area.{Told}
use Rattle.area.proofs.Parts.{part-line}
use Rattle.matcher.specs.Calls.{work_size}
use Rattle.live.specs.Calls.{facts_number, facts_say}

-- a table of m records, and the size of its area for a line
module _ (t : List ℕ) (k : ℕ) (s : List ℕ) (work : ℕ) {m size : ℕ} (e : m ≡ count t) (f : size ≡ area_size m (length s)) where
  formula : size ≡ work_size (count t) (length s)
  formula = f ∙ ap (λ (i : ℕ). area_size i (length s)) e ∙ area_size-formula (count t) (length s)

  -- 10
  pub facts-refused : work < size → refuses 10 0 ≡ facts_say t k s work
  facts-refused l = rw (lt-ltb work (work_size (count t) (length s)) (omega (arith, formula)))

  facts-known :
      {reads more : Bool} → size ≤ work → reads ≡ spells (exp_of t k) s → more ≡ extends (exp_of t k) s
      → gives (facts_number reads more) ≡ facts_say t k s work
  facts-known l g h = rw (le-ltb work (work_size (count t) (length s)) (omega (arith, formula)), g, h)

  -- the facts by a filled area
  module _ {w : List ℕ} {reads : Bool} (l : size ≤ work) (inside : k < count t) (told : Told t s w) (g : reads ≡ tells m w k (length s) (length s)) where
    line-told : reads ≡ spells (exp_of t k) s
    line-told =
        g ∙ ap (λ (i : ℕ). tells i w k (length s) (length s)) e
        ∙ told.fact k (length s) (length s) inside (le_refl (length s)) (le_refl (length s))
        ∙ ap (λ (u : List ℕ). spells (exp_of t k) u) (part-line s)

    -- a line that has a reading needs no byte more
    pub facts-read : reads ≡ true → gives (facts_number true true) ≡ facts_say t k s work
    facts-read h = facts-known l (sym h ∙ line-told) (sym (spells-extends (exp_of t k) s (sym line-told ∙ h)))

    pub facts-searched : reads ≡ false → {more : Bool} → more ≡ extends (exp_of t k) s → gives (facts_number false more) ≡ facts_say t k s work
    facts-searched h e = facts-known l (sym h ∙ line-told) e
