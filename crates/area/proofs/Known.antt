-- What a row that is not made yet may go by: the rows of lower records and of later starts tell the truth, and still do when it grows.
-- Assumes nothing.
use Prim.Native.Nat.{ℕ, suc, ◌+◌, ◌-◌, ◌≤◌, ◌<◌}
use native.Mathlib.Nat.{sub-zero, sub_self}
use native.Mathlib.Omega.{arith}
use mathlib.Core.Path.{◌≡◌, refl, sym, ap, ◌∙◌}
use mathlib.Core.Logic.{inr}
use mathlib.Core.Bool.{Bool}
use mathlib.Core.List.{List, []}
use lib.ListN.{length, get_or}
use borrow.Author.Tests.{le-leb}
use Rattle.posix.specs.Spells.{spells}
use Rattle.table.specs.Records.{count}
use Rattle.table.specs.Expression.{exp_of}
use Rattle.table.proofs.Passing.{count-bound}
use Rattle.rows.specs.Layout.{head_at, has, tells}
use Rattle.rows.specs.Cuts.{some, cut_at}
use Rattle.rows.specs.Rows.{Inside, Shaped, Grown, Earlier, behind, second}
use Rattle.rows.proofs.Cuts.{some_same, some-skip, cut-same, cut-past}
use Rattle.rows.proofs.Growing.{tells-has}
use Rattle.rows.proofs.Kept.{Same, same-other, same-lower, shape-kept, tells-kept, empty-kept}
use Rattle.area.specs.Filling.{RowTold, Known}
use Rattle.rows.proofs.Recurrences.{starts, rests}
use Rattle.area.proofs.Parts.{part-whole, part-later, part_none}

-- what is told of the empty part is told in block 0
pub tells-empty : (m : ℕ) (w : List ℕ) (k c d : ℕ) → tells m w k c 0 ≡ tells m w k d 0
unfolding tells
tells-empty m w k c d = refl

-- a row is the same where its bytes are
pub row_kept : (t s : List ℕ) (d k : ℕ) (w w' : List ℕ) → Same (count t) d k w w'
    → get_or w' (head_at (count t) 0 k) 0 ≡ get_or w (head_at (count t) 0 k) 0
    → RowTold t s d k w
    → RowTold t s d k w'
row_kept t s d k w w' same zero-kept p =
    record {
      shape = λ l. shape-kept (count t) d k w w' same l (p.shape l);
      fact = λ e l. tells-kept (count t) d k w w' same zero-kept e l ∙ p.fact e l;
    }

module _ (t s : List ℕ) (k : ℕ) (w : List ℕ) (q : Known t s k w) where
  abbrev m : ℕ
  m = count t

  abbrev d : ℕ
  d = length s

  -- small numbers
  pub few : m ≤ 255
  few = (count-bound t q.sized.passes).1

  pub inside : (j : ℕ) → j < m → Inside m d j w
  inside j l =
      record {
        few = omega (arith, few);
        short = q.sized.short;
        known = l;
        room = q.sized.room;
      }

  -- the empty part, by block 0
  pub empty-told : (j : ℕ) → j < m → tells m w j d 0 ≡ spells (exp_of t j) []
  empty-told j l =
      tells-empty m w j d 0 ∙ (q.blocks j 0 l (omega (arith, q.some_byte))).fact 0 (omega arith)
      ∙ ap (spells (exp_of t j)) (part_none s 0)

  -- a lower record's row in this block
  pub lower-told : (j e : ℕ) → j < k → j < m → e ≤ d → tells m w j d e ≡ starts (exp_of t j) s e
  lower-told j e l h x = (q.records j l h).fact e x ∙ ap (spells (exp_of t j)) (part-whole s e)

  -- a row of a later start
  pub behind-told : (j c e : ℕ) → j < m → 1 ≤ c → c ≤ d → e ≤ d - c → tells m w j (d - c) e ≡ rests (exp_of t j) s c e
  behind-told j c e l one h x =
      (q.blocks j (d - c) l (omega (arith, q.some_byte))).fact e x ∙ ap (spells (exp_of t j)) (part-later s c e h)

  -- both may be added
  pub lower-earlier : (j : ℕ) → j < k → j < m → Earlier m d k j d w
  lower-earlier j l h =
      record { known = h; within = omega arith; before = inr l; shape = (q.records j l h).shape }

  pub lower-shape : (j : ℕ) → j < k → j < m → Shaped m d j w
  lower-shape j l h = (q.records j l h).shape q.some_byte

  pub behind-shape : (j p : ℕ) → j < m → 1 ≤ p → p < d → Shaped m p j w
  behind-shape j p l one h = (q.blocks j p l h).shape one

  -- a lower record's row added as it is
  pub behind-whole : (j e : ℕ) → j < k → j < m → e ≤ d → behind m w j d d e ≡ starts (exp_of t j) s e
  behind-whole j e l h x =
      rw (sub_self d, le-leb 0 e (omega arith), sub-zero e) (lower-told j e l h x)

  -- the cuts that the rows tell are those of the expressions
  pub cuts-told : (i j e : ℕ) → i < k → i < m → j < m → e ≤ d
      → some (cut_at (has m w i d) (second m w j d) 1 e) (d + 1) ≡ some (cut_at (starts (exp_of t i) s) (rests (exp_of t j) s) 1 e) (suc e)
  cuts-told i j e l h n x =
      some_same _ _ (d + 1)
      (λ c y.
      cut-same (has m w i d) (starts (exp_of t i) s) (second m w j d) (rests (exp_of t j) s) 1 e c
      (λ a b. sym (tells-has w m i d c a) ∙ lower-told i c l h (omega arith))
      (λ a b. behind-told j c (e - c) n a (omega arith) (omega arith)))
      ∙ some-skip _ (suc e) (d + 1) (omega arith)
      (λ c a b. cut-past (starts (exp_of t i) s) (rests (exp_of t j) s) 1 e c (omega arith))

  -- record k's row grows, and all this stays
  module _ (number : k < m) (f : ℕ → Bool) (w' : List ℕ) (g : Grown m d k f w w') where
    pub known_kept : Known t s k w'
    known_kept =
        record {
          sized = record { passes = q.sized.passes; short = q.sized.short; room = omega (arith, g.size, q.sized.room) };
          some_byte = q.some_byte;
          blocks = λ j c l h.
              row_kept t s c j w w' (same-lower m d k f w w' number g c j h l) (empty-kept m d k f w w' number g q.some_byte j l)
              (q.blocks j c l h);
          records = λ j l h.
              row_kept t s d j w w' (same-other m d k f w w' number g j h (λ (z : j ≡ k). omega arith))
              (empty-kept m d k f w w' number g q.some_byte j h) (q.records j l h);
        }
