-- Rules as text with their alternatives in another order (document 02, requests 3 and 9), by the trees that the texts group to: the two sides of a bar
-- exchanged, and a row of bars grouped otherwise. The records of such a text are numbered otherwise.
-- Assumes nothing.
use Rattle.std.specs.Prelude.{ℕ, ◌≤◌, ◌≡◌, Bool, true, List, length}
use Rattle.posix.specs.Language.{L}
use Rattle.notation.specs.Trees.{Tree, alt, cat, many, expression}

-- no line, of at most 255 bytes, is read by both
abbrev pub SidesApart : Tree → Tree → Type 0
SidesApart t u = (s : List ℕ) → length s ≤ 255 → L (expression t) s → L (expression u) s → ⊥

-- the bars of a row grouped to the other side; the inner one has no tag
pub data Regrouped : Tree → Tree → Type 0 where
  to_right : {t u w : Tree} {n : ℕ} → Regrouped (alt (alt t u 0) w n) (alt t (alt u w 0) n)
  to_left : {t u w : Tree} {n : ℕ} → Regrouped (alt t (alt u w 0) n) (alt (alt t u 0) w n)

-- the second tree is the first with the two sides of one bar exchanged, which share no line, each with its tags; or, where `grouping` is true, with one
-- row regrouped
pub data Step (grouping : Bool) : Tree → Tree → Type 0 where
  step_exchange : {t u : Tree} {n : ℕ} → SidesApart t u → Step grouping (alt t u n) (alt u t n)
  step_regroup : {t t' : Tree} → grouping ≡ true → Regrouped t t' → Step grouping t t'
  step_left : {t t' u : Tree} {n : ℕ} → Step grouping t t' → Step grouping (alt t u n) (alt t' u n)
  step_right : {t u u' : Tree} {n : ℕ} → Step grouping u u' → Step grouping (alt t u n) (alt t u' n)
  step_first : {t t' u : Tree} {n : ℕ} → Step grouping t t' → Step grouping (cat t u n) (cat t' u n)
  step_second : {t u u' : Tree} {n : ℕ} → Step grouping u u' → Step grouping (cat t u n) (cat t u' n)
  step_many : {t t' : Tree} {n : ℕ} → Step grouping t t' → Step grouping (many t n) (many t' n)

-- any number of them, one after the other
pub data Arranged (grouping : Bool) : Tree → Tree → Type 0 where
  arranged_none : {t : Tree} → Arranged grouping t t
  arranged_more : {t u w : Tree} → Step grouping t u → Arranged grouping u w → Arranged grouping t w
