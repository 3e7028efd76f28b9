-- Alternatives that share no line may be exchanged, one Or record after the other, however deep they stand (document 02, request 9): Check, Read, and
-- Tokens on what Read wrote say and leave the same.
-- Assumes nothing.
use Prim.Native.Nat.{ℕ, ◌*◌, ◌≤◌, ◌<◌}
use mathlib.Core.Path.{◌≡◌, refl, ap₂}
use mathlib.Core.Bool.{true, not}
use mathlib.Core.List.{List, [], ◌∷◌, ◌++◌}
use mathlib.Core.Logic.{◌↔◌}
use lib.Dec.{ltb}
use lib.ListN.{length, take, drop}
use Rattle.posix.specs.Values.{Val}
use Rattle.posix.specs.Language.{L}
use Rattle.posix.specs.Relation.{Posix}
use Rattle.table.specs.Records.{count}
use Rattle.table.specs.Faults.{Passes}
use Rattle.table.specs.Answers.{Said, gives, refuses}
use Rattle.table.specs.Checked.{or_else, checked}
use Rattle.table.specs.Expression.{exp_of}
use Rattle.reading.specs.Codec.{record_size}
use Rattle.reading.specs.Calls.{if_passed, if_start}
use Rattle.tokens.specs.Tokens.{tokens_from}
use Rattle.tokens.specs.Listed.{tokens_says, tokens_leaves}
use Rattle.matcher.specs.Calls.{read_says, read_leaves}
use Rattle.lexer.specs.Lexing.{tokens_of}
use Rattle.reorder.specs.Exchanges.{swapped, reordered, changed, OrRecord, Apart, Each, each_none, each_more}
use Rattle.reorder.specs.Readings.{mirrored}
use Rattle.reorder.proofs.Lines.{SameReading, same_lists}
use Rattle.reorder.proofs.Exchanging.{Exchanged, all-exchanged, changed-each}
use Rattle.reorder.proofs.Checking.{same_count, same-checked, same-passes}
use Rattle.reorder.proofs.Languages.{same_lines}
use Rattle.reorder.proofs.Outcomes.{same-tokens, same-posix-tokens, same_read, same-reading, read-mirrored}

-- one exchange is a list of one
pub one-swapped : (t : List ℕ) (k : ℕ) → reordered t (k ∷ []) ≡ swapped t k
one-swapped t k = refl

pub each_or : {t ks : List ℕ} → Each (Apart t) ks → Each (OrRecord t) ks
each_or each_none = each_none
each_or (each_more a later) = each_more a.or_record (each_or later)

-- alternatives that may share lines
module _ (t ks : List ℕ) (os : Each (OrRecord t) ks) where
  pub reordered-count : count (reordered t ks) ≡ count t
  reordered-count = same_count (all-exchanged t ks os)

  pub reordered-checked : checked (reordered t ks) ≡ checked t
  reordered-checked = same-checked (all-exchanged t ks os)

  pub reordered-passes : Passes t → Passes (reordered t ks)
  reordered-passes = same-passes (all-exchanged t ks os)

  -- what is said of the table and a start number alone
  pub reordered-start : (k : ℕ) → if_start (reordered t ks) k (gives (count (reordered t ks))) ≡ if_start t k (gives (count t))
  reordered-start k = ap₂ (λ (y : Said) (n : ℕ). if_passed y (or_else (not (ltb k n)) (refuses 9 0) (gives n))) reordered-checked reordered-count

  pub reordered-lines : Passes t → (k : ℕ) → k < count t → (s : List ℕ) → L (exp_of t k) s ↔ L (exp_of (reordered t ks) k) s
  reordered-lines p = same_lines (all-exchanged t ks os) p

-- alternatives that share none
module _ (t ks : List ℕ) (apart : Each (Apart t) ks) where
  all : Exchanged (changed ks) t (reordered t ks)
  all = all-exchanged t ks (each_or apart)

  where-changed : (k j : ℕ) → j ≤ k → changed ks j ≡ true → Apart t j
  where-changed k j l = changed-each ks apart j

  pub reordered-tokens : Passes t → (k : ℕ) → k < count t → (s : List ℕ) → length s ≤ 255 → tokens_of (reordered t ks) k s ≡ tokens_of t k s
  reordered-tokens p k = same-tokens all k (where-changed k) p

  pub reordered-posix-tokens :
      Passes t → (k : ℕ) → k < count t → (s : List ℕ) → length s ≤ 255
      → (v w : Val) → Posix s (exp_of t k) v → Posix s (exp_of (reordered t ks) k) w → tokens_from (reordered t ks) k w 0 ≡ tokens_from t k v 0
  reordered-posix-tokens p k = same-posix-tokens all k (where-changed k) p

  pub reordered-read : (k : ℕ) (s : List ℕ) (work room : ℕ) → read_says (reordered t ks) k s work room ≡ read_says t k s work room
  reordered-read k = same_read all k (where-changed k)

  pub reordered-reading : (k : ℕ) → SameReading t k (reordered t ks) k
  reordered-reading k = same-reading all k (where-changed k)

  -- the reading that is written: Left and Right are exchanged at the records whose fields are
  pub reordered-writes :
      (k : ℕ) (s : List ℕ) (work : ℕ) (out : List ℕ) (n : ℕ) → read_says t k s work (length out) ≡ gives n
      → read_leaves (reordered t ks) k s work out
      ≡ mirrored (changed ks) (take (record_size * n) (read_leaves t k s work out)) ++ drop (record_size * n) out
  reordered-writes k = read-mirrored all k (where-changed k)

  pub reordered-lists :
      (k : ℕ) (s : List ℕ) (work : ℕ) (reading list : List ℕ) (n : ℕ) → read_says t k s work (length reading) ≡ gives n
      → (tokens_says (reordered t ks) k (take (record_size * n) (read_leaves (reordered t ks) k s work reading)) (length list)
      ≡ tokens_says t k (take (record_size * n) (read_leaves t k s work reading)) (length list))
      × (tokens_leaves (reordered t ks) k (take (record_size * n) (read_leaves (reordered t ks) k s work reading)) list
      ≡ tokens_leaves t k (take (record_size * n) (read_leaves t k s work reading)) list)
  reordered-lists k = same_lists (reordered-reading k)
