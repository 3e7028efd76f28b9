-- The premise can be met: T1's two Or records have alternatives that share no line, so T1 may be sorted. A keyword and a name share one, and the
-- tokens change.
-- Assumes nothing.
use Prim.Native.Nat.{ℕ}
use native.Mathlib.Omega.{arith}
use mathlib.Core.Path.{◌≡◌, refl}
use mathlib.Core.Bool.{true, false}
use mathlib.Core.List.{List, [], ◌∷◌}
use Rattle.posix.specs.Expressions.{within, letter, or}
use Rattle.posix.proofs.Spells.{spells-sound}
use Rattle.table.specs.Expression.{below, exp_of}
use Rattle.table.specs.Faults.{Passes}
use Rattle.table.proofs.Checking.{check-gives}
use Rattle.matcher.specs.Calls.{read_says}
use Rattle.lexer.specs.Lexing.{tokens_of}
use Rattle.notation.specs.Trees.{range, alt}
use Rattle.reorder.specs.Exchanges.{Apart, Shared, Each, each_none, each_more}
use Rattle.reorder.specs.Cases.{T1With, T1, KeywordWith, Keyword, brake}
use Rattle.reorder.specs.Texts.{to_left, step_exchange, step_regroup, Arranged, arranged_none, arranged_more}
use Rattle.reorder.proofs.Tests.{edges-apart, seen_apart_lem}
use Rattle.reorder.proofs.Reordering.{reordered-read}
use Rattle.reorder.proofs.Shared.{shared-differ}

-- T1: a and ab end with other bytes, and a and ab start with another byte than bc
pub T1-apart : Each (Apart T1) (7 ∷ 8 ∷ [])
unfolding below exp_of
T1-apart = each_more (seen_apart_lem T1 7 (omega arith) refl) (each_more (seen_apart_lem T1 8 (omega arith) refl) each_none)

-- so Read says the same of T1 with both exchanged
pub T1-sorted : (k : ℕ) (s : List ℕ) (work room : ℕ) → read_says (T1With 3 0 6 7) k s work room ≡ read_says T1 k s work room
T1-sorted = reordered-read T1 (7 ∷ 8 ∷ []) T1-apart

-- the keyword is spelled by both
pub keyword-shared : Shared Keyword 11 brake
unfolding below exp_of
keyword-shared =
    record {
      or_record = record { inside = omega arith; of_kind_or = refl };
      short = omega arith;
      first = spells-sound (exp_of Keyword 8) brake refl;
      second = spells-sound (exp_of Keyword 10) brake refl;
    }

pub keyword-not-apart : ¬ (Apart Keyword 11)
keyword-not-apart a = a.share_none brake (omega arith) keyword-shared.first keyword-shared.second

-- so its token changes: by the theorem, as by computation in the cases
pub keyword-differs : ¬ (tokens_of (KeywordWith 10 8) 11 brake ≡ tokens_of Keyword 11 brake)
keyword-differs = shared-differ Keyword 11 brake passes keyword-shared refl (omega arith) (omega arith) (λ e. omega arith) (omega arith)
  where
    passes : Passes Keyword
    passes = (check-gives Keyword 12 refl).0

-- rules as text: of a#001|b#002 the sides share no line
pub letters-sorted :
    Arranged false (alt (range 0x61 0x61 1) (range 0x62 0x62 2) 0) (alt (range 0x62 0x62 2) (range 0x61 0x61 1) 0)
letters-sorted = arranged_more (step_exchange (λ s h. edges-apart (letter (within 0x61 0x61)) (letter (within 0x62 0x62)) refl s)) arranged_none

-- and of a#001|b#002|c#003 no two do: c goes in front of both, grouped as the notation groups
pub row-sorted :
    Arranged true (alt (alt (range 0x61 0x61 1) (range 0x62 0x62 2) 0) (range 0x63 0x63 3) 0)
    (alt (alt (range 0x63 0x63 3) (range 0x61 0x61 1) 0) (range 0x62 0x62 2) 0)
row-sorted =
    arranged_more
    (step_exchange (λ s h. edges-apart (or (letter (within 0x61 0x61)) (letter (within 0x62 0x62))) (letter (within 0x63 0x63)) refl s))
    (arranged_more (step_regroup refl to_left) arranged_none)
