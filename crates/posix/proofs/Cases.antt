-- The cases of the bench follow from the definitions: one computation over the whole list, and what it means for each case.
-- Assumes nothing.
use Prim.Native.Nat.{ℕ}
use mathlib.Core.Path.{◌≡◌, refl}
use mathlib.Core.List.Memᴰ
use mathlib.Core.List.{List, [], ◌∷◌, map, Memᴰ}
use mathlib.Core.Logic.{⊎_elim}
use Rattle.posix.specs.Expressions.{Exp}
use Rattle.posix.specs.Values.{Reads, reads_void, reads_byte, reads_right, reads_pair}
use Rattle.posix.specs.Decision.{Parsed, found, missing, parse}
use Rattle.posix.specs.Ranking.{rank}
use Rattle.posix.specs.Bench.{Case, reads_as, ranks_as, computed, stated, cases, Meaning, T2, G-rival}
use Rattle.posix.proofs.Parse.{parse-sound, parse-missing}
use Rattle.posix.proofs.Ranks.{rank-view}

-- every case comes out as it is stated
pub cases-hold : map computed cases ≡ map stated cases
cases-hold = refl

-- lists that two functions make alike are made alike at each member
pub map_same :
    {A B : Type 0} (f g : A → B) (xs : List A) → map f xs ≡ map g xs → (x : A) → Memᴰ x xs → f x ≡ g x
map_same f g [] e x m = absurd (Memᴰ.not-nil m)
map_same f g (y ∷ xs) e x m =
    ⊎_elim (λ (p : x ≡ y). rw p (cc)) (λ n. map_same f g xs (cc) x n) (Memᴰ.cases_cons m)

reading-means : (r : Exp) (s : List ℕ) (p : Parsed) → parse r s ≡ p → Meaning (reads_as r s p)
reading-means r s (found v) e = parse-sound r s v e
reading-means r s missing e = parse-missing r s e

case-means : (c : Case) → computed c ≡ stated c → Meaning c
case-means (reads_as r s p) e = reading-means r s p (cc)
case-means (ranks_as r v w d) e = λ p q f. let k : rank v w ≡ d = cc in rw k at (rank-view p q f)

-- each case is true of the relation and of the precedence
pub cases-mean : (c : Case) → Memᴰ c cases → Meaning c
cases-mean c m = case-means c (map_same computed stated cases cases-hold c m)

-- case G's rival is a reading of T2
pub G-rival-reads : Reads T2 G-rival
G-rival-reads = reads_pair (reads_right reads_void) (reads_right (reads_pair (reads_byte refl) (reads_byte refl)))
