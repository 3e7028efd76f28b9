-- The answers of the calls on a live line as the 64-bit number that a C caller is given. They fit it: refusals 1 to 7, 9, 10 and 19, a table's record
-- count, and the two facts as a number below 4.
-- Assumes nothing.
use Prim.Native.Nat.{ℕ, ◌+◌, ◌*◌, ◌≤◌, ◌<◌}
use mathlib.Core.Path.{◌≡◌, refl, subst}
use mathlib.Core.Bool.{Bool, true, false}
use mathlib.Core.List.{List}
use native.Mathlib.Omega.{arith}
use lib.Dec.{leb, ltb, eqb}
use lib.ListN.{length, take}
use mir.Val.{bool_byte}
use Rattle.posix.specs.Spells.{spells}
use Rattle.posix.specs.Extends.{extends}
use Rattle.table.specs.Records.{count}
use Rattle.table.specs.Answers.{Said, gives, refuses, refusal, number}
use Rattle.table.specs.declared.Refusal.{Refusal}
use Rattle.table.specs.Expression.{exp_of}
use Rattle.table.proofs.Passing.{count-bound}
use Rattle.reading.proofs.Saying.{said_or}
use Rattle.matcher.specs.Calls.{work_size}
use Rattle.live.specs.declared.LiveLine.{LiveLine}
use Rattle.live.specs.declared.Facts.{Facts}
use Rattle.std.specs.Prelude.{Result, Ok, Err}
use Rattle.live.specs.Lines.{table_of, bytes_of, lengthened, shortened}
use Rattle.live.specs.Calls.{facts_number, heard_says, new_says, if_held, line_says, add_says, take_back_says}
use Rattle.trace.specs.Numbers.{Small}
use Rattle.trace.proofs.Bounds.{small-start}

-- a bool as a byte
pub byte-bound : (b : Bool) → bool_byte b ≤ 1
byte-bound true = omega arith
byte-bound false = omega arith

-- the number of the facts that a call tells, and the refusal that it tells
facts-number : (reads extended : Bool) → bool_byte reads + 2 * bool_byte extended ≡ facts_number reads extended
facts-number true true = refl
facts-number true false = refl
facts-number false true = refl
facts-number false false = refl

pub known-number : (heard : Result Facts Refusal) (f : Facts) → heard ≡ Ok f → bool_byte f.reads + 2 * bool_byte f.extends ≡ number (heard_says heard)
known-number heard f e = rw e (facts-number f.reads f.extends)

pub refused-small : (heard : Result Facts Refusal) (why : Refusal) → heard ≡ Err why → Small (heard_says heard) → Small (refusal why)
refused-small heard why e h = subst (λ (x : Result Facts Refusal). Small (heard_says x)) e h

-- two facts
facts-small : (reads extended : Bool) → facts_number reads extended < 4294967296
facts-small true true = omega arith
facts-small true false = omega arith
facts-small false true = omega arith
facts-small false false = omega arith

-- a live line that is filled by hand, and then a small answer
held_small : (table : List ℕ) (size start n : ℕ) (said : Said) → Small said → Small (if_held table size start n said)
held_small table size start n said h =
    said_or Small (ltb 1020 size) (refuses 1 0) _ (omega arith, omega arith, (λ e. omega arith), omega arith)
    (λ _. small-start (take size table) start _
    (λ p l. said_or Small (ltb 255 n) (refuses 7 0) said (omega arith, omega arith, (λ e. omega arith), omega arith) (λ _. h)))

-- the facts of a live line, or 10
line_small : (h : LiveLine) (work : ℕ) → Small (line_says h work)
line_small h work =
    said_or Small (ltb work (work_size (count (table_of h)) (length (bytes_of h)))) (refuses 10 0) _ (omega arith, omega arith, (λ e. omega arith), omega arith)
    (λ _. facts-small (spells (exp_of (table_of h) h.start) (bytes_of h)) (extends (exp_of (table_of h) h.start) (bytes_of h)))

-- the constructor's answer
pub new-small : (t : List ℕ) (k : ℕ) → Small (new_says t k)
unfolding new_says
new-small t k = small-start t k (gives (count t)) (λ p l. omega (arith, (count-bound t p).1))

-- Add's
pub add_small : (h : LiveLine) (c work : ℕ) → Small (add_says h c work)
unfolding add_says
add_small h c work =
    held_small h.table h.size h.start h.count _
    (said_or Small (leb 255 h.count) (refuses 7 0) _ (omega arith, omega arith, (λ e. omega arith), omega arith) (λ _. line_small (lengthened h c) work))

-- Take back's
pub take-back-small : (h : LiveLine) (work : ℕ) → Small (take_back_says h work)
unfolding take_back_says
take-back-small h work =
    held_small h.table h.size h.start h.count _
    (said_or Small (eqb h.count 0) (refuses 19 0) _ (omega arith, omega arith, (λ e. omega arith), omega arith) (λ _. line_small (shortened h) work))
