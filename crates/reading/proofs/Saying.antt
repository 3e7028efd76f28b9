-- What holds of an answer whatever the call is lent: each test's refusal, and what is said behind the last one. And where no answer is 11.
-- Assumes nothing.
use Prim.Native.Nat.{ℕ, zero, suc, ◌≤◌, ◌<◌}
use mathlib.Core.Path.{◌≡◌, refl}
use mathlib.Core.Bool.{Bool, true, false, not, false≢true}
use mathlib.Core.List.{List}
use native.Mathlib.Omega.{arith}
use borrow.Author.Tests.{ltb-true, le-ltb, not-false}
use lib.Dec.{ltb}
use lib.ListN.{length}
use Rattle.table.specs.Records.{count}
use Rattle.table.specs.Faults.{Passes, fault}
use Rattle.table.specs.Answers.{Said, gives, refuses}
use Rattle.table.specs.Checked.{or_else, checked, RefusedFor, of_size, of_record}
use Rattle.table.proofs.Checking.{check-gives, check-refuses}
use Rattle.table.specs.Buffers.{if_room}
use Rattle.reading.specs.Calls.{if_passed, if_start}

-- either of two
pub said_or : (P : Said → Type 0) (b : Bool) (x y : Said) → P x → (b ≡ false → P y) → P (or_else b x y)
said_or P true x y h g = h
said_or P false x y h g = g refl

-- the answers of the calls that take a start number
pub said-start :
    (P : Said → Type 0) (t : List ℕ) (k : ℕ) (said : Said) → ((n d : ℕ) → RefusedFor t n d → P (refuses n d)) → P (refuses 9 0)
    → (Passes t → k < count t → P said)
    → P (if_start t k said)
said-start P t k said r s h = go (checked t) refl
  where
    go : (c : Said) → checked t ≡ c → P (if_passed c (or_else (not (ltb k (count t))) (refuses 9 0) said))
    go (gives m) e =
        said_or P (not (ltb k (count t))) (refuses 9 0) said s
        (λ f. h (check-gives t m e).0 (ltb-true k (count t) (not-false (ltb k (count t)) f)))
    go (refuses n d) e = r n d (check-refuses t n d e)

-- a fault's number is one of 2 to 6, and a table's refusal has one of 1 to 6
fault-number : (n : ℕ) (t : List ℕ) (k : ℕ) → fault n t k ≡ true → (2 ≤ n) × (n ≤ 6)
fault-number zero t k e = absurd (false≢true e)
fault-number (suc zero) t k e = absurd (false≢true e)
fault-number (suc (suc zero)) t k e = (omega arith, omega arith)
fault-number (suc (suc (suc zero))) t k e = (omega arith, omega arith)
fault-number (suc (suc (suc (suc zero)))) t k e = (omega arith, omega arith)
fault-number (suc (suc (suc (suc (suc zero))))) t k e = (omega arith, omega arith)
fault-number (suc (suc (suc (suc (suc (suc zero)))))) t k e = (omega arith, omega arith)
fault-number (suc (suc (suc (suc (suc (suc (suc n))))))) t k e = absurd (false≢true e)

pub table-number : (t : List ℕ) (n d : ℕ) → RefusedFor t n d → (1 ≤ n) × (n ≤ 6)
table-number t n d (of_size p q b) = (omega arith, omega arith)
table-number t n d (of_record f) = (omega (arith, fault-number n t d f.found), omega (arith, fault-number n t d f.found))

-- no 11
abbrev pub NotBuffer : Said → Type 0
NotBuffer said = (d : ℕ) → ¬ (said ≡ refuses 11 d)

pub not-buffer : (n d : ℕ) → ¬ (n ≡ 11) → NotBuffer (refuses n d)
not-buffer n d f e g = f cc

pub start-not-buffer : (t : List ℕ) (k : ℕ) (said : Said) → (Passes t → k < count t → NotBuffer said) → NotBuffer (if_start t k said)
start-not-buffer t k said h =
    said-start NotBuffer t k said (λ n d x. not-buffer n d (omega (arith, table-number t n d x))) (not-buffer 9 0 (omega arith)) h

pub room-not-buffer : (room : ℕ) (bytes : List ℕ) (n : ℕ) → length bytes ≤ room → NotBuffer (if_room room bytes n)
room-not-buffer room bytes n h d = rw (le-ltb room (length bytes) h) (λ e. let z : ◌≡◌ {A = ℕ} 0 1 = cc in omega arith)
