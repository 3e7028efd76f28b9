-- A refusal's number and detail fit the number that they make up; and no two answers of the allowed size have one number.
-- Assumes nothing.
use Prim.Native.Nat.{ℕ, ◌+◌, ◌*◌}
use mathlib.Core.Path.{◌≡◌, sym, ap, ap₂, subst}
use native.Mathlib.Omega.{arith}
use Rattle.table.specs.Answers.{Said, gives, refuses, refusal, number_in, detail_in, number}
use Rattle.table.proofs.Refusals.{refusal-shown}
use Rattle.table.specs.declared.Refusal.{Refusal}
use Rattle.trace.specs.Numbers.{Small}

-- a refusal's number and detail are small where it is
pub refusal-small : (why : Refusal) → Small (refusal why) → Small (refuses (number_in (refusal why)) (detail_in (refusal why)))
refusal-small why s = subst (λ (x : Said). Small x) (sym (refusal-shown why)) s

-- two answers of the allowed size with one number are one answer
pub same_number : (x y : Said) → Small x → Small y → number x ≡ number y → x ≡ y
same_number (gives m) (gives n) h g e = ap gives e
same_number (gives m) (refuses n d) h g e = absurd (omega arith)
same_number (refuses n d) (gives m) h g e = absurd (omega arith)
same_number (refuses n d) (refuses m c) h g e =
    let numbers : n ≡ m = omega arith in let details : d ≡ c = omega arith in ap₂ refuses numbers details
