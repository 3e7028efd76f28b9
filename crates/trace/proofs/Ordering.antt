-- The verdict on an order of tokens as the 64-bit number that a C caller is given, and the lists that Tokens writes.
-- Assumes nothing.
use Prim.Native.Nat.{ℕ, zero, suc, ◌*◌, ◌%◌, ◌<◌}
use mathlib.Core.Path.{◌≡◌, refl, sym, ◌∙◌, ap, subst}
use mathlib.Core.Logic.{◌⊎◌, ⊎_elim}
use mathlib.Core.List.{List, [], ◌∷◌, map}
use native.Mathlib.Omega.{arith}
use lib.ListN.{length, get_or}
use Rattle.table.specs.Answers.{Said, gives, refuses, refusal}
use Rattle.table.specs.declared.Refusal.{Refusal}
use Rattle.reading.proofs.Admission.{refusal-numbers}
use Rattle.tokens.specs.Tokens.{Token, token_bytes}
use Rattle.tokens.proofs.Counts.{bytes_count}
use Rattle.order.specs.declared.Pair.{Pair}
use Rattle.std.specs.Prelude.{Result}
use Rattle.order.specs.declared.Verdict.{Verdict}
use Rattle.order.specs.Breaks.{token_count, name_at}
use Rattle.order.specs.Verdicts.{ordered, verdict_says, order_says}
use Rattle.order.proofs.Meaning.{order-gives, order-refuses}
use Rattle.trace.specs.Numbers.{Encodable, Small}

-- an encodable refusal is small
pub refusal-encodable : (why : Refusal) → Encodable (refusal why) → Small (refusal why)
refusal-encodable why h =
    let x : (n : ℕ) × (d : ℕ) × (refusal why ≡ refuses n d) = refusal-numbers why in
    subst (λ (said : Said). Small said) (sym x.2) (subst (λ (said : Said). Encodable said) x.2 h)

-- 17 and 18 without a detail are encodable
no-detail : (n d : ℕ) → ((n ≡ 17) ⊎ (n ≡ 18)) × (d ≡ 0) → Encodable (refuses n d)
no-detail n d h =
    ⊎_elim (λ (e : n ≡ 17). (omega arith, omega arith, (λ f. omega (arith, f)), omega (arith, h.1)))
    (λ (e : n ≡ 18). (omega arith, omega arith, (λ f. omega (arith, f)), omega (arith, h.1))) h.0

pub order-encodable : (ts : List ℕ) (ps : List Pair) → Encodable (order_says ts ps)
order-encodable ts ps = go (order_says ts ps) refl
  where
    go : (x : Said) → order_says ts ps ≡ x → Encodable x
    go (gives n) e = tt
    go (refuses n d) e = no-detail n d (order-refuses ts ps n d e)

pub small-order : (ts : List ℕ) (ps : List Pair) → token_count ts < 4294967296 → Small (order_says ts ps)
small-order ts ps h = go (order_says ts ps) refl
  where
    go : (x : Said) → order_says ts ps ≡ x → Small x
    go (gives n) e = omega (arith, order-gives ts ps n e)
    go (refuses n d) e = no-detail n d (order-refuses ts ps n d e)

-- the same of a verdict that is the order's
pub says-order : (ts : List ℕ) (ps : List Pair) {r : Result Verdict Refusal} → r ≡ ordered ts ps → verdict_says r ≡ order_says ts ps
unfolding order_says
says-order ts ps e = ap verdict_says e

-- what Tokens writes is a list of whole tokens, each with its tag as its name
pub bytes-tokens : (xs : List Token) → (length (token_bytes xs) % 3 ≡ 0) × (token_count (token_bytes xs) ≡ length xs)
bytes-tokens xs = (omega (arith, bytes_count xs), omega (arith, bytes_count xs))

pub bytes-names : (xs : List Token) (i : ℕ) → name_at (token_bytes xs) i ≡ get_or (map (λ (x : Token). x.tag) xs) i 0
bytes-names [] i = refl
bytes-names (x ∷ xs) zero = refl
bytes-names (x ∷ xs) (suc i) =
    let e : 3 * suc i ≡ suc (suc (suc (3 * i))) = omega arith in
    ap (λ (k : ℕ). get_or (token_bytes (x ∷ xs)) k 0) e ∙ bytes-names xs i
