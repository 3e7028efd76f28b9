-- The tests in front of an answer: each lets every answer on, or gives one refusal whatever the answer. For a live line they are 1 to 6, 9 and 7.
-- Assumes nothing.
use Prim.Native.Nat.{ℕ, ◌≤◌}
use native.Mathlib.Omega.{arith}
use borrow.Author.Tests.{le-ltb, ltb-false}
use mathlib.Core.Path.{◌≡◌, refl, sym, ◌∙◌, ap}
use mathlib.Core.Bool.{Bool, true, false, not}
use mathlib.Core.List.{List}
use lib.Dec.{ltb}
use lib.ListN.{take}
use Rattle.table.specs.declared.Refusal.{Refusal}
use Rattle.std.specs.Prelude.{Result, Ok, Err}
use Rattle.table.specs.Records.{count}
use Rattle.table.specs.Answers.{Said, gives, refuses, refusal, rules_say}
use Rattle.table.specs.Checked.{or_else, checked}
use Rattle.reading.specs.Calls.{if_passed, if_start}
use Rattle.reading.proofs.Admission.{Admitted, or-gives, start_gives, refusal-numbers}
use Rattle.live.specs.Calls.{if_held}

-- what a test makes of every answer
pub data Gate (f : Said → Said) : Type 0 where
  opens : ((said : Said) → f said ≡ said) → Gate f
  shuts : (n d : ℕ) → ((said : Said) → f said ≡ refuses n d) → Gate f

gate-or : (b : Bool) (n d : ℕ) → Gate (or_else b (refuses n d))
gate-or true n d = shuts n d (λ said. refl)
gate-or false n d = opens (λ said. refl)

gate-passed : (x : Said) → Gate (if_passed x)
gate-passed (gives m) = opens (λ said. refl)
gate-passed (refuses n d) = shuts n d (λ said. refl)

gate-both : (f g : Said → Said) → Gate f → Gate g → Gate (λ said. f (g said))
gate-both f g (opens h) (opens i) = opens (λ said. h (g said) ∙ i said)
gate-both f g (opens h) (shuts n d i) = shuts n d (λ said. h (g said) ∙ i said)
gate-both f g (shuts n d h) y = shuts n d (λ said. h (g said))

-- those of a table and a start number, and of a live line
pub gate-start : (t : List ℕ) (k : ℕ) → Gate (if_start t k)
gate-start t k =
    gate-both (if_passed (checked t)) (or_else (not (ltb k (count t))) (refuses 9 0)) (gate-passed (checked t)) (gate-or (not (ltb k (count t))) 9 0)

pub gate-held : (table : List ℕ) (size start n : ℕ) → Gate (if_held table size start n)
gate-held table size start n =
    gate-both (or_else (ltb 1020 size) (refuses 1 0)) (λ said. if_start (take size table) start (or_else (ltb 255 n) (refuses 7 0) said))
    (gate-or (ltb 1020 size) 1 0)
    (gate-both (if_start (take size table) start) (or_else (ltb 255 n) (refuses 7 0)) (gate-start (take size table) start) (gate-or (ltb 255 n) 7 0))

-- what refuses a result refuses every answer
pub gate-refuses : (f : Said → Said) → Gate f → (m n d : ℕ) → f (gives m) ≡ refuses n d → (said : Said) → f said ≡ refuses n d
gate-refuses f (opens h) m n d e said =
    let i : f (gives m) ≡ gives m = h (gives m) in
    let z : ◌≡◌ {A = ℕ} 0 1 = cc in
    absurd (omega arith)
gate-refuses f (shuts n' d' h) m n d e said = h said ∙ sym (h (gives m)) ∙ e

-- the fields of a live line that is not refused
pub record Ruled (table : List ℕ) (size start n : ℕ) : Type 0 where
  pub size_inside : size ≤ 1020
  pub admitted : Admitted (take size table) start
  pub count_inside : n ≤ 255

pub ruled-on : (table : List ℕ) (size start n : ℕ) → Ruled table size start n → (said : Said) → if_held table size start n said ≡ said
ruled-on table size start n r said =
    rw (le-ltb 1020 size r.size_inside) (r.admitted.said_on _ ∙ rw (le-ltb 255 n r.count_inside))

pub held_gives : (table : List ℕ) (size start n : ℕ) (said : Said) (m : ℕ) → if_held table size start n said ≡ gives m → Ruled table size start n
held_gives table size start n said m e =
    let rest : Said = or_else (ltb 255 n) (refuses 7 0) said in
    let a = or-gives (ltb 1020 size) 1 0 (if_start (take size table) start rest) m e in
    let admitted : Admitted (take size table) start = start_gives (take size table) start rest m a.1 in
    let b = or-gives (ltb 255 n) 7 0 said m (sym (admitted.said_on rest) ∙ a.1) in
    record { size_inside = ltb-false 1020 size a.0; admitted = admitted; count_inside = ltb-false 255 n b.0 }

-- the same of the answer that `rules` hands over
module _ (table : List ℕ) (size start n m : ℕ) (r : Result (List ℕ) Refusal) (e : rules_say r ≡ if_held table size start n (gives m)) where
  pub judged : (x : List ℕ) → r ≡ Ok x → Ruled table size start n
  judged x f = held_gives table size start n (gives m) (count x) (sym e ∙ ap rules_say f)

  pub not-judged : (why : Refusal) → r ≡ Err why → (said : Said) → refusal why ≡ if_held table size start n said
  not-judged why f said =
      let x : (n : ℕ) × (d : ℕ) × (refusal why ≡ refuses n d) = refusal-numbers why in
      x.2
      ∙ sym (gate-refuses (if_held table size start n) (gate-held table size start n) m x.0 x.1 (sym e ∙ ap rules_say f ∙ x.2) said)
