-- The table and the start number, which every call tests first: refusals 1 to 6, then 9.
-- Assumes nothing.
use Prim.Native.Nat.{ℕ, ◌≤◌, ◌<◌}
use mathlib.Core.Path.{◌≡◌, refl, sym, ◌∙◌, ap}
use mathlib.Core.Bool.{Bool, true, false, not}
use mathlib.Core.List.{List}
use native.Mathlib.Omega.{arith}
use borrow.Author.Tests.{lt-ltb, le-ltb, ltb-true, not-false}
use lib.Dec.{ltb}
use Rattle.table.specs.declared.Refusal.{Refusal}
use Rattle.table.specs.declared.Refusal.TheVariants.{Size, Kind, Unused, Bounds, Child, Named, Line, NoReading, Start, Work, Buffer, Unfit, Differ, Text, Records, Pairs, TokenBytes, EmptyLine, Lines}
use Rattle.std.specs.Prelude.{Result, Ok, Err, IfOk}
use Rattle.std.proofs.lemmas.Result.{IfOk-at_ok}
use Rattle.table.specs.Records.{count}
use Rattle.table.specs.Faults.{Passes}
use Rattle.table.specs.Answers.{Said, gives, refuses, refusal, rules_say}
use Rattle.table.specs.Checked.{or_else, checked}
use Rattle.table.proofs.Checking.{check-gives, check-passes}
use Rattle.reading.specs.Calls.{if_passed, if_start}

-- a table that passes and has the start record: what is said is said
pub record Admitted (t : List ℕ) (k : ℕ) : Type 0 where
  pub passes : Passes t
  pub inside : k < count t
  pub said_on : (said : Said) → if_start t k said ≡ said

pub start_inside : (t : List ℕ) (k : ℕ) → Passes t → k < count t → Admitted t k
start_inside t k p l = record { passes = p; inside = l; said_on = λ said. rw (check-passes t p, lt-ltb k (count t) l) }

-- where the answer is a result, nothing was refused
pub or-gives : (b : Bool) (n d : ℕ) (said : Said) (m : ℕ) → or_else b (refuses n d) said ≡ gives m → (b ≡ false) × (said ≡ gives m)
or-gives true n d said m e = let z : ◌≡◌ {A = ℕ} 0 1 = cc in absurd (omega arith)
or-gives false n d said m e = (refl, e)

pub start_gives : (t : List ℕ) (k : ℕ) (said : Said) (m : ℕ) → if_start t k said ≡ gives m → Admitted t k
start_gives t k said m e = go (checked t) refl e
  where
    go : (x : Said) → checked t ≡ x → if_passed x (or_else (not (ltb k (count t))) (refuses 9 0) said) ≡ gives m → Admitted t k
    go (gives n) f g =
        start_inside t k (check-gives t n f).0
        (ltb-true k (count t) (not-false (ltb k (count t)) (or-gives (not (ltb k (count t))) 9 0 said m g).0))
    go (refuses n d) f g = let z : ◌≡◌ {A = ℕ} 0 1 = cc in absurd (omega arith)

else-refuses :
    (b : Bool) (n' d' m n d : ℕ) → or_else (not b) (refuses n' d') (gives m) ≡ refuses n d
    → (said : Said) → or_else (not b) (refuses n' d') said ≡ refuses n d
else-refuses true n' d' m n d e said = let z : ◌≡◌ {A = ℕ} 0 1 = cc in absurd (omega arith)
else-refuses false n' d' m n d e said = e

passed-refuses :
    (x : Said) (b : Bool) (m n d : ℕ) → if_passed x (or_else (not b) (refuses 9 0) (gives m)) ≡ refuses n d
    → (said : Said) → if_passed x (or_else (not b) (refuses 9 0) said) ≡ refuses n d
passed-refuses (gives i) b m n d e said = else-refuses b 9 0 m n d e said
passed-refuses (refuses i j) b m n d e said = e

-- where the answer is a refusal, it is so whatever is said of other tables and start numbers
pub admit-refuses :
    (t : List ℕ) (k n d : ℕ) → if_start t k (gives (count t)) ≡ refuses n d → (said : Said) → if_start t k said ≡ refuses n d
admit-refuses t k n d = passed-refuses (checked t) (ltb k (count t)) (count t) n d

-- a refusal has a number and a detail
pub refusal-numbers : (why : Refusal) → (n : ℕ) × (d : ℕ) × (refusal why ≡ refuses n d)
refusal-numbers Size = (1, 0, refl)
refusal-numbers (Kind k) = (2, k, refl)
refusal-numbers (Unused k) = (3, k, refl)
refusal-numbers (Bounds k) = (4, k, refl)
refusal-numbers (Child k) = (5, k, refl)
refusal-numbers (Named k) = (6, k, refl)
refusal-numbers Line = (7, 0, refl)
refusal-numbers NoReading = (8, 0, refl)
refusal-numbers Start = (9, 0, refl)
refusal-numbers Work = (10, 0, refl)
refusal-numbers (Buffer n) = (11, n, refl)
refusal-numbers (Unfit i) = (12, i, refl)
refusal-numbers Differ = (14, 0, refl)
refusal-numbers Text = (15, 0, refl)
refusal-numbers Records = (16, 0, refl)
refusal-numbers Pairs = (17, 0, refl)
refusal-numbers TokenBytes = (18, 0, refl)
refusal-numbers EmptyLine = (19, 0, refl)
refusal-numbers Lines = (20, 0, refl)

-- the same of the answer that `admit` hands over
pub admitted :
    (t : List ℕ) (k : ℕ) (r : Result (List ℕ) Refusal) (x : List ℕ) → rules_say r ≡ if_start t k (gives (count t)) → r ≡ Ok x → Admitted t k
admitted t k r x e f = start_gives t k (gives (count t)) (count x) (sym e ∙ ap rules_say f)

pub not-admitted :
    (t : List ℕ) (k : ℕ) (r : Result (List ℕ) Refusal) (why : Refusal) → rules_say r ≡ if_start t k (gives (count t)) → r ≡ Err why
    → (said : Said) → refusal why ≡ if_start t k said
not-admitted t k r why e f said =
    let x : (n : ℕ) × (d : ℕ) × (refusal why ≡ refuses n d) = refusal-numbers why in
    x.2 ∙ sym (admit-refuses t k x.0 x.1 (sym e ∙ ap rules_say f ∙ x.2) said)

-- the three ways out of `admit`, after Check's answer r
pub admit-done :
    (t : List ℕ) (k : ℕ) (r : Result (List ℕ) Refusal) (x : List ℕ) → rules_say r ≡ checked t → r ≡ Ok x → x ≡ t → k < count x
    → gives (count x) ≡ if_start t k (gives (count t))
admit-done t k r x e f g l =
    let h : checked t ≡ gives (count x) = sym e ∙ ap rules_say f in
    rw g (sym ((start_inside t k (check-gives t (count x) h).0 (rw g at l)).said_on (gives (count t))))

pub admit-start :
    (t : List ℕ) (k : ℕ) (r : Result (List ℕ) Refusal) (x : List ℕ) → rules_say r ≡ checked t → r ≡ Ok x → x ≡ t → count x ≤ k
    → refuses 9 0 ≡ if_start t k (gives (count t))
admit-start t k r x e f g l =
    let h : checked t ≡ gives (count x) = sym e ∙ ap rules_say f in
    let m : count t ≤ k = rw g at l in
    rw (h, le-ltb k (count t) m)

pub admit-table :
    (t : List ℕ) (k : ℕ) (r : Result (List ℕ) Refusal) (why : Refusal) → rules_say r ≡ checked t → r ≡ Err why
    → refusal why ≡ if_start t k (gives (count t))
admit-table t k r why e f =
    let x : (n : ℕ) × (d : ℕ) × (refusal why ≡ refuses n d) = refusal-numbers why in
    let g : checked t ≡ refuses x.0 x.1 = sym e ∙ ap rules_say f ∙ x.2 in
    x.2 ∙ rw g

-- what a call has that `admit` let in: the rules x are the table that it was lent
pub record Lent (t : List ℕ) (k : ℕ) (x : List ℕ) : Type 0 where
  pub same : x ≡ t
  pub given : Admitted t k

pub lent :
    {t : List ℕ} {k : ℕ} {r : Result (List ℕ) Refusal} {x : List ℕ} → rules_say r ≡ if_start t k (gives (count t)) → IfOk r (λ y. y ≡ t) → r ≡ Ok x
    → Lent t k x
lent e f g = record { same = IfOk-at_ok _ g f; given = admitted _ _ _ _ e g }
