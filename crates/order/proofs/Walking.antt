-- Laws of the walk over the tokens: the set of the names seen.
-- Assumes nothing.
use Prim.Native.Nat.{ℕ, zero, suc, ◌+◌, ◌/◌, ◌%◌, ◌^◌}
use native.Mathlib.Nat.{zero-div}
use native.Mathlib.Numerals.{add-one}
use native.Mathlib.Omega.{arith}
use mathlib.Core.Path.{◌≡◌, refl, sym, ap, ◌∙◌}
use mathlib.Core.Logic.{⊎_elim}
use mathlib.Core.Bool.{Bool, true, false, ◌||◌, true≢false}
use mathlib.Core.List.{List, [], ◌∷◌}
use lib.Dec.{eqb}
use lib.ListN.{length, get_or, replicate}
use borrow.Author.Count.{below_more}
use borrow.Author.Tests.{eqb-true, eq-eqb}
use Rattle.table.proofs.Passing.{or-true, or-true-left, or_true_right}
use Rattle.marks.specs.Marks.{marked, MarkedToo}
use Rattle.marks.proofs.Laws.{unmarked-bit}
use Rattle.order.specs.declared.Pair.{Pair}
use Rattle.order.specs.Breaks.{name_at, Breaks, earlier, breaks_some}
use Rattle.order.specs.Steps.{lacks}
use Rattle.order.proofs.Breaking.{Free, alike, untrue, earlier-at, some-breaks, breaks-some}

-- the marks are the names before token i
abbrev pub Seen : List ℕ → ℕ → List ℕ → Type 0
Seen ts i ws = (x : ℕ) → marked ws x ≡ earlier ts i x

zeros : (n k : ℕ) → ◌≡◌ {A = ℕ} (get_or (replicate n 0) k 0) 0
zeros zero k = refl
zeros (suc n) zero = refl
zeros (suc n) (suc k) = zeros n k

seen_none : (ts : List ℕ) → Seen ts 0 (replicate 4 0)
seen_none ts x =
    unmarked-bit (replicate 4 0) x (rw (zeros 4 (x / 64)) (ap (λ (n : ℕ). n % 2) (zero-div (2 ^ (x % 64)))))

-- where token i's name is marked already, and where it is marked now
seen-again : (ts : List ℕ) (i : ℕ) (ws : List ℕ) → Seen ts i ws → earlier ts i (name_at ts i) ≡ true → Seen ts (i + 1) ws
seen-again ts i ws s e x = s x ∙ rw add-one (same (eqb (name_at ts i) x) refl)
  where
    same : (b : Bool) → eqb (name_at ts i) x ≡ b → earlier ts i x ≡ (b || earlier ts i x)
    same true q = rw (← eqb-true (name_at ts i) x q) e
    same false q = refl

seen_more : (ts : List ℕ) (i : ℕ) (ws ws' : List ℕ) → Seen ts i ws → MarkedToo (name_at ts i) ws ws' → Seen ts (i + 1) ws'
seen_more ts i ws ws' s m x = rw add-one (alike (marked ws' x) (earlier ts (suc i) x) to from)
  where
    to : marked ws' x ≡ true → earlier ts (suc i) x ≡ true
    to e =
        ⊎_elim
        (λ (q : x ≡ name_at ts i). or-true-left (eqb (name_at ts i) x) (earlier ts i x) (eq-eqb (name_at ts i) x (sym q)))
        (λ (q : marked ws x ≡ true). or_true_right (eqb (name_at ts i) x) (earlier ts i x) (sym (s x) ∙ q))
        (m.only x e)

    from : earlier ts (suc i) x ≡ true → marked ws' x ≡ true
    from e =
        ⊎_elim
        (λ (q : eqb (name_at ts i) x ≡ true). rw (eqb-true (name_at ts i) x q) at (m.new (name_at ts i) refl))
        (λ (q : earlier ts i x ≡ true). m.kept x (s x ∙ q))
        (or-true (eqb (name_at ts i) x) (earlier ts i x) e)

-- what is known at token i: the names before it, and that no token before it breaks a pair
pub record Passed (ts : List ℕ) (ps : List Pair) (i : ℕ) (ws : List ℕ) : Type 0 where
  pub words : length ws ≡ 4
  pub seen : Seen ts i ws
  pub free : Free ts ps i

pub passed_none : (ts : List ℕ) (ps : List Pair) → Passed ts ps 0 (replicate 4 0)
passed_none ts ps = record { words = refl; seen = seen_none ts; free = λ j l. absurd (omega arith) }

-- a name whose earlier tokens break no pair breaks none
again-free : (ts : List ℕ) (ps : List Pair) (i : ℕ) → earlier ts i (name_at ts i) ≡ true → Free ts ps i → breaks_some ts ps i ≡ false
again-free ts ps i e f =
    untrue (breaks_some ts ps i)
    (λ q.
    let (p, a, b) = some-breaks ts ps i q in
    let (j, l, n) = earlier-at ts i (name_at ts i) e in
    let c : Breaks ts p j = record { named = n ∙ b.named; without = λ k m. b.without k (omega arith) } in
    true≢false (sym (breaks-some ts ps j p a c) ∙ f j l))

pub passed-again : (ts : List ℕ) (ps : List Pair) (i : ℕ) (ws : List ℕ) → Passed ts ps i ws
    → marked ws (name_at ts i) ≡ true → Passed ts ps (i + 1) ws
passed-again ts ps i ws p m =
    let e : earlier ts i (name_at ts i) ≡ true = sym (p.seen (name_at ts i)) ∙ m in
    record {
      words = p.words;
      seen = seen-again ts i ws p.seen e;
      free = below_more (λ (j : ℕ). breaks_some ts ps j ≡ false) i p.free (again-free ts ps i e p.free);
    }

pub passed-more : (ts : List ℕ) (ps : List Pair) (i : ℕ) (ws ws' : List ℕ) → Passed ts ps i ws → MarkedToo (name_at ts i) ws ws'
    → breaks_some ts ps i ≡ false → Passed ts ps (i + 1) ws'
passed-more ts ps i ws ws' p m e =
    record {
      words = m.size ∙ p.words;
      seen = seen_more ts i ws ws' p.seen m;
      free = below_more (λ (j : ℕ). breaks_some ts ps j ≡ false) i p.free e;
    }

-- by the names before token i, its own name lacks a first name where it breaks a pair
breaks-lacks : (ts : List ℕ) (i : ℕ) (ws : List ℕ) (ps : List Pair) → Seen ts i ws
    → breaks_some ts ps i ≡ lacks (marked ws) (name_at ts i) ps
breaks-lacks ts i ws [] s = refl
breaks-lacks ts i ws (p ∷ ps) s = rw (s p.first, breaks-lacks ts i ws ps s)

pub breaks-as : (ts : List ℕ) (i : ℕ) (ws : List ℕ) (ps : List Pair) → Seen ts i ws → {r b : Bool}
    → r ≡ lacks (marked ws) (name_at ts i) ps → r ≡ b → breaks_some ts ps i ≡ b
breaks-as ts i ws ps s e f = breaks-lacks ts i ws ps s ∙ sym e ∙ f
