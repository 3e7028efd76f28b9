-- A test on two alternatives of which the answer is yes: no line is spelled by both.
-- Assumes nothing.
use Prim.Native.Nat.{ℕ, zero, suc, ◌-◌, ◌≤◌, ◌<◌}
use native.Mathlib.Omega.{arith}
use native.Mathlib.Nat.{eq-or-lt_of_le}
use mathlib.Core.Path.{◌≡◌, refl, sym, ◌∙◌}
use mathlib.Core.Logic.{⊎_elim}
use mathlib.Core.Bool.{Bool, true, false, not, true≢false, ◌&&◌, ◌||◌}
use mathlib.Core.List.{List, [], ◌∷◌}
use lib.ListN.{length, get_or}
use Rattle.posix.specs.Expressions.{Exp}
use Rattle.posix.specs.Language.{L}
use Rattle.posix.specs.Spells.{spells}
use Rattle.posix.proofs.Spells.{either, each, spells-complete}
use Rattle.posix.proofs.Bytes.{spelled-bytes}
use Rattle.table.specs.Records.{count, a_at, b_at, is_or}
use Rattle.table.specs.Expression.{exp_of}
use Rattle.edges.specs.Edges.{edge}
use Rattle.edges.proofs.Edges.{first-missing, last-missing}
use Rattle.reorder.specs.Exchanges.{Apart}
use Rattle.reorder.specs.Tests.{none_shared, edges_apart, seen_apart}

not-both : (a b : Bool) → not (a && b) ≡ true → a ≡ true → b ≡ true → ⊥
not-both true true h e f = true≢false (sym h)
not-both true false h e f = true≢false (sym f)
not-both false b h e f = true≢false (sym e)

-- no number below n is shared
none-shared :
    (back : Bool) (r1 r2 : Exp) (n c : ℕ) → none_shared back r1 r2 n ≡ true → c < n → edge back r1 c ≡ true → edge back r2 c ≡ true → ⊥
none-shared back r1 r2 zero c h l e f = omega arith
none-shared back r1 r2 (suc n) c h l e f =
    let p = each (not (edge back r1 n && edge back r2 n)) (none_shared back r1 r2 n) h in
    ⊎_elim
    (λ (q : suc c ≡ suc n).
    let same : c ≡ n = omega arith in
    not-both (edge back r1 n) (edge back r2 n) p.0 (rw same at e) (rw same at f))
    (λ (q : suc c < suc n). none-shared back r1 r2 n c p.1 (omega arith) e f)
    (eq-or-lt_of_le l)

-- what is spelled is not missing
not-missing : (x y : Bool) → (x ≡ false → y ≡ false) → y ≡ true → x ≡ true
not-missing true y f e = refl
not-missing false y f e = absurd (true≢false (sym e ∙ f refl))

-- the byte at one edge of a line of both
shared-edge :
    (back : Bool) (r1 r2 : Exp) (s : List ℕ) (i : ℕ) → i < length s
    → ((r : Exp) → edge back r (get_or s i 0) ≡ false → spells r s ≡ false)
    → none_shared back r1 r2 256 ≡ true → L r1 s → L r2 s → ⊥
shared-edge back r1 r2 s i l f h a b =
    none-shared back r1 r2 256 (get_or s i 0) h (spelled-bytes r1 s a i l)
    (not-missing (edge back r1 (get_or s i 0)) (spells r1 s) (f r1) (spells-complete r1 s a))
    (not-missing (edge back r2 (get_or s i 0)) (spells r2 s) (f r2) (spells-complete r2 s b))

-- a test of which the answer is yes: no line is spelled by both
pub edges-apart : (r1 r2 : Exp) → edges_apart r1 r2 ≡ true → (s : List ℕ) → L r1 s → L r2 s → ⊥
edges-apart r1 r2 h [] a b =
    not-both (spells r1 []) (spells r2 [])
    (each (not (spells r1 [] && spells r2 [])) (none_shared false r1 r2 256 || none_shared true r1 r2 256) h).0
    (spells-complete r1 [] a) (spells-complete r2 [] b)
edges-apart r1 r2 h (c ∷ s) a b =
    let some : 1 ≤ length (c ∷ s) = omega arith in
    ⊎_elim
    (λ (q : none_shared false r1 r2 256 ≡ true). shared-edge false r1 r2 (c ∷ s) 0 some (λ r. first-missing r (c ∷ s) some) q a b)
    (λ (q : none_shared true r1 r2 256 ≡ true).
    shared-edge true r1 r2 (c ∷ s) (length (c ∷ s) - 1) (omega arith) (λ r. last-missing r (c ∷ s) some) q a b)
    (either (none_shared false r1 r2 256) (none_shared true r1 r2 256)
    (each (not (spells r1 [] && spells r2 [])) (none_shared false r1 r2 256 || none_shared true r1 r2 256) h).1)

pub seen_apart_lem : (t : List ℕ) (k : ℕ) → k < count t → seen_apart t k ≡ true → Apart t k
seen_apart_lem t k l h =
    let p = each (is_or t k) (edges_apart (exp_of t (a_at t k)) (exp_of t (b_at t k))) h in
    record {
      or_record = record { inside = l; of_kind_or = p.0 };
      share_none = λ s n. edges-apart (exp_of t (a_at t k)) (exp_of t (b_at t k)) p.1 s;
    }
