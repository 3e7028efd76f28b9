-- The longest cut of a part gives the POSIX reading of Seq and of Star (document 01, "The relation"): what the walk from the work area to the
-- reading goes by.
-- Assumes nothing.
use Prim.Native.Nat.{ℕ, ◌+◌, ◌-◌, ◌≤◌, ◌<◌}
use mathlib.Core.Path.{◌≡◌, sym, ◌∙◌, ap}
use mathlib.Core.Bool.{true}
use mathlib.Core.List.{List, [], ◌++◌, append_assoc}
use native.Mathlib.Omega.{arith}
use lib.ListN.{length, length-append}
use Rattle.posix.specs.Expressions.{Exp, seq, star}
use Rattle.posix.specs.Values.{Val, pair, more}
use Rattle.posix.specs.Language.{L}
use Rattle.posix.specs.Relation.{Longest, Posix, posix-pair, posix-more}
use Rattle.posix.specs.Spells.{spells}
use Rattle.posix.proofs.Lists.{length-pos}
use Rattle.posix.proofs.Spells.{spells-sound, spells-complete}
use Rattle.posix.proofs.Parse.{posix-exists}
use Rattle.posix.proofs.Ahead.{posix-unique}
use Rattle.area.specs.Area.{part}
use Rattle.area.proofs.Parts.{part_length, part_cut, same-cut}

-- e1 is the largest cut of the first e of the last d bytes of s with its first part spelled by r1 and its rest by r2
pub record Largest (r1 r2 : Exp) (s : List ℕ) (d e e1 : ℕ) : Type 0 where
  pub inside : d ≤ length s
  pub size : e ≤ d
  pub cut : e1 ≤ e
  pub front : spells r1 (part s d e1) ≡ true
  pub back : spells r2 (part s (d - e1) (e - e1)) ≡ true
  pub none_larger :
      (f : ℕ) → e1 < f → f ≤ e → spells r1 (part s d f) ≡ true → spells r2 (part s (d - f) (e - f)) ≡ true → ⊥

-- the largest cut meets the relation's side condition
largest-longest : {r1 r2 : Exp} {s : List ℕ} {d e e1 : ℕ} → Largest r1 r2 s d e e1 → Longest (L r1) (L r2) (part s d e1) (part s (d - e1) (e - e1))
largest-longest {r1} {r2} {s} {d} {e} {e1} g s3 s4 j n a b =
    let p3 : 1 ≤ length s3 = length-pos s3 n in
    let l1 : length (part s d e1) ≡ e1 = part_length s d e1 g.inside (omega (arith, g.size, g.cut)) in
    let l2 : length (part s (d - e1) (e - e1)) ≡ e - e1 = part_length s (d - e1) (e - e1) (omega (arith, g.inside)) (omega (arith, g.size, g.cut)) in
    let l34 : e - e1 ≡ length s3 + length s4 = sym l2 ∙ ap length j ∙ length-append s3 s4 in
    let f : ℕ = e1 + length s3 in
    let fe : f ≤ e = omega (arith, g.cut) in
    let lf : length (part s d f) ≡ f = part_length s d f g.inside (omega (arith, g.size)) in
    let whole : (part s d e1 ++ s3) ++ s4 ≡ part s d f ++ part s (d - f) (e - f) =
    append_assoc (part s d e1) s3 s4 ∙ ap (λ (u : List ℕ). part s d e1 ++ u) (sym j)
    ∙ sym (part_cut s d e e1 g.inside g.size g.cut)
    ∙ part_cut s d e f g.inside g.size fe in
    let cut : (part s d e1 ++ s3 ≡ part s d f) × (s4 ≡ part s (d - f) (e - f)) =
    same-cut (part s d e1 ++ s3) s4 (part s d f) (part s (d - f) (e - f)) whole (length-append (part s d e1) s3 ∙ ap (λ (i : ℕ). i + length s3) l1 ∙ sym lf) in
    let a' : L r1 (part s d f) = rw cut.0 at a in
    let b' : L r2 (part s (d - f) (e - f)) = rw cut.1 at b in
    g.none_larger f (omega arith) fe (spells-complete r1 (part s d f) a') (spells-complete r2 (part s (d - f) (e - f)) b')

-- the reading of a part cut in two, and the readings of its two parts
pub record CutReading (f : Val → Val → Val) (r1 r2 : Exp) (s : List ℕ) (d e e1 : ℕ) (v : Val) : Type 0 where
  pub v1 : Val
  pub v2 : Val
  pub value : v ≡ f v1 v2
  pub first : Posix (part s d e1) r1 v1
  pub second : Posix (part s (d - e1) (e - e1)) r2 v2

-- a rule that makes the whole's reading from those of its longest cut
cut-reading :
    {r r1 r2 : Exp} {s : List ℕ} {d e e1 : ℕ} {v : Val} (f : Val → Val → Val) → Largest r1 r2 s d e e1
    → ((v1 v2 : Val) → part s d e ≡ part s d e1 ++ part s (d - e1) (e - e1) → Posix (part s d e1) r1 v1
    → Posix (part s (d - e1) (e - e1)) r2 v2
    → Longest (L r1) (L r2) (part s d e1) (part s (d - e1) (e - e1))
    → Posix (part s d e) r (f v1 v2))
    → Posix (part s d e) r v
    → CutReading f r1 r2 s d e e1 v
cut-reading {r} {r1} {r2} {s} {d} {e} {e1} {v} f g rule p =
    let x : (v1 : Val) × Posix (part s d e1) r1 v1 = posix-exists r1 (part s d e1) (spells-sound r1 (part s d e1) g.front) in
    let y : (v2 : Val) × Posix (part s (d - e1) (e - e1)) r2 v2 =
    posix-exists r2 (part s (d - e1) (e - e1)) (spells-sound r2 (part s (d - e1) (e - e1)) g.back) in
    record {
      v1 = x.0;
      v2 = y.0;
      value = posix-unique p (rule x.0 y.0 (part_cut s d e e1 g.inside g.size g.cut) x.1 y.1 (largest-longest g));
      first = x.1;
      second = y.1;
    }

-- Seq reads its longest cut
pub seq-reading :
    {r1 r2 : Exp} {s : List ℕ} {d e e1 : ℕ} {v : Val} → Largest r1 r2 s d e e1 → Posix (part s d e) (seq r1 r2) v
    → CutReading pair r1 r2 s d e e1 v
seq-reading {s = s} {d = d} {e = e} {e1 = e1} g p =
    cut-reading pair g (λ v1 v2 j a b l. posix-pair (part s d e1) (part s (d - e1) (e - e1)) j a b l) p

-- Star reads its longest first iteration
pub star-reading :
    {r : Exp} {s : List ℕ} {d e e1 : ℕ} {v : Val} → 1 ≤ e1 → Largest r (star r) s d e e1 → Posix (part s d e) (star r) v
    → CutReading more r (star r) s d e e1 v
star-reading {r = r} {s = s} {d = d} {e = e} {e1 = e1} l g p =
    cut-reading more g (λ v1 v2 j a b h. posix-more (part s d e1) (part s (d - e1) (e - e1)) j some a b h) p
  where
    some : ¬ (part s d e1 ≡ [])
    some z =
        let m : length (part s d e1) ≡ e1 = part_length s d e1 g.inside (omega (arith, g.size, g.cut)) in
        let o : length (part s d e1) ≡ 0 = ap length z in
        omega arith
