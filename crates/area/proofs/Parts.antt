-- Laws of the area's parts of the line: their length, parts of the bytes from one of the line's bytes on, and a part cut in two.
-- Assumes nothing.
use Prim.Native.Nat.{ℕ, ◌+◌, ◌-◌, ◌≤◌, ◌<◌}
use native.Mathlib.Nat.{sub_self}
use native.Mathlib.Omega.{arith}
use mathlib.Core.Path.{◌≡◌, refl, sym, ap, ◌∙◌}
use mathlib.Core.List.{List, [], ◌∷◌, ◌++◌}
use lib.ListN.{length, get_or, take, drop, length-drop}
use lib.Seq.{length-take-le, take-add, drop-drop, drop-cons, take_at, drop_at, take-length}
use Rattle.area.specs.Area.{part}

pub part_length : (s : List ℕ) (d e : ℕ) → d ≤ length s → e ≤ d → length (part s d e) ≡ e
unfolding part
part_length s d e l h =
    length-take-le e (drop (length s - d) s)
    (let n : length (drop (length s - d) s) ≡ d = length-drop (length s - d) s ∙ omega arith in omega arith)

-- the first e bytes
pub part-whole : (s : List ℕ) (e : ℕ) → part s (length s) e ≡ take e s
unfolding part
part-whole s e = rw (sub_self (length s))

-- the e bytes behind c
pub part-later : (s : List ℕ) (c e : ℕ) → c ≤ length s → part s (length s - c) e ≡ take e (drop c s)
unfolding part
part-later s c e l = let place : length s - (length s - c) ≡ c = omega arith in rw place

-- a part of no byte
pub part_none : (s : List ℕ) (d : ℕ) → part s d 0 ≡ []
unfolding part
part_none s d = refl

-- the bytes before the part's start have no part in it
pub part-tail : (s : List ℕ) (c e : ℕ) → c < length s → part s c e ≡ part (drop 1 s) c e
unfolding part
part-tail s c e l =
    let n : length (drop 1 s) ≡ length s - 1 = length-drop 1 s in
    let place : length (drop 1 s) - c + 1 ≡ length s - c = omega arith in
    sym (ap (λ (u : List ℕ). take e u) (drop-drop (length (drop 1 s) - c) 1 s) ∙ ap (λ (i : ℕ). take e (drop i s)) (sum place))
  where
    sum : length (drop 1 s) - c + 1 ≡ length s - c → 1 + (length (drop 1 s) - c) ≡ length s - c
    sum p = omega arith

-- the part of one byte
pub part-one : (s : List ℕ) (d : ℕ) → 1 ≤ d → d ≤ length s → part s d 1 ≡ get_or s (length s - d) 0 ∷ []
unfolding part
part-one s d l h = ap (take 1) (drop-cons s (length s - d) 0 (omega arith))

-- the whole line
pub part-line : (s : List ℕ) → part s (length s) (length s) ≡ s
part-line s = part-whole s (length s) ∙ take-length s

-- a part cut in two
pub part_cut : (s : List ℕ) (d e e1 : ℕ) → d ≤ length s → e ≤ d → e1 ≤ e → part s d e ≡ part s d e1 ++ part s (d - e1) (e - e1)
unfolding part
part_cut s d e e1 h g l =
    let a : e ≡ e1 + (e - e1) = omega arith in
    let b : length s - d + e1 ≡ length s - (d - e1) = omega arith in
    ap (λ (i : ℕ). take i (drop (length s - d) s)) a
    ∙ take-add e1 (e - e1) (drop (length s - d) s)
    ∙ ap (λ (u : List ℕ). take e1 (drop (length s - d) s) ++ take (e - e1) u)
    (drop-drop e1 (length s - d) s ∙ ap (λ (i : ℕ). drop i s) b)

-- two cuts of one list at one place
pub same-cut : (xs ys us vs : List ℕ) → xs ++ ys ≡ us ++ vs → length xs ≡ length us → (xs ≡ us) × (ys ≡ vs)
same-cut xs ys us vs e l = (
  sym (take_at xs ys (length us) l) ∙ ap (take (length us)) e ∙ take_at us vs (length us) refl,
  sym (drop_at xs ys (length us) l) ∙ ap (drop (length us)) e ∙ drop_at us vs (length us) refl,
)
