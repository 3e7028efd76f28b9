-- Runs are the only division of a page's lines: each line of a run is alike to the one before it and to the first, the last line of a run is not alike to
-- the first of the next, and no other runs of these lines have both.
-- Assumes nothing.
use mathlib.Core.Path.{◌≡◌, refl, sym, ◌∙◌, ap}
use mathlib.Core.Bool.{Bool, true, false, cond}
use mathlib.Core.List.{List, [], ◌∷◌, ◌++◌, flat_map}
use Rattle.page.specs.Entries.{Entry, alike, likeness}
use Rattle.page.specs.Runs.{Run, members, alone, in_front, on_runs, runs, AlikeFrom, AlikeInside, LikeAll, LikeFirst, Apart}
use Rattle.page.proofs.Likeness.{alike-exactly}

-- a line more in front
on_alike : (e : Entry) (qs : List Run) → AlikeInside qs → AlikeInside (on_runs e qs)
on_alike e [] h = (tt, tt)
on_alike e (q ∷ qs) h = go (alike e q.first) refl
  where
    go : (b : Bool) → alike e q.first ≡ b → AlikeInside (cond b (in_front e q ∷ qs) (alone e ∷ (q ∷ qs)))
    go true f = ((f, h.0), h.1)
    go false f = (tt, h)

on-apart : (e : Entry) (qs : List Run) → Apart qs → Apart (on_runs e qs)
on-apart e [] h = tt
on-apart e (q ∷ qs) h = go (alike e q.first) refl qs h
  where
    go :
        (b : Bool) → alike e q.first ≡ b → (rs : List Run) → Apart (q ∷ rs)
        → Apart (cond b (in_front e q ∷ rs) (alone e ∷ (q ∷ rs)))
    go true f [] h = tt
    go true f (r ∷ rs) h = h
    go false f rs h = (f, h)

pub runs-alike : (es : List Entry) → AlikeInside (runs es)
runs-alike [] = tt
runs-alike (e ∷ es) = on_alike e (runs es) (runs-alike es)

pub runs-apart : (es : List Entry) → Apart (runs es)
runs-apart [] = tt
runs-apart (e ∷ es) = on-apart e (runs es) (runs-apart es)

-- from neighbour to neighbour back to the first line
like-all : (e x : Entry) (xs : List Entry) → likeness x ≡ likeness e → AlikeFrom x xs → LikeAll e xs
like-all e x [] f h = tt
like-all e x (y ∷ ys) f h =
    let g : likeness y ≡ likeness e = sym ((alike-exactly x y).0 h.0) ∙ f in
    (g, like-all e y ys g h.1)

like-first : (rs : List Run) → AlikeInside rs → LikeFirst rs
like-first [] h = tt
like-first (r ∷ rs) h = (like-all r.first r.first r.others refl h.0, like-first rs h.1)

pub runs-like-first : (es : List Entry) → LikeFirst (runs es)
runs-like-first es = like-first (runs es) (runs-alike es)

-- the lines of a run in front of lines whose runs are known
gathered :
    (e : Entry) (xs es : List Entry) (qs : List Run) → runs es ≡ qs → AlikeFrom e xs → Apart (record { first = e; others = xs } ∷ qs)
    → runs (e ∷ (xs ++ es)) ≡ record { first = e; others = xs } ∷ qs
gathered e [] es [] f h g = ap (on_runs e) f
gathered e [] es (q ∷ qs) f h g = ap (on_runs e) f ∙ rw g.0
gathered e (x ∷ xs) es qs f h g = ap (on_runs e) (gathered x xs es qs f h.1 (last qs g)) ∙ rw h.0
  where
    last : (qs : List Run) → Apart (record { first = e; others = x ∷ xs } ∷ qs) → Apart (record { first = x; others = xs } ∷ qs)
    last [] g = tt
    last (q ∷ qs) g = g

divided : (rs : List Run) → AlikeInside rs → Apart rs → runs (flat_map members rs) ≡ rs
unfolding flat_map
divided [] h g = refl
divided (r ∷ rs) h g = gathered r.first r.others (flat_map members rs) rs (divided rs h.1 (behind rs g)) h.0 g
  where
    behind : (qs : List Run) → Apart (r ∷ qs) → Apart qs
    behind [] g = tt
    behind (q ∷ qs) g = g.1

pub runs-only : (es : List Entry) (rs : List Run) → AlikeInside rs → Apart rs → flat_map members rs ≡ es → rs ≡ runs es
runs-only es rs h g f = sym (divided rs h g) ∙ ap runs f
