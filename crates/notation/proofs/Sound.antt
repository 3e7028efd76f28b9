-- The decision finds a tree only where the grammar gives that tree: the text so far is at each step the texts of the parts held, in their order.
-- Assumes nothing.
use Prim.Native.Nat.{ℕ, zero, suc}
use native.Mathlib.Omega.{arith}
use mathlib.Core.Path.{◌≡◌, refl}
use mathlib.Core.Bool.{Bool, true, false, cond}
use mathlib.Core.List.{List, [], ◌∷◌, ◌++◌, append-nil, append_assoc}
use mathlib.Core.Logic.{◌↔◌}
use borrow.Author.Tests.{eqb-true}
use lib.Dec.{eqb}
use Rattle.std.specs.Prelude.{Option}
use lib.ListN.{length, take}
use lib.Seq.{take-nil}
use Rattle.notation.specs.declared.Word.{Word}
use Rattle.notation.specs.Trees.{Tree, alt, tag_of, with_tag}
use Rattle.notation.specs.Grammar.{bar, opening, closing, Item, item-letter, item-empty, item-group, item-star, item-tag, Tag}
use Rattle.notation.specs.Grammar.{Row, row-item, row_next, Whole, whole_row, whole-next}
use Rattle.notation.specs.Decision.{later, word_at, Held, none, some, Frame, frame, State, state, row_with, all_with}
use Rattle.notation.specs.Decision.{Stepped, on, stop, closed_in, tagged, step, Outcome, whole, stuck, finished, ended, and_then, run, outcome}
use Rattle.notation.proofs.Words.{Read, read_letter, read_open, read_close, read_star, read_bar, read_tag, read_bad, word_read}
use Rattle.notation.proofs.Complete.{complete}

-- a text that ends in the | behind the alternatives that t stands for
pub data Left (u : List ℕ) (t : Tree) : Type 0 where
  left : (s : List ℕ) → u ≡ s ++ bar ∷ [] → Whole s t → Left u t

-- the text of a part held: nothing, or one that the part's tree stands for
pub data Holds (F : List ℕ → Tree → Type 0) : List ℕ → Held → Type 0 where
  holds_none : Holds F [] none
  holds_for_some : {s : List ℕ} {t : Tree} → F s t → Holds F s (some t)

-- the text up to the innermost parenthesis that is open
pub data Outer : List ℕ → List Frame → Type 0 where
  outer_none : Outer [] []
  outer-more :
      {s v w x : List ℕ} {fs : List Frame} {l r : Held} → Outer v fs → Holds Left w l → Holds Row x r
      → s ≡ v ++ (w ++ (x ++ opening ∷ []))
      → Outer s (frame l r ∷ fs)

-- the text of a state
pub data Kept (s : List ℕ) : State → Type 0 where
  kept :
      {v w x y : List ℕ} {fs : List Frame} {l r i : Held} → Outer v fs → Holds Left w l → Holds Row x r → Holds Item y i
      → s ≡ v ++ (w ++ (x ++ y))
      → Kept s (state fs l r i)

-- that of the state after a step, if there is one
abbrev pub Keeps : List ℕ → Stepped → Type 0
Keeps s (on st) = Kept s st
Keeps s stop = Unit {0}

-- the row with the last item
row-holds : {x y : List ℕ} {r i : Held} → Holds Row x r → Holds Item y i → Holds Row (x ++ y) (row_with r i)
row-holds holds_none holds_none = holds_none
row-holds holds_none (holds_for_some b) = holds_for_some (row-item b)
row-holds {x} (holds_for_some a) holds_none = rw (append-nil x) (holds_for_some a)
row-holds {x} {y} (holds_for_some a) (holds_for_some b) = holds_for_some (row_next x y refl a b)

-- the alternatives with the row that an item ends
pub data Made (s : List ℕ) : Held → Type 0 where
  made : {t : Tree} → Whole s t → Made s (some t)

next-whole : {w z : List ℕ} {t u : Tree} → Left w t → Row z u → Whole (w ++ z) (alt t u 0)
next-whole {w} {z} (left s e d) b = whole-next {w = w ++ z} s z (rw e (append_assoc s (bar ∷ []) z)) d b

pub all_made : {w x y : List ℕ} {l r : Held} {t : Tree} → Holds Left w l → Holds Row x r → Item y t → Made (w ++ (x ++ y)) (all_with l r (some t))
all_made holds_none holds_none b = made (whole_row (row-item b))
all_made {x = x} {y} holds_none (holds_for_some a) b = made (whole_row (row_next x y refl a b))
all_made (holds_for_some d) holds_none b = made (next-whole d (row-item b))
all_made {x = x} {y} (holds_for_some d) (holds_for_some a) b = made (next-whole d (row_next x y refl a b))

-- in parentheses they are an item, in front of a | the alternatives up to it
group-holds : {s : List ℕ} {h : Held} → Made s h → Holds Item (opening ∷ s ++ closing ∷ []) h
group-holds {s} (made a) = holds_for_some (item-group s refl a)

left-holds : {s : List ℕ} {h : Held} → Made s h → Holds Left (s ++ bar ∷ []) h
left-holds {s} (made a) = holds_for_some (left s refl a)

-- a ) keeps the text
closed-keeps :
    {s v w x y : List ℕ} {fs : List Frame} {l r i : Held} → Outer v fs → Holds Left w l → Holds Row x r → Holds Item y i
    → s ≡ v ++ (w ++ (x ++ y))
    → Keeps (s ++ closing ∷ []) (closed_in fs l r i)
closed-keeps outer_none a b d e = tt
closed-keeps (outer-more o g h f) holds_none holds_none holds_none e =
    kept o g h (holds_for_some (item-empty refl)) (rw (e, f) (simp append_assoc))
closed-keeps (outer-more o g h f) holds_none (holds_for_some b) holds_none e = tt
closed-keeps (outer-more o g h f) (holds_for_some a) b holds_none e = tt
closed-keeps (outer-more o g h f) a b (holds_for_some d) e = kept o g h (group-holds (all_made a b d)) (rw (e, f) (simp append_assoc))

-- a tag keeps it
tagged-keeps :
    {s v w x y z : List ℕ} {fs : List Frame} {l r : Held} {t : Tree} {n : ℕ} → Outer v fs → Holds Left w l → Holds Row x r → Item y t → Tag z n
    → s ≡ v ++ (w ++ (x ++ y))
    → Keeps (s ++ z) (tagged fs l r (some t) n)
tagged-keeps {s} {y = y} {z} {fs} {l} {r} {t} {n} o a b d k e = go (eqb (tag_of t) 0) refl
  where
    go : (h : Bool) → eqb (tag_of t) 0 ≡ h → Keeps (s ++ z) (cond h (on (state fs l r (some (with_tag t n)))) stop)
    go true f = kept o a b (holds_for_some (item-tag y z refl d k (eqb-true _ _ f))) (rw e (simp append_assoc))
    go false f = tt

-- each word keeps it
pub step_keeps : {c : ℕ} {s z : List ℕ} {w : Option Word} {st : State} → Read c s w → Kept z st → Keeps (z ++ c ∷ take (later w) s) (step w st)
step_keeps (read_letter n f) (kept o a b d e) = kept o a (row-holds b d) (holds_for_some (item-letter f)) (rw e (simp append_assoc))
step_keeps {c} {z = z} (read_open n) (kept o a b d e) =
    kept (outer-more {s = z ++ c ∷ []} o a (row-holds b d) (rw (e, n) (simp append_assoc))) holds_none holds_none holds_none (simp append-nil)
step_keeps (read_close n) (kept o a b d e) = rw n (closed-keeps o a b d e)
step_keeps (read_star n) (kept o a b holds_none e) = tt
step_keeps (read_star n) (kept {y = y} o a b (holds_for_some d) e) =
    kept o a b (holds_for_some (item-star y refl d)) (rw (e, n) (simp append_assoc))
step_keeps (read_bar n) (kept o a b holds_none e) = tt
step_keeps (read_bar n) (kept o a b (holds_for_some d) e) =
    kept o (left-holds (all_made a b d)) holds_none holds_none (rw (e, n) (simp (append_assoc, append-nil)))
step_keeps (read_tag n f) (kept o a b holds_none e) = tt
step_keeps (read_tag n f) (kept o a b (holds_for_some d) e) = tagged-keeps o a b d f e
step_keeps read_bad (kept o a b d e) = tt

-- the end of the text
never : {n : ℕ} {t : Tree} {P : Type 0} → stuck n ≡ whole t → P
never e = let z : ◌≡◌ {A = ℕ} 0 1 = cc in absurd (omega arith)

finished-sound : {s : List ℕ} {h : Held} {t : Tree} → Made s h → finished h ≡ whole t → Whole s t
finished-sound {t = t} (made {t = u} a) e = let same : u ≡ t = cc in rw same at a

ended-sound : {s : List ℕ} {st : State} {t : Tree} → Kept s st → ended st ≡ whole t → Whole s t
ended-sound (kept outer_none a b holds_none e) f = never f
ended-sound (kept outer_none a b (holds_for_some d) e) f = rw e (finished-sound (all_made a b d) f)
ended-sound (kept (outer-more o g h k) a b d e) f = never f

-- what follows a step, and the whole run behind the text z
then-sound :
    (x : Stepped) (n : ℕ) (f : State → Outcome) {s : List ℕ} {t : Tree} {P : Type 0} → Keeps s x → and_then x n f ≡ whole t
    → ((st : State) → Kept s st → f st ≡ whole t → P)
    → P
then-sound (on st) n f k e g = g st k e
then-sound stop n f k e g = never e

run_sound :
    (s : List ℕ) (k : ℕ) (z : List ℕ) (st : State) {t : Tree} → Kept (z ++ take k s) st → run s k st ≡ whole t → Whole (z ++ s) t
run_sound [] k z st h e = ended-sound (rw take-nil at h) e
run_sound (c ∷ s) zero z st h e =
    let w = word_at c s in
    let k : Keeps (z ++ c ∷ take (later w) s) (step w st) = step_keeps (word_read c s) (rw append-nil at h) in
    then-sound (step w st) (suc (length s)) (λ next. run s (later w) next) k e
    (λ next g f. rw append_assoc at (run_sound s (later w) (z ++ c ∷ []) next (rw append_assoc g) f))
run_sound (c ∷ s) (suc k) z st h e = rw append_assoc at (run_sound s k (z ++ c ∷ []) st (rw append_assoc h) e)

-- a tree that the decision finds is the one that the grammar gives
pub sound : {s : List ℕ} {t : Tree} → outcome s ≡ whole t → Whole s t
unfolding outcome
sound {s} e = run_sound s 0 [] (state [] none none none) (kept outer_none holds_none holds_none holds_none refl) e

-- so the decision is the grammar's
pub decided : (s : List ℕ) (t : Tree) → (outcome s ≡ whole t) ↔ Whole s t
decided s t = (sound, complete)
