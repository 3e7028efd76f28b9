-- The offset at which a text stops being readable, by the grammar: up to it the text is the beginning of a text of the grammar, and with the next
-- five bytes, as many as a word has at most, it is no longer.
-- Assumes nothing.
use Prim.Native.Nat.{ℕ, zero, suc, ◌+◌, ◌-◌, ◌≤◌, ◌<◌}
use native.Mathlib.Omega.{arith}
use mathlib.Core.Path.{◌≡◌, refl, sym, ◌∙◌}
use mathlib.Core.List.{List, [], ◌∷◌, ◌++◌, append-nil, append_assoc}
use borrow.Author.Tests.{lt-ltb, le-ltb}
use lib.ListN.{length, get_or, take, length-append, length-take, get_or-append}
use lib.Seq.{take-nil, take-length, get_or-take}
use Rattle.notation.specs.Trees.{Tree}
use Rattle.notation.specs.Grammar.{opening, closing, letter_plain, Item, item-letter, item-group, Row, Whole}
use Rattle.notation.specs.Decision.{later, word_at, Held, none, some, Frame, State, state, Stepped, on, stop, step}
use Rattle.notation.specs.Decision.{Outcome, whole, stuck, finished, ended, and_then, run, outcome, all_with}
use Rattle.notation.specs.Calls.{limited, stuck_at, stops_at}
use Rattle.notation.specs.Accepted.{Begins}
use Rattle.notation.proofs.Words.{word_read}
use Rattle.notation.proofs.Complete.{complete}
use Rattle.notation.proofs.Sound.{Left, Holds, holds_none, holds_for_some, Outer, outer_none, outer-more, Kept, kept, Keeps, step_keeps, Made, made, all_made, sound}

made-whole : {s : List ℕ} {h : Held} → Made s h → (t : Tree) × Whole s t
made-whole (made {t = t} a) = (t, a)

-- the open parentheses closed one after the other
closed_all :
    {v w x y : List ℕ} {fs : List Frame} {l r : Held} {t : Tree} → Outer v fs → Holds Left w l → Holds Row x r → Item y t
    → Begins (v ++ (w ++ (x ++ y)))
closed_all outer_none a b d =
    let m = made-whole (all_made a b d) in record { rest = []; tree = m.0; grouped = rw append-nil m.1 }
closed_all {v = z} {w} {x} {y} (outer-more {v = v} {w = w'} {x = x'} o g h e) a b d =
    let m = made-whole (all_made a b d) in
    let k = closed_all o g h (item-group (w ++ (x ++ y)) refl m.1) in
    let q : z ++ (w ++ (x ++ y)) ++ closing ∷ k.rest ≡ v ++ (w' ++ (x' ++ (opening ∷ (w ++ (x ++ y)) ++ closing ∷ []))) ++ k.rest =
    rw e (simp append_assoc) in
    record { rest = closing ∷ k.rest; tree = k.tree; grouped = rw q k.grouped }

kept-begins : {s : List ℕ} {st : State} → Kept s st → Begins s
kept-begins {s} (kept {v} {w} {x} o a b holds_none e) =
    let k = closed_all o a b (item-letter (letter_plain 0x61 refl refl)) in
    let q : s ++ 0x61 ∷ k.rest ≡ v ++ (w ++ (x ++ 0x61 ∷ [])) ++ k.rest = rw e (simp append_assoc) in
    record { rest = 0x61 ∷ k.rest; tree = k.tree; grouped = rw q k.grouped }
kept-begins (kept o a b (holds_for_some d) e) = let k = closed_all o a b d in rw e k

-- the end of a text leaves no byte
pub ended-none : (st : State) (n : ℕ) → ended st ≡ stuck n → n ≡ 0
ended-none (state [] l r none) n e = cc
ended-none (state [] l r (some t)) n e = go (all_with l r (some t)) e
  where
    go : (h : Held) → finished h ≡ stuck n → n ≡ 0
    go none f = cc
    go (some u) f = let z : ◌≡◌ {A = ℕ} 0 1 = cc in absurd (omega arith)
ended-none (state (f ∷ fs) l r i) n e = cc

-- the first bytes of a text, one at a time
take_more : (c : ℕ) (s : List ℕ) (n : ℕ) → n ≤ length s → take (suc (length s) - n) (c ∷ s) ≡ c ∷ take (length s - n) s
take_more c s n h = let e : suc (length s) - n ≡ suc (length s - n) = omega arith in rw e

-- where the run stops: so many bytes are left, and the text before them begins a text of the grammar
record Stopped (s z : List ℕ) (n : ℕ) : Type 0 where
  left : n ≤ length s
  begins : Begins (z ++ take (length s - n) s)

one-back : (c : ℕ) (s z : List ℕ) (n : ℕ) → Stopped s (z ++ c ∷ []) n → Stopped (c ∷ s) z n
one-back c s z n p =
    record {
      left = omega (arith, p.left);
      begins = rw (take_more c s n p.left) (rw append_assoc at p.begins);
    }

step-stopped :
    (x : Stepped) (f : State → Outcome) {c : ℕ} {s z u : List ℕ} {st : State} {n : ℕ} → Kept z st → Keeps u x
    → and_then x (suc (length s)) f ≡ stuck n
    → ((next : State) → Kept u next → f next ≡ stuck n → Stopped s (z ++ c ∷ []) n)
    → Stopped (c ∷ s) z n
step-stopped (on next) f {c} {s} {z} {u} {st} {n} h k e g = one-back c s z n (g next k e)
step-stopped stop f {c} {s} {z} {u} {st} {n} h k e g =
    let m : suc (length s) ≡ n = cc in
    let d : suc (length s) - n ≡ 0 = omega arith in
    record { left = omega arith; begins = rw (d, append-nil) (kept-begins h) }

run-stopped : (s : List ℕ) (k : ℕ) (z : List ℕ) (st : State) (n : ℕ) → Kept (z ++ take k s) st → run s k st ≡ stuck n → Stopped s z n
run-stopped [] k z st n h e =
    record { left = omega (arith, ended-none st n e); begins = rw take-nil (kept-begins (rw take-nil at h)) }
run-stopped (c ∷ s) zero z st n h e =
    let w = word_at c s in
    let kz : Kept z st = rw append-nil at h in
    step-stopped (step w st) (λ next. run s (later w) next) kz (step_keeps (word_read c s) kz) e
    (λ next k f. run-stopped s (later w) (z ++ c ∷ []) next n (rw append_assoc k) f)
run-stopped (c ∷ s) (suc k) z st n h e = one-back c s z n (run-stopped s k (z ++ c ∷ []) st n (rw append_assoc h) e)

-- a text of at most 4,096 bytes is readable up to the offset
pub stops-begins : (s : List ℕ) → length s ≤ 4096 → Begins (take (stops_at s) s)
unfolding stops_at limited outcome
stops-begins s h = rw (le-ltb 4096 (length s) h) (go (outcome s) refl)
  where
    go : (x : Outcome) → outcome s ≡ x → Begins (take (stuck_at (length s) x) s)
    go (whole t) e = record { rest = []; tree = t; grouped = rw (take-length s, append-nil s) (sound e) }
    go (stuck n) e = (run-stopped s 0 [] (state [] none none none) n (kept outer_none holds_none holds_none holds_none refl) e).begins

-- a word goes by its first byte and the four behind it
module _ (c : ℕ) (s : List ℕ) (m : ℕ) (r : List ℕ) (long : 4 ≤ length s) (far : 4 ≤ m) where
  front_length : 4 ≤ length (take m s)
  front_length = rw length-take (omega arith)

  same_byte : (i : ℕ) → i < 4 → get_or (take m s ++ r) i 0 ≡ get_or s i 0
  same_byte i h = get_or-append (take m s) r 0 i (omega (arith, front_length)) ∙ get_or-take m s i 0 (omega arith)

  all-length : 4 ≤ length (take m s ++ r)
  all-length = rw length-append (omega (arith, front_length))

  word-local : word_at c (take m s ++ r) ≡ word_at c s
  unfolding word_at
  word-local =
      rw (
        same_byte 0 (omega arith),
        same_byte 1 (omega arith),
        same_byte 2 (omega arith),
        same_byte 3 (omega arith),
        lt-ltb 0 (length (take m s ++ r)) (omega (arith, all-length)),
        lt-ltb 2 (length (take m s ++ r)) (omega (arith, all-length)),
        lt-ltb 3 (length (take m s ++ r)) (omega (arith, all-length)),
        lt-ltb 0 (length s) (omega arith),
        lt-ltb 2 (length s) (omega arith),
        lt-ltb 3 (length s) (omega arith),
      )

-- a run that stops with five bytes left or more stops whatever stands behind these five
record Again (s : List ℕ) (k : ℕ) (st : State) (n : ℕ) (r : List ℕ) : Type 0 where
  left : n ≤ length s
  bytes : ℕ
  stops : run (take (length s - n + 5) s ++ r) k st ≡ stuck bytes

take_again : (c : ℕ) (s : List ℕ) (n : ℕ) → n ≤ length s → take (suc (length s) - n + 5) (c ∷ s) ≡ c ∷ take (length s - n + 5) s
take_again c s n h = let e : suc (length s) - n + 5 ≡ suc (length s - n + 5) = omega arith in rw e

step-again :
    (x : Stepped) (c : ℕ) (s : List ℕ) (st : State) (n : ℕ) (r : List ℕ) → step (word_at c s) st ≡ x → 5 ≤ n
    → and_then x (suc (length s)) (λ next. run s (later (word_at c s)) next) ≡ stuck n
    → ((next : State) → run s (later (word_at c s)) next ≡ stuck n → Again s (later (word_at c s)) next n r)
    → Again (c ∷ s) 0 st n r
step-again (on next) c s st n r d h e g =
    let a = g next e in
    let w : word_at c (take (length s - n + 5) s ++ r) ≡ word_at c s = word-local c s (length s - n + 5) r (omega (arith, a.left)) (omega arith) in
    record { left = omega (arith, a.left); bytes = a.bytes; stops = rw (take_again c s n a.left, w, d) a.stops }
step-again stop c s st n r d h e g =
    let m : suc (length s) ≡ n = cc in
    let f : suc (length s) - n + 5 ≡ 5 = omega arith in
    let w : word_at c (take 4 s ++ r) ≡ word_at c s = word-local c s 4 r (omega arith) (omega arith) in
    record { left = omega arith; bytes = suc (length (take 4 s ++ r)); stops = rw (f, w, d) }

run-again : (s : List ℕ) (k : ℕ) (st : State) (n : ℕ) (r : List ℕ) → run s k st ≡ stuck n → 5 ≤ n → Again s k st n r
run-again [] k st n r e h = absurd (omega (arith, ended-none st n e))
run-again (c ∷ s) zero st n r e h =
    step-again (step (word_at c s) st) c s st n r refl h e (λ next f. run-again s (later (word_at c s)) next n r f h)
run-again (c ∷ s) (suc k) st n r e h =
    let a = run-again s k st n r e h in
    record { left = omega (arith, a.left); bytes = a.bytes; stops = rw (take_again c s n a.left) a.stops }

-- and not beyond it: with the next five bytes it begins no text of the grammar
pub stops-there : (s : List ℕ) → length s ≤ 4096 → stops_at s + 5 ≤ length s → ¬ (Begins (take (stops_at s + 5) s))
unfolding stops_at limited outcome
stops-there s h = rw (le-ltb 4096 (length s) h) (go (outcome s) refl)
  where
    never : {n : ℕ} {t : Tree} → stuck n ≡ whole t → ⊥
    never e = let z : ◌≡◌ {A = ℕ} 0 1 = cc in omega arith

    go : (x : Outcome) → outcome s ≡ x → stuck_at (length s) x + 5 ≤ length s → ¬ (Begins (take (stuck_at (length s) x + 5) s))
    go (whole t) e l b = omega arith
    go (stuck n) e l b =
        never (sym (run-again s 0 (state [] none none none) n b.rest e (omega arith)).stops ∙ complete b.grouped)
