-- The walk over a whole text: what it has reached at each place is the decision's state there, and at the end the decision's outcome.
-- Assumes nothing.
use Prim.Native.Nat.{ℕ, suc, ◌+◌, ◌-◌, ◌≤◌, ◌<◌}
use mathlib.Core.Path.{◌≡◌, refl, sym, ◌∙◌, ap}
use mathlib.Core.List.{List, [], ◌∷◌}
use native.Mathlib.Omega.{arith}
use native.Mathlib.Numerals.{add-one}
use native.Mathlib.Nat.{add-zero}
use lib.ListN.{length, get_or, take, drop, length-drop, drop_of_length-le}
use lib.Seq.{drop-cons, drop-drop, get_or-drop}
use Rattle.std.specs.Prelude.{Option, Some, Result, Err, ok_or}
use Rattle.notation.specs.declared.Word.{Word}
use Rattle.notation.specs.declared.Walk.{Walk}
use Rattle.notation.specs.declared.Marks.{Marks}
use Rattle.notation.specs.declared.Item.TheVariants.{Absent}
use Rattle.notation.specs.Trees.{Tree, alt, cat}
use Rattle.notation.specs.Decision.{Held, none, some, joined, Frame, State, state, all_with, Stepped, on, stop, step, word_at, later}
use Rattle.notation.specs.Decision.{Outcome, whole, stuck, ended, and_then, run, outcome}
use Rattle.notation.specs.Walks.{outer_parts, LastPart, Shows, Took, Fit, TagGiven, Ended, WalkedTo}
use Rattle.notation.proofs.Words.{later-inside, tag-given, from_place}
use Rattle.notation.proofs.Complete.{run-skip}
use Rattle.notation.proofs.Stopping.{ended-none}
use Rattle.notation.proofs.Laying.{joined-some}
use Rattle.notation.proofs.Showing.{begun-shown}
use Rattle.notation.proofs.Taking.{fit-more}

-- the end of the text, with a parenthesis open, with no item, and with one
module _ {w : Walk} {stack : List Marks} {entry out : List ℕ} where
  pub ended-whole :
      {out' : List ℕ} (fs : List Frame) (l m i : Held) (n : ℕ) → Shows fs l m i w stack entry out → w.depth ≡ 0
      → ¬ (w.item ≡ Absent)
      → ((t : Tree) → Shows fs l m (some t) w stack entry out → LastPart (outer_parts fs) (all_with l m (some t)) n entry out')
      → Ended (ended (state fs l m i)) (Some n) entry out'
  ended-whole (f ∷ fs) l m i n s d h p = absurd (omega (arith, s.depth_right))
  ended-whole [] l m none n s d h p = absurd (h s.item_right)
  ended-whole {out'} [] l m (some t) n s d h p =
      let x = joined-some cat m t in
      let y = joined-some alt l x.0 in
      let e : all_with l m (some t) ≡ some y.0 = ap (joined alt l) x.1 ∙ y.1 in
      let q : LastPart [] (some y.0) n entry out' = rw e at (p t s) in
      rw e (ap Some (omega (arith, q.mark_right)), q.laid)

-- what the walk has reached at a place of the text
pub record Reached (text : List ℕ) (at : ℕ) (w : Walk) (stack : List Marks) (entry out : List ℕ) : Type 0 where
  pub frames : List Frame
  pub left : Held
  pub row : Held
  pub item : Held
  pub inside : at ≤ length text
  pub same : outcome text ≡ run (drop at text) 0 (state frames left row item)
  pub shown : Shows frames left row item w stack entry out
  pub fit : Fit w at

pub reached-begin :
    {w : Walk} {stack : List Marks} (text entry : List ℕ) → length stack ≡ 4096
    → w ≡ record { count = 0; marks = record { left = 0; row = 0 }; item = Absent; depth = 0 }
    → Reached text 0 w stack entry entry
unfolding outcome
reached-begin text entry long b =
    record {
      frames = [];
      left = none;
      row = none;
      item = none;
      inside = omega arith;
      same = refl;
      shown = begun-shown entry long b;
      fit = rw b (record { count_fits = omega arith; depth_fits = omega arith; item_counted = λ h. absurd (h refl) });
    }

-- one word more, which starts at a place inside the text: the word there, as the code takes the text from there on
module _
    {text : List ℕ} {at : ℕ} {w : Walk} {stack : List Marks} {entry out : List ℕ} (p : Reached text at w stack entry out) (h : at < length text)
    {v : Option Word} (e : v ≡ word_at (get_or (take (length text - at) (drop at text)) 0 0) (drop 1 (take (length text - at) (drop at text))))
  where
    abbrev here : State
    here = state p.frames p.left p.row p.item

    -- the rest behind the word's first byte
    abbrev rest : List ℕ
    rest = drop (suc at) text

    word-there : v ≡ word_at (get_or text at 0) rest
    word-there =
        let f : get_or (drop at text) 0 0 ≡ get_or text at 0 = get_or-drop at text 0 0 ∙ rw add-zero in
        let g : drop 1 (drop at text) ≡ rest = drop-drop 1 at text ∙ rw add-one in
        rw (f, g) at (rw (from_place at text) at e)

    came : outcome text ≡ and_then (step v here) (suc (length rest)) (λ next. run rest (later v) next)
    came = p.same ∙ ap (λ (s : List ℕ). run s 0 here) (drop-cons text at 0 h) ∙ rw word-there

    rest-length : length rest + suc at ≡ length text
    rest-length = omega (arith, length-drop (suc at) text)

    pub word-inside : at + (1 + later v) ≤ length text
    word-inside = rw word-there (omega (arith, later-inside (get_or text at 0) rest, rest-length))

    pub word-given : TagGiven v
    word-given = rw word-there (tag-given (get_or text at 0) rest)

    -- the word stands where it may
    pub reached-next :
        (r : Walk) (stack' : List Marks) (out' : List ℕ) (n : ℕ) → n ≡ later v → ((m : ℕ) → Fit w m → Fit r (suc m))
        → Took (step v here) (Some r) stack' entry out'
        → Reached text (at + (1 + n)) r stack' entry out'
    reached-next r stack' out' n k f t = rw k (go (step v here) came t)
      where
        go : (x : Stepped) → outcome text ≡ and_then x (suc (length rest)) (λ next. run rest (later v) next) → Took x (Some r) stack' entry out'
            → Reached text (at + (1 + later v)) r stack' entry out'
        go stop e t = absurd t
        go (on (state fs l m i)) e t =
            let d : at + (1 + later v) ≡ suc at + later v = omega arith in
            record {
              frames = fs;
              left = l;
              row = m;
              item = i;
              inside = word-inside;
              same = e ∙ run-skip rest (later v) (state fs l m i)
                  ∙ ap (λ (s : List ℕ). run s 0 (state fs l m i)) (drop-drop (later v) (suc at) text)
                  ∙ ap (λ (n : ℕ). run (drop n text) 0 (state fs l m i)) (sym d);
              shown = t;
              fit = fit-more r (suc at) (at + (1 + later v)) (omega arith) (f at p.fit);
            }
        -- the end of the text

pub reached-end :
    {text : List ℕ} {at : ℕ} {w : Walk} {stack : List Marks} {entry out : List ℕ} (x : Option ℕ) (y : Result ℕ ℕ) (out' : List ℕ)
    (p : Reached text at w stack entry out)
    → length text ≤ at
    → Ended (ended (state p.frames p.left p.row p.item)) x entry out'
    → y ≡ ok_or x at
    → WalkedTo (outcome text) (length text) y entry out'
reached-end {text} {at} {entry = entry} x y out' p h t e =
    let f : drop at text ≡ [] = drop_of_length-le text h in
    let g : outcome text ≡ ended (state p.frames p.left p.row p.item) = p.same ∙ ap (λ (s : List ℕ). run s 0 (state p.frames p.left p.row p.item)) f in
    let n : length text ≡ at = omega (arith, p.inside) in
    rw (g, n) (go (ended (state p.frames p.left p.row p.item)) refl t)
  where
    go : (o : Outcome) → ended (state p.frames p.left p.row p.item) ≡ o → Ended o x entry out' → WalkedTo o at y entry out'
    go (whole u) d (a, b) = (e ∙ rw a, b)
    go (stuck m) d (a, b) =
        let z : at ≡ at - m = omega (arith, ended-none (state p.frames p.left p.row p.item) m d) in (e ∙ rw a (ap Err z), b)
