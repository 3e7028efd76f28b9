-- What a call answers and leaves: a refusal, or the facts of a live line that is not refused.
-- Assumes nothing.
use Prim.Native.Nat.{ℕ, ◌≤◌, ◌<◌}
use borrow.Author.Tests.{le-leb, lt-leb, eq-eqb, ne_eqb}
use mathlib.Core.Path.{◌≡◌, sym, ◌∙◌, ap}
use mathlib.Core.Bool.{true, true≢false}
use mathlib.Core.List.{List}
use Rattle.std.specs.Prelude.{Result, Ok, Err, IfOk}
use Rattle.std.proofs.lemmas.Result.{IfOk-at_ok}
use Rattle.table.specs.declared.Refusal.{Refusal}
use Rattle.table.specs.Answers.{Said, gives, refuses, refusal, rules_say, is_refused}
use Rattle.reading.proofs.Admission.{refusal-numbers}
use Rattle.live.specs.declared.LiveLine.{LiveLine}
use Rattle.live.specs.Lines.{table_of, bytes_of, lengthened, shortened}
use Rattle.live.specs.Calls.{if_held, facts_say, line_says, add_says, take_back_says, after_call}
use Rattle.live.proofs.Saying.{Ruled, ruled-on, judged, not-judged}

-- what is left where a call is refused
pub left-refused : {said : Said} {old : LiveLine} (new : LiveLine) (why : Refusal) → refusal why ≡ said → old ≡ after_call said new old
left-refused {said} {old} new why e =
    let x : (n : ℕ) × (d : ℕ) × (refusal why ≡ refuses n d) = refusal-numbers why in
    ap (λ (y : Said). after_call y new old) (sym x.2 ∙ e)

-- what is said is no refusal
pub not-refused : {said : Said} {n : ℕ} {A : Type 0} → gives n ≡ said → is_refused said ≡ true → A
not-refused e h = absurd (true≢false (sym h ∙ ap is_refused (sym e)))

-- what `rules` hands over of a live line that is not refused
pub record Ruling (h : LiveLine) (x : List ℕ) : Type 0 where
  pub ruled : Ruled h.table h.size h.start h.count
  pub same : x ≡ table_of h

pub ruling :
    (h : LiveLine) (m : ℕ) {r : Result (List ℕ) Refusal} {x : List ℕ} → rules_say r ≡ if_held h.table h.size h.start h.count (gives m)
    → IfOk r (λ y. y ≡ table_of h)
    → r ≡ Ok x
    → Ruling h x
ruling h m e f g = record { ruled = judged _ _ _ _ _ _ e _ g; same = IfOk-at_ok _ g f }

-- the end of a call that is to say `said`, by what was found of the line that it would leave
module _
    (new : LiveLine) (work : ℕ) {said : Said} {x : List ℕ} (same : x ≡ table_of new) (on : line_says new work ≡ said)
  where
    pub found-says : facts_say x new.start (bytes_of new) work ≡ said
    found-says = ap (λ (t : List ℕ). facts_say t new.start (bytes_of new) work) same ∙ on

-- Add and Take back of a live line whose fields are refused, by the answer of `rules`
module _
    (h : LiveLine) (work m : ℕ) (r : Result (List ℕ) Refusal) (e : rules_say r ≡ if_held h.table h.size h.start h.count (gives m)) (why : Refusal)
    (f : r ≡ Err why)
  where
    pub add-refused : (c : ℕ) → refusal why ≡ add_says h c work
    unfolding add_says
    add-refused c = not-judged h.table h.size h.start h.count m r e why f _

    pub take-back-refused : refusal why ≡ take_back_says h work
    unfolding take_back_says
    take-back-refused = not-judged h.table h.size h.start h.count m r e why f _

-- and of one whose fields are not
module _ (h : LiveLine) (r : Ruled h.table h.size h.start h.count) (work : ℕ) where
  -- 7, or what is said of the lengthened line
  pub add-full : (c : ℕ) → 255 ≤ h.count → refuses 7 0 ≡ add_says h c work
  unfolding add_says
  add-full c l = sym (ruled-on h.table h.size h.start h.count r _ ∙ rw (le-leb 255 h.count l))

  pub add-on : (c : ℕ) → h.count < 255 → line_says (lengthened h c) work ≡ add_says h c work
  unfolding add_says
  add-on c l = sym (ruled-on h.table h.size h.start h.count r _ ∙ rw (lt-leb 255 h.count l))

  -- 19, or what is said of the shortened line
  pub take-back-none : h.count ≡ 0 → refuses 19 0 ≡ take_back_says h work
  unfolding take_back_says
  take-back-none e = sym (ruled-on h.table h.size h.start h.count r _ ∙ rw (eq-eqb h.count 0 e))

  pub take-back-on : (h.count ≡ 0 → ⊥) → line_says (shortened h) work ≡ take_back_says h work
  unfolding take_back_says
  take-back-on n = sym (ruled-on h.table h.size h.start h.count r _ ∙ rw (ne_eqb h.count 0 n))
