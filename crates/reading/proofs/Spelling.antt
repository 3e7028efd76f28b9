-- Spell: what each way out of it says and leaves, and that it writes the line of a fitting reading.
-- Assumes nothing.
use Prim.Native.Nat.{ℕ, ◌≤◌, ◌<◌}
use mathlib.Core.Path.{◌≡◌, refl, sym, ◌∙◌, ap}
use mathlib.Core.Bool.{Bool}
use mathlib.Core.List.{List, ◌++◌}
use native.Mathlib.Omega.{arith}
use borrow.Author.Tests.{lt-ltb, le-ltb}
use lib.ListN.{length, drop}
use Rattle.posix.specs.Values.{Val, flat}
use Rattle.posix.specs.Decision.{Parsed, found, missing}
use Rattle.table.specs.declared.Refusal.{Refusal}
use Rattle.std.specs.Prelude.{Result, Err}
use Rattle.table.specs.Records.{count}
use Rattle.table.specs.Faults.{Passes}
use Rattle.table.specs.Answers.{Said, gives, refuses, refusal, rules_say}
use Rattle.table.specs.Checked.{or_else}
use Rattle.reading.specs.Fitting.{Fits, spelled, reading_of}
use Rattle.table.specs.Buffers.{if_room, after}
use Rattle.reading.specs.Calls.{if_start, if_fits, bytes_of, spell_says, spell_leaves}
use Rattle.reading.proofs.Fitting.{fits-found}
use Rattle.reading.proofs.Lengths.{spelled-fits}
use Rattle.reading.proofs.Admission.{Admitted, start_inside, refusal-numbers, not-admitted}
use Rattle.reading.proofs.Wholes.{Reading}

-- what is said of a reading that does not fit, and of one that does
pub fits-missing : (p : Parsed) (said : Val → Said) → p ≡ missing → if_fits p said ≡ refuses 12 0
fits-missing p said e = rw e

pub fits_said : (p : Parsed) (v : Val) (said : Val → Said) → p ≡ found v → if_fits p said ≡ said v
fits_said p v said e = rw e

-- a refusal leaves the buffer, and a result puts the bytes in front
after-refused : (x : Said) (n d : ℕ) (bytes out : List ℕ) → x ≡ refuses n d → after x bytes out ≡ out
after-refused x n d bytes out e = rw e

after-gives : (x : Said) (n : ℕ) (bytes out : List ℕ) → x ≡ gives n → after x bytes out ≡ bytes ++ drop (length bytes) out
after-gives x n bytes out e = rw e

module _ (t : List ℕ) (k : ℕ) (bs out : List ℕ) where
  -- a refusal of Spell, with the buffer
  refused : (n d : ℕ) → spell_says t k bs (length out) ≡ refuses n d → (refuses n d ≡ spell_says t k bs (length out)) × (out ≡ spell_leaves t k bs out)
  unfolding spell_leaves
  refused n d e =
      (sym e, sym (after-refused (spell_says t k bs (length out)) n d (bytes_of (reading_of t k bs) (λ v. flat v)) out e))

  -- 1 to 6 and 9
  pub spell-table :
      {r : Result (List ℕ) Refusal} (why : Refusal) → rules_say r ≡ if_start t k (gives (count t)) → r ≡ Err why
      → (refusal why ≡ spell_says t k bs (length out)) × (out ≡ spell_leaves t k bs out)
  unfolding spell_says
  spell-table {r} why e f =
      let x : (n : ℕ) × (d : ℕ) × (refusal why ≡ refuses n d) = refusal-numbers why in
      let g : refusal why ≡ spell_says t k bs (length out) =
      not-admitted t k r why e f (if_fits (reading_of t k bs) (λ v. if_room (length out) (flat v) (length (flat v)))) in
      (g, (refused x.0 x.1 (sym g ∙ x.2)).1)

  said_fits : Admitted t k → spell_says t k bs (length out) ≡ if_fits (reading_of t k bs) (λ v. if_room (length out) (flat v) (length (flat v)))
  unfolding spell_says
  said_fits a = a.said_on (if_fits (reading_of t k bs) (λ v. if_room (length out) (flat v) (length (flat v))))

  -- 12
  pub spell-misfit : Admitted t k → reading_of t k bs ≡ missing → (refuses 12 0 ≡ spell_says t k bs (length out)) × (out ≡ spell_leaves t k bs out)
  spell-misfit a e = refused 12 0 (said_fits a ∙ fits-missing (reading_of t k bs) (λ v. if_room (length out) (flat v) (length (flat v))) e)

module _ {t : List ℕ} {k : ℕ} {bs : List ℕ} (out : List ℕ) (a : Admitted t k) {n : ℕ} (w : Reading t k bs n) where
  line : List ℕ
  line = flat w.fitting.value

  said-room : spell_says t k bs (length out) ≡ if_room (length out) line (length line)
  unfolding line
  said-room =
      said_fits t k bs out a
      ∙ fits_said (reading_of t k bs) w.fitting.value (λ v. if_room (length out) (flat v) (length (flat v))) (fits-found w.fitting)

  -- 11
  pub spell-buffer : length out < n → (refuses 11 n ≡ spell_says t k bs (length out)) × (out ≡ spell_leaves t k bs out)
  unfolding line
  spell-buffer m =
      refused t k bs out 11 n
      (said-room
      ∙ ap (λ (b : Bool). or_else b (refuses 11 (length line)) (gives (length line))) (lt-ltb (length out) (length line) (omega (arith, w.size)))
      ∙ ap (refuses 11) (sym w.size))

  said-done : n ≤ length out → spell_says t k bs (length out) ≡ gives (length line)
  unfolding line
  said-done m =
      said-room
      ∙ ap (λ (b : Bool). or_else b (refuses 11 (length line)) (gives (length line))) (le-ltb (length out) (length line) (omega (arith, w.size)))

  left-done : n ≤ length out → spell_leaves t k bs out ≡ line ++ drop (length line) out
  unfolding spell_leaves line
  left-done m =
      after-gives (spell_says t k bs (length out)) (length line) (bytes_of (reading_of t k bs) (λ v. flat v)) out (said-done m)
      ∙ ap (λ (p : Parsed). bytes_of p (λ v. flat v) ++ drop (length (bytes_of p (λ v. flat v))) out) (fits-found w.fitting)

  -- the result
  pub spell-done :
      n ≤ length out → {size : ℕ} {left : List ℕ} → size ≡ length (spelled bs)
      → left ≡ spelled bs ++ drop (length (spelled bs)) out
      → (gives size ≡ spell_says t k bs (length out)) × (left ≡ spell_leaves t k bs out)
  unfolding line
  spell-done m e f = (
    ap gives (e ∙ ap length (spelled-fits w.fitting)) ∙ sym (said-done m),
    f ∙ ap (λ (s : List ℕ). s ++ drop (length s) out) (spelled-fits w.fitting) ∙ sym (left-done m),
  )

-- there is room for the line
pub spell-room : {t : List ℕ} {k : ℕ} {bs : List ℕ} {n : ℕ} (out : List ℕ) → Reading t k bs n → n ≤ length out → length (spelled bs) ≤ length out
spell-room out w m = omega (arith, w.size, ap length (spelled-fits w.fitting))

-- Spell writes the line that a fitting reading spells, and returns its length
pub spell-writes :
    (t : List ℕ) (k : ℕ) (bs out : List ℕ) → Passes t → k < count t → (f : Fits t k bs) → length (flat f.value) ≤ length out
    → (spell_says t k bs (length out) ≡ gives (length (flat f.value)))
    × (spell_leaves t k bs out ≡ flat f.value ++ drop (length (flat f.value)) out)
unfolding line
spell-writes t k bs out p l f room =
    let w : Reading t k bs (length (flat f.value)) = record { fitting = f; size = refl } in
    let a : Admitted t k = start_inside t k p l in
    (said-done out a w room, left-done out a w room)
