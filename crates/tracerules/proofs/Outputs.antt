-- What is written for an input, by what the compiler of the notation says; and that what is read of a long input is enough.
-- Assumes nothing.
use Prim.Native.Nat.{ℕ, ◌*◌, ◌≤◌, ◌<◌}
use mathlib.Core.Path.{◌≡◌, refl, sym, ◌∙◌, ap}
use mathlib.Core.Bool.{Bool, true, false}
use mathlib.Core.Logic.{◌⊎◌, inl, inr, ⊎_elim}
use mathlib.Core.List.{List}
use native.Mathlib.Omega.{arith}
use borrow.Author.Tests.{ltb-true, ltb-false, lt-ltb}
use lib.Dec.{ltb}
use lib.ListN.{length, take, drop}
use lib.Seq.{take_at, take_all, length-take-le}
use Rattle.table.specs.declared.Refusal.{Refusal}
use Rattle.std.specs.Prelude.{Result, Ok, Err}
use Rattle.table.specs.Answers.{Said, gives, refuses, refusal, says}
use Rattle.notation.specs.Calls.{compile_says, compile_leaves}
use Rattle.notation.proofs.Calls.{compile-front, compile-long, compile-refuses}
use Rattle.printing.specs.Writes.{Wrote}
use Rattle.printing.proofs.Writes.{wrote-front, wrote-length}
use Rattle.tracerules.specs.declared.Reply.{Reply}
use Rattle.tracerules.specs.declared.Reply.TheVariants.{Table, Complaint}
use Rattle.tracerules.specs.Text.{text_of, input_length}
use Rattle.tracerules.specs.Messages.{refused_line}
use Rattle.tracerules.specs.Outputs.{stdout, stderr, table_length, output_said, output, shown, Inside}
use Rattle.tracerules.proofs.Text.{text-length}

-- the contract of a reply
abbrev pub Replied : List ℕ → List ℕ → Reply → Type 0
Replied input out r = Inside r (length out) × (shown r out ≡ output input)

-- s is the input's text, and the call has been handed a buffer as long as the longest table
module _ (input s out : List ℕ) (r : Result ℕ Refusal) (t : s ≡ text_of input) (size : length out ≡ table_length) (e : says r ≡ compile_says s (length out)) where
  output-by : (x : Said) → compile_says s (length out) ≡ x → output input ≡ output_said s x
  unfolding output
  output-by x h =
      ap (λ (u : List ℕ). output_said u (compile_says u table_length)) (sym t)
      ∙ ap (λ (n : ℕ). output_said s (compile_says s n)) (sym size)
      ∙ ap (output_said s) h

  said-done : (m : ℕ) → r ≡ Ok m → compile_says s (length out) ≡ gives m
  said-done m f = sym e ∙ ap says f

  pub done-room : (m : ℕ) → r ≡ Ok m → 4 * m ≤ length out
  done-room m f = (compile-front s out m (said-done m f)).0

  pub replied-table :
      (m : ℕ) (after : List ℕ) → r ≡ Ok m → after ≡ compile_leaves s out → length after ≡ length out → Replied input after (Table (4 * m))
  replied-table m after f g kept = (
    omega (arith, done-room m f),
    ap (λ (u : List ℕ). stdout (take (4 * m) u)) g ∙ ap stdout (compile-front s out m (said-done m f)).1 ∙ sym (output-by (gives m) (said-done m f)),
  )

  pub replied-complaint :
      {why : Refusal} (number detail : ℕ) {before after : List ℕ} {n : ℕ} → r ≡ Err why → refuses number detail ≡ refusal why
      → length before ≡ length out → Wrote before after 0 n (refused_line s number) → n ≤ 128
      → Replied input after (Complaint n)
  replied-complaint number detail {before} {after} {n} f g kept w few =
      let front : (n ≡ length (refused_line s number)) × _ = wrote-front w (omega arith) in (
        omega (arith, wrote-length w),
        ap (λ (u : List ℕ). stderr (take n u)) front.1
            ∙ ap stderr (take_at (refused_line s number) (drop (length (refused_line s number)) before) n (sym front.0))
            ∙ sym (output-by (refuses number detail) (sym e ∙ ap says f ∙ sym g)),
      )

-- a line on standard error is that of refusal 15 or of 16: the buffer is never too short for a table
pub refused-by :
    (input line : List ℕ) → output input ≡ stderr line → (line ≡ refused_line (text_of input) 15) ⊎ (line ≡ refused_line (text_of input) 16)
unfolding output
refused-by input line e = go (compile_says (text_of input) table_length) refl e
  where
    go :
        (x : Said) → compile_says (text_of input) table_length ≡ x → output_said (text_of input) x ≡ stderr line
        → (line ≡ refused_line (text_of input) 15) ⊎ (line ≡ refused_line (text_of input) 16)
    go (gives m) f g = let z : ◌≡◌ {A = ℕ} 0 1 = cc in absurd (omega arith)
    go (refuses n d) f g =
        let l : line ≡ refused_line (text_of input) n = cc in
        ⊎_elim (λ (h : n ≡ 15). inl (l ∙ ap (refused_line (text_of input)) h)) (λ (h : n ≡ 16). inr (l ∙ ap (refused_line (text_of input)) h))
        (compile-refuses (text_of input) table_length n d (omega arith) f)

-- an input whose text is over the limit: what is written does not depend on its bytes
long-output : (input : List ℕ) → 4096 < length (text_of input) → output input ≡ stderr (refused_line (text_of input) 15)
unfolding output
long-output input h = ap (output_said (text_of input)) (compile-long (text_of input) table_length h)

long-line : (s u : List ℕ) → 4096 < length s → 4096 < length u → refused_line s 15 ≡ refused_line u 15
long-line s u h g = rw (lt-ltb 4096 (length s) h, lt-ltb 4096 (length u) g)

-- the front of an input decides what is written for it
pub front-enough : (input : List ℕ) → output (take input_length input) ≡ output input
front-enough input = go (ltb input_length (length input)) refl
  where
    go : (b : Bool) → ltb input_length (length input) ≡ b → output (take input_length input) ≡ output input
    go false e = ap output (take_all input_length input (ltb-false input_length (length input) e))
    go true e =
        let l : input_length < length input = ltb-true input_length (length input) e in
        let f : length (take input_length input) ≡ input_length = length-take-le input_length input (omega arith) in
        let h : 4096 < length (text_of (take input_length input)) = omega (arith, text-length (take input_length input)) in
        let g : 4096 < length (text_of input) = omega (arith, text-length input) in
        long-output (take input_length input) h
        ∙ ap stderr (long-line (text_of (take input_length input)) (text_of input) h g)
        ∙ sym (long-output input g)
