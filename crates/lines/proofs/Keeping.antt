-- What is kept of a line: its first 256 bytes.
-- Assumes nothing.
use Prim.Native.Nat.{ℕ, zero, suc, ◌+◌, ◌-◌, ◌≤◌, min}
use mathlib.Core.Path.{◌≡◌, refl, sym, ◌∙◌, ap}
use mathlib.Core.List.{List, [], ◌∷◌, ◌++◌, append-nil}
use native.Mathlib.Omega.{arith}
use borrow.Rule.Slice.PartMut.{put_mid}
use Rattle.std.proofs.lemmas.Slice.{take-put_mid}
use Rattle.std.proofs.lemmas.Grind.{common_steps}
use lib.ListN.{length, take}
use lib.Seq.{take_all, take-append-add, length-take-le}
use Rattle.lines.specs.Lines.{kept_of}

take-take-append : (n : ℕ) (s b : List ℕ) → take n (take n s ++ b) ≡ take n (s ++ b)
take-take-append zero s b = refl
take-take-append (suc n) [] b = refl
take-take-append (suc n) (c ∷ s) b = ap (λ (l : List ℕ). c ∷ l) (take-take-append n s b)

-- bytes behind the kept bytes are kept as those behind the whole line
pub kept_more : (s bytes : List ℕ) → kept_of (kept_of s ++ bytes) ≡ kept_of (s ++ bytes)
kept_more s bytes = take-take-append 256 s bytes

-- what is kept is kept as it is
pub kept_again : (s : List ℕ) → kept_of (kept_of s) ≡ kept_of s
kept_again s = sym (ap kept_of (append-nil (kept_of s))) ∙ kept_more s [] ∙ ap kept_of (append-nil s)

-- bytes copied behind the kept bytes, up to 256 in all
pub keeps :
    (line : List ℕ) (kept : ℕ) (bytes copied : List ℕ) (next : ℕ) → length line ≡ 256 → kept ≤ 256 → next ≡ min (kept + length bytes) 256
    → copied ≡ take (next - kept) bytes
    → take next (put_mid kept (next - kept) line copied) ≡ kept_of (take kept line ++ bytes)
keeps line kept bytes copied next l h n e =
    let room : length (take kept line) ≡ kept = length-take-le kept line (omega arith) in
    let most : kept + (256 - kept) ≡ 256 = omega arith in
    let size : next ≡ kept + length copied = grind (arith, common_steps) in
    take-put_mid kept (next - kept) line copied next size (omega arith)
    ∙ ap (λ (x : List ℕ). take kept line ++ x) (e ∙ same)
    ∙ sym (take-append-add (take kept line) bytes (256 - kept))
    ∙ ap (λ (i : ℕ). take i (take kept line ++ bytes)) (ap (λ (i : ℕ). i + (256 - kept)) room ∙ most)
  where
    same : take (next - kept) bytes ≡ take (256 - kept) bytes
    same = grind (arith, common_steps, take_all)
