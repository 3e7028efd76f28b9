-- What reads and writes that are tried again do to known bytes.
-- Assumes nothing.
use Rattle.std.proofs.Common.{◌≡◌, ℕ, ◌+◌, ◌-◌, ◌≤◌, List, ◌++◌, length, take, drop, sym, ap, ◌∙◌, length-take-le, append_assoc, take-append-drop}
use Rattle.std.proofs.lemmas.List.{take_rest}
use lib.Seq.{take-append-add, take-append-le}
use borrow.Rule.Slice.PartMut.{put_mid, post_of}

-- the bytes written so far and those that one more write took are what is gone from the rest
pub moves_front : (all done rest : List ℕ) (n : ℕ) → all ≡ done ++ rest → all ≡ (done ++ take n rest) ++ take (length rest - n) (drop n rest)
moves_front all done rest n e =
    e ∙ ap (λ l. done ++ l) (sym (take-append-drop n rest)) ∙ sym (append_assoc done (take n rest) (drop n rest))
    ∙ ap (λ l. (done ++ take n rest) ++ l) (sym (take_rest rest n))

-- bytes read behind those that stand in front of the buffer
pub reads_more :
    (at n : ℕ) (old part : List ℕ) → at ≤ length old → n ≤ length part
    → take (at + n) (put_mid at (length old - at) old part) ≡ take at old ++ take n part
reads_more at n old part h g =
    let size : length (take at old) ≡ at = length-take-le at old h in
    ap (λ i. take (i + n) (put_mid at (length old - at) old part)) (sym size)
    ∙ take-append-add (take at old) (part ++ post_of at (length old - at) old) n
    ∙ ap (λ l. take at old ++ l) (take-append-le n part (post_of at (length old - at) old) g)
