-- What the calls say of a table with alternatives exchanged that share no line: what they say of the first one.
-- Assumes nothing.
use Prim.Native.Nat.{ℕ, ◌*◌, ◌≤◌, ◌<◌}
use mathlib.Core.Path.{◌≡◌, refl, sym, ◌∙◌, ap, ap₂}
use mathlib.Core.Bool.{Bool, true, false, not}
use mathlib.Core.List.{List, ◌++◌}
use borrow.Author.Tests.{ltb-true, ltb-false, not-false}
use lib.Dec.{ltb}
use lib.ListN.{length, take, drop}
use lib.Seq.{take_at}
use Rattle.posix.specs.Values.{Val, records}
use Rattle.posix.specs.Relation.{Posix}
use Rattle.posix.specs.Decision.{Parsed, found, missing, under, parse}
use Rattle.posix.proofs.Flats.{posix-reads}
use Rattle.posix.proofs.Parse.{parse-sound, parse-missing}
use Rattle.posix.proofs.Found.{parse-found, parse-none}
use Rattle.posix.proofs.Ahead.{posix-unique}
use Rattle.table.specs.Records.{count}
use Rattle.table.specs.Faults.{Passes}
use Rattle.table.specs.Expression.{exp_of}
use Rattle.table.specs.Answers.{Said, gives, refuses}
use Rattle.table.specs.Checked.{or_else, checked}
use Rattle.table.specs.Buffers.{if_room}
use Rattle.table.proofs.Checking.{check-gives}
use Rattle.reading.specs.Codec.{record_size, encode}
use Rattle.reading.specs.Calls.{if_passed, if_start}
use Rattle.reading.proofs.Lengths.{encode-length}
use Rattle.reading.proofs.Admission.{Admitted, or-gives, start_gives}
use Rattle.tokens.specs.Tokens.{tokens_from}
use Rattle.matcher.specs.Calls.{work_size, read_parsed, read_says, read_leaves, PosixWritten}
use Rattle.matcher.proofs.Written.{read-writes}
use Rattle.lexer.specs.Lexing.{reading_tokens, tokens_of}
use Rattle.reorder.specs.Exchanges.{Apart}
use Rattle.reorder.specs.Readings.{mirrored}
use Rattle.reorder.proofs.Lines.{SameReading}
use Rattle.reorder.proofs.Exchanging.{Exchanged}
use Rattle.reorder.proofs.Checking.{same_count, same-checked}
use Rattle.reorder.proofs.Languages.{same_lines}
use Rattle.reorder.proofs.Values.{moved, moved-records, posix-moved, moved-tokens}
use Rattle.reorder.proofs.Readings.{moved-encode}

-- what is said behind a test
pub else_same : (y : Bool) (first said said' : Said) → (y ≡ false → said ≡ said') → or_else y first said ≡ or_else y first said'
else_same true first said said' f = refl
else_same false first said said' f = f refl

-- of as many bytes and the same result
pub room-same : (room : ℕ) (bs cs : List ℕ) (m n : ℕ) → length bs ≡ length cs → m ≡ n → if_room room bs m ≡ if_room room cs n
room-same room bs cs m n f g = rw (f, g)

module _ {x : ℕ → Bool} {t u : List ℕ} (e : Exchanged x t u) where
  -- what is said of a table that passes and a start number in it
  start-same : (k : ℕ) (said said' : Said) → (Passes t → k < count t → said ≡ said') → if_start u k said ≡ if_start t k said'
  start-same k said said' f =
      ap₂ (λ (y : Said) (n : ℕ). if_passed y (or_else (not (ltb k n)) (refuses 9 0) said)) (same-checked e) (same_count e) ∙ go (checked t) refl
    where
      go :
          (y : Said) → checked t ≡ y
          → if_passed y (or_else (not (ltb k (count t))) (refuses 9 0) said) ≡ if_passed y (or_else (not (ltb k (count t))) (refuses 9 0) said')
      go (gives m) g =
          else_same (not (ltb k (count t))) (refuses 9 0) said said'
          (λ h. f (check-gives t m g).0 (ltb-true k (count t) (not-false (ltb k (count t)) h)))
      go (refuses n d) g = refl

  -- up to the start record the alternatives share no line wherever fields are exchanged
  module _ (k : ℕ) (apart : (j : ℕ) → j ≤ k → x j ≡ true → Apart t j) where
    -- the reading that is found
    same-parse : Passes t → k < count t → (s : List ℕ) → length s ≤ 255 → parse (exp_of u k) s ≡ under (moved x t k) (parse (exp_of t k) s)
    same-parse p l s h = go (parse (exp_of t k) s) refl
      where
        go : (y : Parsed) → parse (exp_of t k) s ≡ y → parse (exp_of u k) s ≡ under (moved x t k) y
        go (found v) f = (parse-found (exp_of u k) s (moved x t k v)).1 (posix-moved e p k apart l (parse-sound (exp_of t k) s v f) h)
        go missing f = (parse-none (exp_of u k) s).1 (λ z. parse-missing (exp_of t k) s f ((same_lines e p k l s).1 z))

    -- the tokens of a line
    pub same-tokens : Passes t → k < count t → (s : List ℕ) → length s ≤ 255 → tokens_of u k s ≡ tokens_of t k s
    same-tokens p l s h = ap (reading_tokens u k) (same-parse p l s h) ∙ go (parse (exp_of t k) s) refl
      where
        go : (y : Parsed) → parse (exp_of t k) s ≡ y → reading_tokens u k (under (moved x t k) y) ≡ reading_tokens t k y
        go (found v) f = moved-tokens e p k l (posix-reads (parse-sound (exp_of t k) s v f)) 0
        go missing f = refl

    -- those of its readings by both tables
    pub same-posix-tokens :
        Passes t → k < count t → (s : List ℕ) → length s ≤ 255 → (v w : Val) → Posix s (exp_of t k) v → Posix s (exp_of u k) w
        → tokens_from u k w 0 ≡ tokens_from t k v 0
    same-posix-tokens p l s h v w q q' =
        ap (λ (z : Val). tokens_from u k z 0) (posix-unique q' (posix-moved e p k apart l q h)) ∙ moved-tokens e p k l (posix-reads q) 0

    -- what Read says of the reading that is found
    same-found :
        Passes t → k < count t → (s : List ℕ) → length s ≤ 255 → (room : ℕ)
        → read_parsed u k (parse (exp_of u k) s) room ≡ read_parsed t k (parse (exp_of t k) s) room
    same-found p l s h room = ap (λ (y : Parsed). read_parsed u k y room) (same-parse p l s h) ∙ go (parse (exp_of t k) s) refl
      where
        go : (y : Parsed) → parse (exp_of t k) s ≡ y → read_parsed u k (under (moved x t k) y) room ≡ read_parsed t k y room
        go (found v) f =
            let q : Posix s (exp_of t k) v = parse-sound (exp_of t k) s v f in
            let q' : Posix s (exp_of u k) (moved x t k v) = posix-moved e p k apart l q h in
            room-same room (encode u k (moved x t k v)) (encode t k v) (records (moved x t k v)) (records v)
            (encode-length u k (posix-reads q') ∙ ap (λ (n : ℕ). record_size * n) (moved-records x t k v) ∙ sym (encode-length t k (posix-reads q)))
            (moved-records x t k v)
        go missing f = refl

    -- Read's answer
    pub same_read : (s : List ℕ) (work room : ℕ) → read_says u k s work room ≡ read_says t k s work room
    unfolding read_says
    same_read s work room =
        start-same k _ _
        (λ p l.
        else_same (ltb 255 (length s)) (refuses 7 0) _ _
        (λ f.
        ap₂ (λ (n : ℕ) (y : Said). or_else (ltb work (work_size n (length s))) (refuses 10 0) y) (same_count e)
        (same-found p l s (ltb-false 255 (length s) f) room)))

    -- so the two are not told apart by what follows Read
    pub same-reading : SameReading t k u k
    same-reading = record { reads = same_read; tokens = λ s h p l. same-tokens p l s h }

    -- what Read wrote
    pub read-mirrored :
        (s : List ℕ) (work : ℕ) (out : List ℕ) (n : ℕ) → read_says t k s work (length out) ≡ gives n
        → read_leaves u k s work out ≡ mirrored x (take (record_size * n) (read_leaves t k s work out)) ++ drop (record_size * n) out
    unfolding read_says
    read-mirrored s work out n f =
        let m : Admitted t k = start_gives t k _ n f in
        let g : (ltb 255 (length s) ≡ false) × _ = or-gives (ltb 255 (length s)) 7 0 _ n (sym (m.said_on _) ∙ f) in
        written m.passes m.inside (ltb-false 255 (length s) g.0) (read-writes t k s work out n f)
        (read-writes u k s work out n (same_read s work (length out) ∙ f))
      where
        written :
            Passes t → k < count t → length s ≤ 255 → PosixWritten t k s out (read_leaves t k s work out) n
            → PosixWritten u k s out (read_leaves u k s work out) n
            → read_leaves u k s work out ≡ mirrored x (take (record_size * n) (read_leaves t k s work out)) ++ drop (record_size * n) out
        written p l h a b =
            let v : Val = a.value in
            let same : b.value ≡ moved x t k v = posix-unique b.posix (posix-moved e p k apart l a.posix h) in
            let size : length (encode t k v) ≡ record_size * n =
            encode-length t k (posix-reads a.posix) ∙ ap (λ (i : ℕ). record_size * i) (sym a.counted) in
            let size-u : length (encode u k b.value) ≡ record_size * n =
            encode-length u k (posix-reads b.posix) ∙ ap (λ (i : ℕ). record_size * i) (sym b.counted) in
            let front : take (record_size * n) (read_leaves t k s work out) ≡ encode t k v =
            ap (take (record_size * n)) a.written ∙ take_at (encode t k v) (drop (length (encode t k v)) out) (record_size * n) size in
            b.written
            ∙ ap₂ ◌++◌ (ap (encode u k) same ∙ moved-encode e p k l (posix-reads a.posix) ∙ ap (mirrored x) (sym front))
            (ap (λ (i : ℕ). drop i out) size-u)
