-- The program refuses no line by 11: where its work area is enough for a line, its reading buffer is too; and a line has at most 255 tokens, for
-- which its token buffer is enough.
-- Assumes nothing.
use Prim.Native.Nat.{ℕ, ◌+◌, ◌*◌, ◌≤◌, ◌<◌, max}
use mathlib.Core.Path.{◌≡◌, refl, ap}
use mathlib.Core.Bool.{Bool, true, false}
use mathlib.Core.List.{List}
use native.Mathlib.Omega.{arith}
use native.Mathlib.Nat.{mul-le-mul, mul-le-mul_left}
use borrow.Author.Tests.{ltb-true, ltb-false, le-ltb}
use lib.Dec.{ltb}
use lib.ListN.{length}
use Rattle.posix.specs.Values.{records}
use Rattle.posix.specs.Decision.{Parsed, found, missing, parse}
use Rattle.posix.specs.Relation.{Posix}
use Rattle.posix.proofs.Parse.{parse-sound}
use Rattle.posix.proofs.Flats.{posix-flat, posix-reads}
use Rattle.table.specs.Records.{count}
use Rattle.table.specs.Faults.{Passes}
use Rattle.table.specs.Answers.{Said, refuses}
use Rattle.table.specs.Expression.{exp_of}
use Rattle.table.specs.Buffers.{if_room}
use Rattle.table.proofs.Passing.{count-bound}
use Rattle.reading.specs.Codec.{encode}
use Rattle.reading.specs.Calls.{if_passed}
use Rattle.reading.proofs.Lengths.{encode-length}
use Rattle.reading.proofs.Sizes.{records-reads}
use Rattle.reading.proofs.Saying.{said_or, said-start, table-number, NotBuffer, not-buffer, room-not-buffer}
use Rattle.tokens.specs.Tokens.{Token, token_bytes}
use Rattle.tokens.proofs.Counts.{tokens-count, bytes_count}
use Rattle.matcher.specs.Calls.{work_size, read_parsed, read_says}
use Rattle.lexer.specs.Lexing.{reading_tokens, tokens_of, lex_says}
use Rattle.report.specs.Report.{work_length, reading_length, token_length}

-- at most 255 records, and a work area that is enough for n bytes
few : (m n : ℕ) → m ≤ 255 → work_size m n ≤ work_length → m * max n 1 ≤ 8192
few m n h w = go (ltb 32 n) refl
  where
    go : (b : Bool) → ltb 32 n ≡ b → m * max n 1 ≤ 8192
    go false e =
        let x : max n 1 ≤ 32 = omega (arith, ltb-false 32 n e) in
        let y : m * max n 1 ≤ 255 * 32 = mul-le-mul h x in
        omega arith
    go true e =
        let l : 32 < n = ltb-true 32 n e in
        let x : m * (n + 1) * 32 ≤ m * (n + 1) * (n + 2) = mul-le-mul_left (m * (n + 1)) (omega arith) in
        let y : m * n ≤ m * (n + 1) = mul-le-mul_left m (omega arith) in
        let f : max n 1 ≡ n = omega arith in
        rw f (omega arith)

-- Read's answer, and behind it that of Tokens
abbrev NeverBuffer : List ℕ → ℕ → List ℕ → Said → Type 0
NeverBuffer t k s said = NotBuffer (if_passed said (if_room token_length (token_bytes (tokens_of t k s)) (length (tokens_of t k s))))

pub never-buffer : (t : List ℕ) (k : ℕ) (s : List ℕ) → NotBuffer (lex_says t k s work_length reading_length token_length)
unfolding lex_says read_says
never-buffer t k s =
    said-start (NeverBuffer t k s) t k _ (λ n d x. not-buffer n d (omega (arith, table-number t n d x))) (not-buffer 9 0 (omega arith))
    (λ p l. said_or (NeverBuffer t k s) (ltb 255 (length s)) (refuses 7 0) _ (not-buffer 7 0 (omega arith))
    (λ a. said_or (NeverBuffer t k s) (ltb work_length (work_size (count t) (length s))) (refuses 10 0) _ (not-buffer 10 0 (omega arith))
    (λ b. go p l (ltb-false 255 (length s) a)
    (few (count t) (length s) (count-bound t p).1 (ltb-false work_length (work_size (count t) (length s)) b)) (parse (exp_of t k) s) refl)))
  where
    go :
        Passes t → k < count t → length s ≤ 255 → count t * max (length s) 1 ≤ 8192 → (x : Parsed) → parse (exp_of t k) s ≡ x
        → NeverBuffer t k s (read_parsed t k x reading_length)
    go p l short h missing e = not-buffer 8 0 (omega arith)
    go p l short h (found v) e =
        let q : Posix s (exp_of t k) v = parse-sound (exp_of t k) s v e in
        let r : records v ≤ count t * max (length s) 1 = rw (posix-flat q) at (records-reads t p k l (posix-reads q)) in
        let xs : List Token = tokens_of t k s in
        rw (le-ltb reading_length (length (encode t k v)) (omega (arith, encode-length t k (posix-reads q))))
        (room-not-buffer token_length (token_bytes xs) (length xs)
        (omega (arith, bytes_count xs, ap (λ (y : Parsed). length (reading_tokens t k y)) e, tokens-count t k v 0, ap length (posix-flat q))))
