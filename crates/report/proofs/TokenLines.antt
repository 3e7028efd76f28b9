-- Tokens read from their 3-byte records, and the length of their lines.
-- Assumes nothing.
use Prim.Native.Nat.{ℕ, zero, suc, ◌+◌, ◌*◌, ◌/◌, ◌≤◌, ◌<◌}
use mathlib.Core.Path.{◌≡◌, refl, sym, ◌∙◌, ap}
use mathlib.Core.List.{List, [], ◌∷◌, ◌++◌, append_assoc, append-nil}
use native.Mathlib.Omega.{arith}
use native.Mathlib.Numerals.{add-one}
use lib.ListN.{length, take, drop, get_or, length-append, take-append-drop}
use lib.Seq.{length-take-le, get_or-take, get_or-drop}
use Rattle.std.specs.Simd.{first_chunks}
use Rattle.tokens.specs.Tokens.{Token, token_bytes, nth_token}
use Rattle.tokens.proofs.Counts.{bytes_count}
use Rattle.tokens.proofs.Places.{token-next}
use Rattle.printing.specs.Decimal.{decimal}
use Rattle.printing.specs.Writes.{Wrote}
use Rattle.printing.proofs.Writes.{wrote_then, wrote_as}
use Rattle.printing.proofs.Digits.{length-decimal-byte}
use Rattle.report.specs.Text.{ok_word}
use Rattle.report.specs.Report.{token_line, token_lines, ok_line}
use Rattle.report.specs.Writes.{line_with}

-- the tokens of the first n records
abbrev pub first_tokens : ℕ → List ℕ → List Token
first_tokens zero s = []
first_tokens (suc n) s = nth_token s 0 ∷ first_tokens n (drop 3 s)

tokens-snoc : (n : ℕ) (s : List ℕ) → first_tokens (suc n) s ≡ first_tokens n s ++ (nth_token s n ∷ [])
tokens-snoc zero s = refl
tokens-snoc (suc n) s =
    ap (λ (xs : List Token). nth_token s 0 ∷ xs)
    (tokens-snoc n (drop 3 s) ∙ ap (λ (x : Token). first_tokens n (drop 3 s) ++ (x ∷ [])) (token-next s n))

tokens-front : (xs : List Token) (rest : List ℕ) → first_tokens (length xs) (token_bytes xs ++ rest) ≡ xs
tokens-front [] rest = refl
tokens-front (x ∷ xs) rest = ap (λ (ys : List Token). x ∷ ys) (tokens-front xs rest)

-- the records are those of xs
pub tokens-are : (n : ℕ) (s : List ℕ) (xs : List Token) → 3 * n ≤ length s → take (3 * n) s ≡ token_bytes xs → first_tokens n s ≡ xs
tokens-are n s xs h e =
    let l : n ≡ length xs = omega (arith, bytes_count xs, ap length e, length-take-le (3 * n) s h) in
    let whole : s ≡ token_bytes xs ++ drop (3 * n) s = sym (take-append-drop (3 * n) s) ∙ ap (λ (u : List ℕ). u ++ drop (3 * n) s) e in
    ap (λ (k : ℕ). first_tokens k s) l ∙ ap (first_tokens (length xs)) whole ∙ tokens-front xs (drop (3 * n) s)

lines_snoc : (xs : List Token) (x : Token) → token_lines (xs ++ (x ∷ [])) ≡ token_lines xs ++ token_line x
lines_snoc [] x = append-nil (token_line x)
lines_snoc (y ∷ xs) x = ap (λ (s : List ℕ). token_line y ++ s) (lines_snoc xs x) ∙ sym (append_assoc (token_line y) (token_lines xs) (token_line x))

-- the bytes of the chunks of 3 bytes
chunk_byte : (n k i m : ℕ) (s : List ℕ) → k < n → i < 3 → m ≡ 3 * k + i → get_or (get_or (first_chunks 3 n s) k []) i 0 ≡ get_or s m 0
chunk_byte zero k i m s h g e = absurd (omega arith)
chunk_byte (suc n) zero i m s h g e =
    let f : m ≡ i = omega arith in
    get_or-take 3 s i 0 g ∙ ap (λ (j : ℕ). get_or s j 0) (sym f)
chunk_byte (suc n) (suc k) i m s h g e =
    let f : 3 + (3 * k + i) ≡ m = omega arith in
    chunk_byte n k i (3 * k + i) (drop 3 s) (omega arith) g refl ∙ get_or-drop 3 s (3 * k + i) 0 ∙ ap (λ (j : ℕ). get_or s j 0) f

-- the line of a chunk of the first ones is that of the token there
pub line_at :
    (s : List ℕ) (chunks : List (List ℕ)) (n k : ℕ) → chunks ≡ first_chunks 3 (length s / 3) s → length chunks ≡ length s / 3
    → k < length (take n chunks) → 3 * n ≤ length s
    → token_line (record { tag = get_or (get_or (take n chunks) k []) 0 0; offset = get_or (get_or (take n chunks) k []) 1 0; size = get_or (get_or (take n chunks) k []) 2 0 })
    ≡ token_line (nth_token s k)
line_at s chunks n k e f h g = cc (at 0 (3 * k) (omega arith) (omega arith), at 1 (3 * k + 1) (omega arith) refl, at 2 (3 * k + 2) (omega arith) refl)
  where
    few : k < n
    few =
        let l : length (take n chunks) ≡ n = length-take-le n chunks (omega arith) in
        omega arith

    at : (i m : ℕ) → i < 3 → m ≡ 3 * k + i → get_or (get_or (take n chunks) k []) i 0 ≡ get_or s m 0
    at i m l is =
        ap (λ (c : List ℕ). get_or c i 0) (get_or-take n chunks k [] few ∙ ap (λ (cs : List (List ℕ)). get_or cs k []) e)
        ∙ chunk_byte (length s / 3) k i m s (omega (arith, few)) l is

-- the lines of one token more
pub lines_more :
    (s a b c : List ℕ) (at i next end : ℕ) → Wrote a b at next (token_lines (first_tokens i s)) → Wrote b c next end (token_line (nth_token s i))
    → Wrote a c at end (token_lines (first_tokens (i + 1) s))
lines_more s a b c at i next end w v =
    wrote_as (wrote_then w v)
    (sym (ap (λ (n : ℕ). token_lines (first_tokens n s)) (add-one i) ∙ ap token_lines (tokens-snoc i s) ∙ lines_snoc (first_tokens i s) (nth_token s i)))

-- the lines are those of xs
pub lines-all :
    (s a b : List ℕ) (at n i next : ℕ) → Wrote a b at next (token_lines (first_tokens i s)) → i ≡ n → 3 * n ≤ length s
    → (xs : List Token) → take (3 * n) s ≡ token_bytes xs → Wrote a b at next (token_lines xs)
lines-all s a b at n i next w f h xs e = wrote_as w (ap (λ (k : ℕ). token_lines (first_tokens k s)) f ∙ ap token_lines (tokens-are n s xs h e))

-- a token of bytes has a line of at most 12 bytes
pub length-line : (a b c : ℕ) → a < 256 → b < 256 → c < 256 → length (token_line (record { tag = a; offset = b; size = c })) ≤ 12
length-line a b c x y z =
    omega (
      arith,
      length-append (decimal a) (0x20 ∷ (decimal b ++ (0x20 ∷ (decimal c ++ (10 ∷ []))))),
      length-append (decimal b) (0x20 ∷ (decimal c ++ (10 ∷ []))),
      length-append (decimal c) (10 ∷ []),
      length-decimal-byte a x,
      length-decimal-byte b y,
      length-decimal-byte c z,
    )

pub token-room :
    (s b c : List ℕ) (i next end : ℕ) → Wrote b c next end (token_line (nth_token s i)) → ((j : ℕ) → get_or s j 0 < 256) → end ≤ next + 12
token-room s b c i next end w h =
    omega (
      arith,
      w.moved,
      length-line (get_or s (3 * i) 0) (get_or s (3 * i + 1) 0) (get_or s (3 * i + 2) 0) (h (3 * i)) (h (3 * i + 1)) (h (3 * i + 2)),
    )

-- a line that was read: its own line and then its tokens'
pub ok-line : (number : ℕ) (xs : List Token) → line_with number ok_word (length xs) ++ token_lines xs ≡ ok_line number xs
ok-line number xs = simp append_assoc
