-- Every answer fits the 64-bit number that a C caller is given: results and details are below 2^32. And the buffers with which Tokens gives no 11.
-- Assumes nothing.
use Prim.Native.Nat.{ℕ, ◌*◌, ◌≤◌, ◌<◌, ◌%◌}
use mathlib.Core.Path.{◌≡◌, refl, sym, ◌∙◌, subst}
use mathlib.Core.Bool.{Bool, true, false, not, cond, ◌||◌}
use mathlib.Core.List.{List}
use native.Mathlib.Omega.{arith}
use borrow.Author.Tests.{ltb-false}
use lib.Dec.{ltb, eqb}
use lib.ListN.{length}
use Rattle.posix.specs.Values.{Val, flat, records}
use Rattle.posix.specs.Decision.{Parsed, found, missing, parse}
use Rattle.posix.specs.Ranking.{Verdict, same, first, second, rank}
use Rattle.posix.specs.Relation.{Posix}
use Rattle.posix.proofs.Parse.{parse-sound}
use Rattle.posix.proofs.Flats.{posix-flat, posix-reads}
use Rattle.table.specs.Records.{count}
use Rattle.table.specs.Faults.{Passes, bad_size}
use Rattle.table.specs.Expression.{exp_of}
use Rattle.table.specs.Answers.{Said, gives, refuses}
use Rattle.trace.specs.Numbers.{Small}
use Rattle.table.specs.Checked.{or_else, checked, RefusedFor, of_size, of_record}
use Rattle.table.proofs.Checking.{check-gives, check-refuses}
use Rattle.table.proofs.Passing.{count-bound, or-false-left, or-false-right}
use Rattle.reading.specs.Codec.{encode}
use Rattle.reading.specs.Fitting.{Fits, reading_of}
use Rattle.table.specs.Buffers.{if_room}
use Rattle.reading.specs.Calls.{if_start, if_fits, spell_says}
use Rattle.reading.proofs.Lengths.{encode-length}
use Rattle.reading.proofs.Fitting.{found-fits, fits-found}
use Rattle.reading.proofs.Saying.{said_or, said-start, table-number, NotBuffer, not-buffer, start-not-buffer, room-not-buffer}
use Rattle.tokens.specs.Tokens.{tokens_from, token_bytes}
use Rattle.tokens.specs.Listed.{tokens_says}
use Rattle.tokens.proofs.Counts.{bytes_count, tokens-count}
use Rattle.ranking.specs.Answers.{verdict_number, same_line, compare_parsed, compare_says}
use Rattle.matcher.specs.Calls.{work_size, read_parsed, read_says}
use Rattle.matcher.proofs.Written.{few-records}
use Rattle.reorder.specs.Tests.{seen_apart}
use Rattle.apart.specs.Calls.{apart_says}
use Rattle.notation.specs.Calls.{compile_says}
use Rattle.notation.proofs.Calls.{compile-said}

small-or : (b : Bool) (x y : Said) → Small x → (b ≡ false → Small y) → Small (or_else b x y)
small-or = said_or Small

-- a table of the right size has few records
short-table : (t : List ℕ) → bad_size t ≡ false → count t ≤ 255
short-table t e =
    let a : (ltb 1020 (length t) || not (eqb (length t % 4) 0)) ≡ false = or-false-right (eqb (length t) 0) _ e in
    let b : ltb 1020 (length t) ≡ false = or-false-left (ltb 1020 (length t)) _ a in
    let c : length t ≤ 1020 = ltb-false 1020 (length t) b in
    omega arith

refused-small : (t : List ℕ) (n d : ℕ) → RefusedFor t n d → Small (refuses n d)
refused-small t n d (of_size p q b) = (omega arith, omega arith, (λ e. omega arith), omega arith)
refused-small t n d (of_record f) =
    let x : (1 ≤ n) × (n ≤ 6) = table-number t n d (of_record f) in
    (omega (arith, x.0), omega arith, (λ e. omega (arith, x.1, e)), omega (arith, f.inside, short-table t f.size_right))

-- Check's answer
pub small-checked : (t : List ℕ) → Small (checked t)
small-checked t = go (checked t) refl
  where
    go : (said : Said) → checked t ≡ said → Small said
    go (gives m) e =
        let p : Passes t × (m ≡ count t) = check-gives t m e in
        omega (arith, p.1, (count-bound t p.0).1)
    go (refuses n d) e = refused-small t n d (check-refuses t n d e)

-- the answers of the calls that take a start number
pub small-start : (t : List ℕ) (k : ℕ) (said : Said) → (Passes t → k < count t → Small said) → Small (if_start t k said)
small-start t k said h = said-start Small t k said (refused-small t) (omega arith, omega arith, (λ e. omega arith), omega arith) h

small-room : (room : ℕ) (bytes : List ℕ) (n : ℕ) → length bytes < 4294967296 → n < 4294967296 → Small (if_room room bytes n)
small-room room bytes n h g = small-or (ltb room (length bytes)) (refuses 11 (length bytes)) (gives n) (omega arith, omega arith, (λ e. omega arith), h) (λ _. g)

-- a reading that is found spells at most 255 bytes
short-found : (t : List ℕ) (k : ℕ) (bs : List ℕ) (v : Val) → reading_of t k bs ≡ found v → length (flat v) ≤ 255
short-found t k bs v e =
    let f : (f : Fits t k bs) × (f.value ≡ v) = found-fits t k bs v e in rw (← f.1) f.0.short

-- Spell's
pub small-spell : (t : List ℕ) (k : ℕ) (bs : List ℕ) (room : ℕ) → Small (spell_says t k bs room)
unfolding spell_says
small-spell t k bs room = small-start t k _ (λ p l. go (reading_of t k bs) refl)
  where
    go : (x : Parsed) → reading_of t k bs ≡ x → Small (if_fits x (λ v. if_room room (flat v) (length (flat v))))
    go missing e = (omega arith, omega arith, (λ e. omega arith), omega arith)
    go (found v) e =
        let h : length (flat v) ≤ 255 = short-found t k bs v e in small-room room (flat v) (length (flat v)) (omega arith) (omega arith)

-- Compare's
pub small-compare : (t : List ℕ) (k : ℕ) (bs cs : List ℕ) → Small (compare_says t k bs cs)
unfolding compare_says
small-compare t k bs cs = small-start t k _ (λ p l. go (reading_of t k bs) (reading_of t k cs))
  where
    number_small : (d : Verdict) → verdict_number d < 4294967296
    number_small same = omega arith
    number_small first = omega arith
    number_small second = omega arith

    go : (x y : Parsed) → Small (compare_parsed x y)
    go missing missing = (omega arith, omega arith, (λ e. omega arith), omega arith)
    go missing (found w) = (omega arith, omega arith, (λ e. omega arith), omega arith)
    go (found v) missing = (omega arith, omega arith, (λ e. omega arith), omega arith)
    go (found v) (found w) =
        small-or (not (same_line (flat v) (flat w))) (refuses 14 0) _ (omega arith, omega arith, (λ e. omega arith), omega arith) (λ _. number_small (rank v w))

-- Tokens'
pub small-tokens : (t : List ℕ) (k : ℕ) (bs : List ℕ) (room : ℕ) → Small (tokens_says t k bs room)
unfolding tokens_says
small-tokens t k bs room = small-start t k _ (λ p l. go (reading_of t k bs) refl)
  where
    go : (x : Parsed) → reading_of t k bs ≡ x → Small (if_fits x (λ v. if_room room (token_bytes (tokens_from t k v 0)) (length (tokens_from t k v 0))))
    go missing e = (omega arith, omega arith, (λ e. omega arith), omega arith)
    go (found v) e =
        let h : length (flat v) ≤ 255 = short-found t k bs v e in
        small-room room (token_bytes (tokens_from t k v 0)) (length (tokens_from t k v 0))
        (omega (arith, bytes_count (tokens_from t k v 0), tokens-count t k v 0))
        (omega (arith, tokens-count t k v 0))

-- Tokens gives no 11 where the buffer has 3 bytes for each byte of the line
roomy :
    (t : List ℕ) (k : ℕ) (bs : List ℕ) (room : ℕ)
    → ((v : Val) → reading_of t k bs ≡ found v → 3 * length (flat v) ≤ room)
    → NotBuffer (tokens_says t k bs room)
unfolding tokens_says
roomy t k bs room enough = start-not-buffer t k _ (λ p l. go (reading_of t k bs) refl)
  where
    go : (x : Parsed) → reading_of t k bs ≡ x → NotBuffer (if_fits x (λ v. if_room room (token_bytes (tokens_from t k v 0)) (length (tokens_from t k v 0))))
    go missing e = not-buffer 12 0 (omega arith)
    go (found v) e =
        room-not-buffer room (token_bytes (tokens_from t k v 0)) (length (tokens_from t k v 0))
        (omega (arith, bytes_count (tokens_from t k v 0), tokens-count t k v 0, enough v e))

pub room-for-line : (t : List ℕ) (k : ℕ) (bs : List ℕ) (room : ℕ) (f : Fits t k bs) → 3 * length (flat f.value) ≤ room → NotBuffer (tokens_says t k bs room)
room-for-line t k bs room f h =
    roomy t k bs room (λ v e. let g : found v ≡ found f.value = sym e ∙ fits-found f in let n : v ≡ f.value = cc in rw n h)

pub room-for-all : (t : List ℕ) (k : ℕ) (bs : List ℕ) (room : ℕ) → 765 ≤ room → NotBuffer (tokens_says t k bs room)
room-for-all t k bs room h = roomy t k bs room (λ v e. omega (arith, short-found t k bs v e))

-- Read's
pub small-read : (t : List ℕ) (k : ℕ) (s : List ℕ) (work room : ℕ) → Small (read_says t k s work room)
unfolding read_says
small-read t k s work room =
    small-start t k _
    (λ p l. small-or (ltb 255 (length s)) (refuses 7 0) _ (omega arith, omega arith, (λ e. omega arith), omega arith)
    (λ f. small-or (ltb work (work_size (count t) (length s))) (refuses 10 0) _ (omega arith, omega arith, (λ e. omega arith), omega arith)
    (λ _. go p l (ltb-false 255 (length s) f) (parse (exp_of t k) s) refl)))
  where
    go : Passes t → k < count t → length s ≤ 255 → (x : Parsed) → parse (exp_of t k) s ≡ x → Small (read_parsed t k x room)
    go p l h missing e = (omega arith, omega arith, (λ e. omega arith), omega arith)
    go p l h (found v) e =
        let q : Posix s (exp_of t k) v = parse-sound (exp_of t k) s v e in
        let n : length (flat v) ≤ 255 = rw (posix-flat q) h in
        let r : records v ≤ 65025 = few-records t k v p l (posix-reads q) n in
        small-room room (encode t k v) (records v) (omega (arith, encode-length t k (posix-reads q))) (omega arith)

-- Apart's
pub small-apart : (t : List ℕ) (k : ℕ) → Small (apart_says t k)
unfolding apart_says
small-apart t k = small-start t k _ (λ p l. go (seen_apart t k))
  where
    go : (b : Bool) → Small (gives (cond b 1 0))
    go true = omega arith
    go false = omega arith

-- and that of the call that turns notation into a table
pub small-compile : (s : List ℕ) (room : ℕ) → Small (compile_says s room)
small-compile s room =
    compile-said Small s room (omega arith, omega arith, (λ e. omega arith), omega arith) (omega arith, omega arith, (λ e. omega arith), omega arith)
    (λ n few short. (omega arith, omega arith, (λ e. omega arith), omega arith))
    (λ n few enough. omega arith)

-- an answer that is one of these
pub said-small : {x : Said} (y : Said) → x ≡ y → Small y → Small x
said-small y e h = subst (λ (said : Said). Small said) (sym e) h
