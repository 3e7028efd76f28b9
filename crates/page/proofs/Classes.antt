-- The class bytes of a page are bytes, where the bytes of the line table are.
-- Assumes nothing.
use Prim.Native.Nat.{ℕ, ◌+◌, ◌*◌, ◌<◌}
use native.Mathlib.Omega.{arith}
use mathlib.Core.Path.{◌≡◌, refl}
use mathlib.Core.Bool.{Bool, true, false, cond}
use mathlib.Core.List.{List, [], ◌∷◌, map}
use borrow.Author.Tests.{ltb-true, ltb-false}
use lib.Dec.{ltb}
use lib.ListN.{length, get_or, get_or-eq_default}
use Rattle.posix.specs.Values.{flat}
use Rattle.posix.specs.Language.{Bytes}
use Rattle.posix.specs.Decision.{Parsed, found, missing, parse}
use Rattle.posix.proofs.Bytes.{bytes-nil, bytes-cons, bytes-tail}
use Rattle.table.specs.Expression.{exp_of}
use Rattle.tokens.specs.Tokens.{Token, Every}
use Rattle.tokens.proofs.Places.{every-token}
use Rattle.lines.specs.Lines.{lines_of}
use Rattle.lexer.specs.Lexing.{reading_tokens, tokens_of}
use Rattle.page.specs.Entries.{Rules, Entry, entry_of, alike, first_name, class_of}
use Rattle.page.specs.Runs.{Run, alone, in_front, on_runs, runs, class_bytes}
use Rattle.page.specs.Pages.{classes_of}

module _ (t : List ℕ) (h : Bytes t) where
  -- every byte of the table, and 0 behind it
  byte_at : (i : ℕ) → get_or t i 0 < 256
  byte_at i = go (ltb i (length t)) refl
    where
      go : (b : Bool) → ltb i (length t) ≡ b → get_or t i 0 < 256
      go true e = h i (ltb-true i (length t) e)
      go false e = omega (arith, get_or-eq_default t 0 (ltb-false i (length t) e))

  -- so is every token's name,
  names-bytes : (k : ℕ) (p : Parsed) → Every (λ (x : Token). x.tag < 256) (reading_tokens t k p)
  names-bytes k missing = tt
  names-bytes k (found v) =
      every-token (λ (x : Token). x.tag < 256) t (length (flat v)) (λ j _ _ _. byte_at (4 * j + 3)) k v 0 (omega arith)

  -- and the class of every line
  first_byte : (xs : List Token) → Every (λ (x : Token). x.tag < 256) xs → first_name xs < 256
  first_byte [] g = omega arith
  first_byte (x ∷ xs) g = g.0

  class-byte : (k : ℕ) (s : List ℕ) → class_of (entry_of (record { table = t; start = k }) s) < 256
  class-byte k s = first_byte (tokens_of t k s) (names-bytes k (parse (exp_of t k) s))

-- a line more in front
on-bytes :
    (e : Entry) (qs : List Run) → class_of e < 256 → Bytes (map (λ (r : Run). class_of r.first) qs)
    → Bytes (map (λ (r : Run). class_of r.first) (on_runs e qs))
on-bytes e [] l h = bytes-cons (class_of e) [] l h
on-bytes e (q ∷ qs) l h = go (alike e q.first)
  where
    go : (b : Bool) → Bytes (map (λ (r : Run). class_of r.first) (cond b (in_front e q ∷ qs) (alone e ∷ (q ∷ qs))))
    go true =
        bytes-cons (class_of e) (map (λ (r : Run). class_of r.first) qs) l
        (bytes-tail (class_of q.first) (map (λ (r : Run). class_of r.first) qs) h)
    go false = bytes-cons (class_of e) (map (λ (r : Run). class_of r.first) (q ∷ qs)) l h

lines-bytes : (l : Rules) → Bytes l.table → (ss : List (List ℕ)) → Bytes (class_bytes (map (entry_of l) ss))
lines-bytes l h [] = bytes-nil
lines-bytes l h (s ∷ ss) =
    on-bytes (entry_of l s) (runs (map (entry_of l) ss)) (class-byte l.table h l.start s) (lines-bytes l h ss)

pub classes-bytes : (l : Rules) (page : List ℕ) → Bytes l.table → Bytes (classes_of l page)
classes-bytes l page h = lines-bytes l h (lines_of page)
