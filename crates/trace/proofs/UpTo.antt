-- A table lent up to its start record alone: each call says and leaves the same by it, and Read needs no more work area.
-- Assumes nothing.
use Prim.Native.Nat.{ℕ, ◌+◌, ◌≤◌, ◌<◌}
use mathlib.Core.Path.{◌≡◌, refl, sym, ◌∙◌, ap, ap₂, subst}
use mathlib.Core.List.{List}
use native.Mathlib.Omega.{arith}
use native.Mathlib.Nat.{mul-le-mul_right}
use borrow.Author.Tests.{le-ltb}
use lib.Dec.{ltb}
use lib.ListN.{length}
use Rattle.posix.specs.Values.{Val, records, Reads}
use Rattle.posix.specs.Decision.{Parsed, found, missing, parse}
use Rattle.posix.proofs.Parse.{parse-sound}
use Rattle.posix.proofs.Flats.{posix-reads}
use Rattle.table.specs.Records.{count, up_to}
use Rattle.table.specs.Faults.{Passes}
use Rattle.table.specs.Answers.{Said, refuses}
use Rattle.table.specs.Checked.{or_else}
use Rattle.table.specs.Expression.{exp_of}
use Rattle.table.proofs.UpTo.{up-to-passes, up-to-exp}
use Rattle.reading.specs.Codec.{encode}
use Rattle.reading.specs.Fitting.{Fits, reading_of}
use Rattle.table.specs.Buffers.{if_room, after}
use Rattle.reading.specs.Calls.{if_start, if_fits, bytes_of, spell_says, spell_leaves}
use Rattle.reading.proofs.Admission.{start_inside}
use Rattle.reading.proofs.Fitting.{found-fits}
use Rattle.reading.proofs.UpTo.{up-to-encode, up-to-reading}
use Rattle.tokens.specs.Tokens.{Token, tokens_from, token_bytes}
use Rattle.tokens.specs.Listed.{tokens_says, tokens_leaves}
use Rattle.tokens.proofs.UpTo.{up-to-tokens}
use Rattle.ranking.specs.Answers.{compare_parsed, compare_says}
use Rattle.matcher.specs.Calls.{work_size, read_parsed, read_says, read_leaves}
use Rattle.trace.specs.SameCalls.{SameCalls}

-- the same answer with the same bytes leaves the same buffer
same_after : {x y : Said} {b c : List ℕ} → x ≡ y → b ≡ c → (out : List ℕ) → (x ≡ y) × (after x b out ≡ after y c out)
same_after e f out = (e, ap₂ (λ (x : Said) (b : List ℕ). after x b out) e f)

-- what Tokens says and the bytes that it writes, by a reading's tokens
same_lists :
    (room : ℕ) (x : Parsed) (f g : Val → List Token) → ((v : Val) → x ≡ found v → f v ≡ g v)
    → (if_fits x (λ v. if_room room (token_bytes (f v)) (length (f v))) ≡ if_fits x (λ v. if_room room (token_bytes (g v)) (length (g v))))
    × (bytes_of x (λ v. token_bytes (f v)) ≡ bytes_of x (λ v. token_bytes (g v)))
same_lists room missing f g h = (refl, refl)
same_lists room (found v) f g h = rw (h v refl) (refl, refl)

-- a reading that is found is one of the record
reads-found : (t : List ℕ) (k : ℕ) (bs : List ℕ) (v : Val) → reading_of t k bs ≡ found v → Reads (exp_of t k) v
reads-found t k bs v e =
    let f : (f : Fits t k bs) × (f.value ≡ v) = found-fits t k bs v e in subst (λ (u : Val). Reads (exp_of t k) u) f.1 f.0.reads

module _ (t : List ℕ) (k : ℕ) (p : Passes t) (l : k < count t) where
  -- both tables pass and have the start record
  same_start : {x y : Said} → x ≡ y → if_start (up_to t k) k x ≡ if_start t k y
  same_start {x} {y} e =
      let q : Passes (up_to t k) × (count (up_to t k) ≡ k + 1) = up-to-passes t k p l in
      (start_inside (up_to t k) k q.0 (omega (arith, q.1))).said_on x ∙ e ∙ sym ((start_inside t k p l).said_on y)

  same-exp : exp_of (up_to t k) k ≡ exp_of t k
  same-exp = up-to-exp t k k (omega arith)

  same-reading : (bs : List ℕ) → reading_of (up_to t k) k bs ≡ reading_of t k bs
  same-reading = up-to-reading t k p l

  -- what Read says of the reading that is found, and its bytes
  same-found :
      (s : List ℕ) (room : ℕ) (x : Parsed) → parse (exp_of t k) s ≡ x
      → (read_parsed (up_to t k) k x room ≡ read_parsed t k x room)
      × (bytes_of x (λ v. encode (up_to t k) k v) ≡ bytes_of x (λ v. encode t k v))
  same-found s room missing e = (refl, refl)
  same-found s room (found v) e =
      let q : encode (up_to t k) k v ≡ encode t k v = up-to-encode t k p l (posix-reads (parse-sound (exp_of t k) s v e)) in
      (ap (λ (bs : List ℕ). if_room room bs (records v)) q, q)

  up-to-reads :
      (s out : List ℕ) (work less : ℕ) → work_size (count t) (length s) ≤ work → work_size (count (up_to t k)) (length s) ≤ less
      → (read_says (up_to t k) k s less (length out) ≡ read_says t k s work (length out))
      × (read_leaves (up_to t k) k s less out ≡ read_leaves t k s work out)
  unfolding read_says read_leaves
  up-to-reads s out work less g h =
      let same = same-found s (length out) (parse (exp_of t k) s) refl in
      same_after
      (same_start
      (rw (le-ltb less (work_size (count (up_to t k)) (length s)) h, le-ltb work (work_size (count t) (length s)) g, same-exp)
      (ap (or_else (ltb 255 (length s)) (refuses 7 0)) same.0)))
      (rw same-exp same.1)
      out

  up-to-spells :
      (bs out : List ℕ)
      → (spell_says (up_to t k) k bs (length out) ≡ spell_says t k bs (length out)) × (spell_leaves (up_to t k) k bs out ≡ spell_leaves t k bs out)
  unfolding spell_says spell_leaves
  up-to-spells bs out = same_after (same_start (rw (same-reading bs))) (rw (same-reading bs)) out

  up-to-compares : (bs cs : List ℕ) → compare_says (up_to t k) k bs cs ≡ compare_says t k bs cs
  unfolding compare_says
  up-to-compares bs cs = same_start (ap₂ compare_parsed (same-reading bs) (same-reading cs))

  up-to-lists :
      (bs out : List ℕ)
      → (tokens_says (up_to t k) k bs (length out) ≡ tokens_says t k bs (length out)) × (tokens_leaves (up_to t k) k bs out ≡ tokens_leaves t k bs out)
  unfolding tokens_says tokens_leaves
  up-to-lists bs out =
      let same =
      same_lists (length out) (reading_of t k bs) (λ v. tokens_from (up_to t k) k v 0) (λ v. tokens_from t k v 0)
      (λ v e. up-to-tokens t k p l v (reads-found t k bs v e) 0) in
      same_after (same_start (rw (same-reading bs) same.0)) (rw (same-reading bs) same.1) out

  pub up-to-same : SameCalls t (up_to t k) k
  up-to-same = record { reads = up-to-reads; spells = up-to-spells; compares = up-to-compares; lists = up-to-lists }

pub up-to-less : (t : List ℕ) (k n : ℕ) → Passes t → k < count t → work_size (count (up_to t k)) n ≤ work_size (count t) n
up-to-less t k n p l =
    let m : count (up_to t k) ≤ count t = omega (arith, (up-to-passes t k p l).1) in
    omega (arith, mul-le-mul_right (n + 2) (mul-le-mul_right (n + 1) m))
