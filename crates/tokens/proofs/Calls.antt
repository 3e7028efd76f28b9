-- Tokens: what each way out of it says and leaves, and that it writes the token list of a fitting reading.
-- Assumes nothing.
use Prim.Native.Nat.{ℕ, ◌*◌, ◌/◌, ◌≤◌, ◌<◌}
use mathlib.Core.Path.{◌≡◌, sym, ◌∙◌, ap}
use mathlib.Core.Bool.{Bool, true, false, false≢true}
use mathlib.Core.List.{List, ◌++◌}
use mathlib.Core.Logic.{◌↔◌}
use native.Mathlib.Omega.{arith}
use borrow.Author.Tests.{lt-ltb, le-ltb}
use lib.ListN.{length, drop}
use lib.Seq.{sets}
use Rattle.posix.specs.Values.{Val}
use Rattle.posix.specs.Decision.{Parsed, missing}
use Rattle.table.specs.declared.Refusal.{Refusal}
use Rattle.std.specs.Prelude.{Result, Err}
use Rattle.table.specs.Records.{count}
use Rattle.table.specs.Faults.{Passes}
use Rattle.table.specs.Answers.{Said, gives, refuses, refusal, rules_say}
use Rattle.table.specs.Checked.{or_else}
use Rattle.reading.specs.Fitting.{Fits, reading_of}
use Rattle.table.specs.Buffers.{if_room, after}
use Rattle.reading.specs.Calls.{if_start, if_fits, bytes_of}
use Rattle.reading.proofs.Fitting.{fits-found}
use Rattle.reading.proofs.Admission.{Admitted, start_inside, refusal-numbers, not-admitted}
use Rattle.reading.proofs.Lengths.{fits-short}
use Rattle.reading.proofs.Spelling.{fits-missing, fits_said}
use Rattle.reading.proofs.Misfits.{writes-unfit}
use Rattle.reading.proofs.Writing.{sets-front}
use Rattle.tokens.specs.Tokens.{Token, tokens_from, token_bytes}
use Rattle.tokens.specs.Listed.{tokens_says, tokens_leaves}
use Rattle.tokens.specs.Walks.{list_reading, Listable}
use Rattle.tokens.proofs.Counts.{tokens-count, bytes_count}
use Rattle.tokens.proofs.Records.{listed-fits, numbered-fits}

-- what is said of a fitting reading, and its bytes
abbrev list_says : List ℕ → ℕ → ℕ → Val → Said
list_says t k space v = if_room space (token_bytes (tokens_from t k v 0)) (length (tokens_from t k v 0))

abbrev list_bytes : List ℕ → ℕ → Val → List ℕ
list_bytes t k v = token_bytes (tokens_from t k v 0)

-- a refusal leaves the buffer, and a result puts the bytes in front
after-refused : (x : Said) (n d : ℕ) (bytes out : List ℕ) → x ≡ refuses n d → after x bytes out ≡ out
after-refused x n d bytes out e = rw e

after-gives : (x : Said) (n : ℕ) (bytes out : List ℕ) → x ≡ gives n → after x bytes out ≡ bytes ++ drop (length bytes) out
after-gives x n bytes out e = rw e

module _ (t : List ℕ) (k : ℕ) (bs out : List ℕ) where
  refused : (n d : ℕ) → tokens_says t k bs (length out) ≡ refuses n d → (refuses n d ≡ tokens_says t k bs (length out)) × (out ≡ tokens_leaves t k bs out)
  unfolding tokens_leaves
  refused n d e = (sym e, sym (after-refused (tokens_says t k bs (length out)) n d (bytes_of (reading_of t k bs) (list_bytes t k)) out e))

  -- 1 to 6 and 9
  pub tokens-table :
      {r : Result (List ℕ) Refusal} (why : Refusal) → rules_say r ≡ if_start t k (gives (count t)) → r ≡ Err why
      → (refusal why ≡ tokens_says t k bs (length out)) × (out ≡ tokens_leaves t k bs out)
  unfolding tokens_says
  tokens-table {r} why e f =
      let x : (n : ℕ) × (d : ℕ) × (refusal why ≡ refuses n d) = refusal-numbers why in
      let g : refusal why ≡ tokens_says t k bs (length out) =
      not-admitted t k r why e f (if_fits (reading_of t k bs) (list_says t k (length out))) in
      (g, (refused x.0 x.1 (sym g ∙ x.2)).1)

  said_fits : Admitted t k → tokens_says t k bs (length out) ≡ if_fits (reading_of t k bs) (list_says t k (length out))
  unfolding tokens_says
  said_fits a = a.said_on (if_fits (reading_of t k bs) (list_says t k (length out)))

  -- 12
  pub tokens-misfit : Admitted t k → reading_of t k bs ≡ missing → (refuses 12 0 ≡ tokens_says t k bs (length out)) × (out ≡ tokens_leaves t k bs out)
  tokens-misfit a e = refused 12 0 (said_fits a ∙ fits-missing (reading_of t k bs) (list_says t k (length out)) e)

module _ {t : List ℕ} {k : ℕ} {bs : List ℕ} (out : List ℕ) (a : Admitted t k) (f : Fits t k bs) where
  -- its tokens
  abbrev list : List Token
  list = tokens_from t k f.value 0

  said-list : tokens_says t k bs (length out) ≡ list_says t k (length out) f.value
  said-list = said_fits t k bs out a ∙ fits_said (reading_of t k bs) f.value (list_says t k (length out)) (fits-found f)

  said-done : length (token_bytes list) ≤ length out → tokens_says t k bs (length out) ≡ gives (length list)
  said-done m =
      said-list
      ∙ ap (λ (b : Bool). or_else b (refuses 11 (length (token_bytes list))) (gives (length list))) (le-ltb (length out) (length (token_bytes list)) m)

  left-done : length (token_bytes list) ≤ length out → tokens_leaves t k bs out ≡ token_bytes list ++ drop (length (token_bytes list)) out
  unfolding tokens_leaves
  left-done m =
      after-gives (tokens_says t k bs (length out)) (length list) (bytes_of (reading_of t k bs) (list_bytes t k)) out (said-done m)
      ∙ ap (λ (p : Parsed). bytes_of p (list_bytes t k) ++ drop (length (bytes_of p (list_bytes t k))) out) (fits-found f)

  -- what the walks are given
  list-bytes : length (token_bytes (list_reading t bs)) ≡ length (token_bytes list)
  list-bytes = ap (λ (xs : List Token). length (token_bytes xs)) (listed-fits t f)

  listable : (writing : Bool) (space : ℕ) → (writing ≡ true → length (token_bytes (list_reading t bs)) ≤ space) → Listable t bs writing space
  listable writing space room =
      record {
        numbers = numbered-fits t a.passes a.inside f;
        short = fits-short f;
        few = omega (arith, ap length (listed-fits t f), tokens-count t k f.value 0, f.short);
        room = room;
      }

  pub count-walk : (space : ℕ) → Listable t bs false space
  count-walk space = listable false space (λ e. absurd (false≢true e))

  -- after the tokens are counted
  module _ {new : List ℕ} {needed : ℕ} (n : needed ≡ length (token_bytes (list_reading t bs))) (e : new ≡ out) where
    -- 11
    pub tokens-buffer :
        length new < needed → {detail : ℕ} → detail ≡ needed
        → (refuses 11 detail ≡ tokens_says t k bs (length out)) × (new ≡ tokens_leaves t k bs out)
    tokens-buffer m {detail} d =
        let y : (refuses 11 detail ≡ tokens_says t k bs (length out)) × (out ≡ tokens_leaves t k bs out) =
        refused t k bs out 11 detail
        (said-list
        ∙ ap (λ (b : Bool). or_else b (refuses 11 (length (token_bytes list))) (gives (length list)))
        (lt-ltb (length out) (length (token_bytes list)) (omega (arith, ap length e, list-bytes)))
        ∙ ap (refuses 11) (sym (d ∙ n ∙ list-bytes))) in
        (y.0, e ∙ y.1)

    pub write-walk : needed ≤ length new → {writing : Bool} → Listable t bs writing (length new)
    write-walk m {writing} = listable writing (length new) (λ _. omega arith)

    -- the result
    pub tokens-done :
        needed ≤ length new → {last : List ℕ} {listed result : ℕ} → listed ≡ length (token_bytes (list_reading t bs))
        → last ≡ sets new 0 (token_bytes (list_reading t bs))
        → result ≡ listed / 3
        → (gives result ≡ tokens_says t k bs (length out)) × (last ≡ tokens_leaves t k bs out)
    tokens-done m {last} {listed} {result} i w d =
        let room : length (token_bytes list) ≤ length out = omega (arith, ap length e, list-bytes) in
        let r : result ≡ length list = omega (arith, list-bytes, bytes_count list) in (
          ap gives r ∙ sym (said-done room),
          w ∙ ap (λ (o : List ℕ). sets o 0 (token_bytes (list_reading t bs))) e
              ∙ ap (λ (xs : List Token). sets out 0 (token_bytes xs)) (listed-fits t f)
              ∙ sets-front (token_bytes list) out room
              ∙ sym (left-done room),
        )

-- Tokens writes the token list of a fitting reading, and returns the token count
pub tokens-writes :
    (t : List ℕ) (k : ℕ) (bs out : List ℕ) → Passes t → k < count t → (f : Fits t k bs) → 3 * length (tokens_from t k f.value 0) ≤ length out
    → (tokens_says t k bs (length out) ≡ gives (length (tokens_from t k f.value 0)))
    × (tokens_leaves t k bs out
    ≡ token_bytes (tokens_from t k f.value 0) ++ drop (length (token_bytes (tokens_from t k f.value 0))) out)
tokens-writes t k bs out p l f room =
    let a : Admitted t k = start_inside t k p l in
    let m : length (token_bytes (tokens_from t k f.value 0)) ≤ length out = omega (arith, bytes_count (tokens_from t k f.value 0)) in
    (said-done out a f m, left-done out a f m)

-- and says 12 just of bytes that do not fit
pub tokens-misfits :
    (t : List ℕ) (k : ℕ) (bs : List ℕ) (room : ℕ) → Passes t → k < count t → (tokens_says t k bs room ≡ refuses 12 0) ↔ ¬ (Fits t k bs)
unfolding tokens_says
tokens-misfits t k bs room = writes-unfit t k bs room (list_bytes t k) (λ v. length (tokens_from t k v 0))
