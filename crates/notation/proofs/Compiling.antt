-- The call's answer and its buffer, by what the walk over the text came to.
-- Assumes nothing.
use Prim.Native.Nat.{ℕ, ◌+◌, ◌*◌, ◌-◌, ◌≤◌, ◌<◌}
use mathlib.Core.Path.{◌≡◌, refl, sym, ◌∙◌, ap}
use mathlib.Core.Bool.{Bool, true, false, cond}
use Rattle.std.specs.Prelude.{Result, Ok, Err}
use mathlib.Core.List.{List, ◌++◌, append-nil}
use native.Mathlib.Omega.{arith}
use borrow.Author.Tests.{lt-ltb, le-ltb, ltb-false}
use lib.Dec.{ltb}
use lib.ListN.{length, drop}
use Rattle.table.specs.Answers.{Said, gives, refuses}
use Rattle.notation.specs.Trees.{Tree}
use Rattle.notation.specs.Tables.{size, table_of}
use Rattle.notation.specs.Decision.{Outcome, whole, stuck, outcome}
use Rattle.notation.specs.Calls.{limited, compiled, compile_says, compile_leaves, stuck_at, stops_at}
use Rattle.notation.specs.Walks.{counted, WalkedTo}
use Rattle.notation.proofs.Records.{records-length}

-- the walk counts, and a text over the limit stops at it
pub counts-over : (text : List ℕ) → 4096 < length text → Err 4096 ≡ counted (length text) (limited text)
unfolding limited
counts-over text h = let n : length text - (length text - 4096) ≡ 4096 = omega arith in rw (lt-ltb 4096 (length text) h, n)

pub counts-within :
    (text : List ℕ) (r : Result ℕ ℕ) (entry out : List ℕ) → length text ≤ 4096 → WalkedTo (outcome text) (length text) r entry out
    → r ≡ counted (length text) (limited text)
unfolding limited
counts-within text r entry out h w = rw (le-ltb 4096 (length text) h) w.0

-- a text that is whole is within the limit, and the walk over it is the decision's
pub within : (text : List ℕ) (n : ℕ) → Ok n ≡ counted (length text) (limited text) → length text ≤ 4096
unfolding limited
within text n w = go (ltb 4096 (length text)) refl w
  where
    go : (b : Bool) → ltb 4096 (length text) ≡ b → Ok n ≡ counted (length text) (cond b (stuck (length text - 4096)) (outcome text))
        → length text ≤ 4096
    go true e v = cc
    go false e v = ltb-false 4096 (length text) e

decided : (text : List ℕ) → length text ≤ 4096 → limited text ≡ outcome text
unfolding limited
decided text h = rw (le-ltb 4096 (length text) h)

-- what the call says and leaves, together
pub record Answers (text out final : List ℕ) (said : Said) : Type 0 where
  pub says_right : said ≡ compile_says text (length out)
  pub leaves_right : final ≡ compile_leaves text out

-- a refusal leaves the buffer
refuses-answers : (text out : List ℕ) (n d : ℕ) → refuses n d ≡ compile_says text (length out) → Answers text out out (refuses n d)
unfolding compile_leaves
refuses-answers text out n d e = record { says_right = e; leaves_right = rw (sym e) }

module _ (text out : List ℕ) where
  says-by : (x : Outcome) → limited text ≡ x → compile_says text (length out) ≡ compiled x (length out)
  unfolding compile_says
  says-by x e = rw e

  -- a text that is not whole
  pub not-whole : (at : ℕ) → Err at ≡ counted (length text) (limited text) → Answers text out out (refuses 15 0)
  not-whole at w = go (limited text) refl w
    where
      go : (x : Outcome) → limited text ≡ x → Err at ≡ counted (length text) x → Answers text out out (refuses 15 0)
      go (whole t) e v = cc
      go (stuck m) e v = refuses-answers text out 15 0 (sym (says-by (stuck m) e))

  module _ (n : ℕ) (w : Ok n ≡ counted (length text) (limited text)) where
    -- a text that is whole: its tree has so many records
    found : (P : Type 0) → ((t : Tree) → limited text ≡ whole t → n ≡ size t → P) → P
    found P f = go (limited text) refl w
      where
        go : (x : Outcome) → limited text ≡ x → Ok n ≡ counted (length text) x → P
        go (whole t) e v = let k : n ≡ size t = cc in f t e k
        go (stuck m) e v = cc

    -- too many records, too short a buffer, or a table
    pub too_many : 255 < n → Answers text out out (refuses 16 0)
    too_many m =
        found _ (λ t e v. refuses-answers text out 16 0 (sym (says-by (whole t) e ∙ rw (lt-ltb 255 (size t) (omega (arith, v))))))

    table-length : (t : Tree) → n ≡ size t → length (table_of t) ≡ 4 * n
    table-length t e = records-length 0 t ∙ ap (λ (i : ℕ). 4 * i) (sym e)

    pub too_short : n ≤ 255 → length out < 4 * n → Answers text out out (refuses 11 (4 * n))
    too_short m short =
        found _ (λ t e v.
        refuses-answers text out 11 (4 * n)
        (sym (says-by (whole t) e ∙ rw (le-ltb 255 (size t) (omega (arith, v)), table-length t v, lt-ltb (length out) (4 * n) short))))

    -- the second walk comes to what the first came to
    pub walks-again :
        (x : Result ℕ ℕ) (final : List ℕ) → WalkedTo (outcome text) (length text) x out final → x ≡ Ok n
    walks-again x final y = (rw (sym (decided text (within text n w))) at y).0 ∙ sym w

    pub compiles :
        (x : Result ℕ ℕ) (final : List ℕ) → WalkedTo (outcome text) (length text) x out final → n ≤ 255 → 4 * n ≤ length out
        → Answers text out final (gives n)
    unfolding compile_leaves
    compiles x final y few room =
        found _ (λ t e v.
        let z : WalkedTo (whole t) (length text) x out final = rw (sym (decided text (within text n w)), e) at y in
        let s : compile_says text (length out) ≡ gives n =
        says-by (whole t) e
        ∙ rw (le-ltb 255 (size t) (omega (arith, v)), table-length t v, le-ltb (length out) (4 * n) room)
        (ap gives (sym v)) in
        let a : 4 * (size t + 0) ≡ 4 * n = omega (arith, v) in
        let b : final ≡ table_of t ++ drop (4 * n) out = z.1.front (omega (arith, v)) (omega (arith, v)) ∙ rw (append-nil, a) in
        record { says_right = sym s; leaves_right = b ∙ sym (rw (s, e, table-length t v)) })

-- where a text stops
pub stops-whole : (text : List ℕ) (n : ℕ) → Ok n ≡ counted (length text) (limited text) → length text ≡ stops_at text
unfolding stops_at
stops-whole text n w = go (limited text) w
  where
    go : (x : Outcome) → Ok n ≡ counted (length text) x → length text ≡ stuck_at (length text) x
    go (whole t) v = refl
    go (stuck m) v = cc

pub stops-stuck : (text : List ℕ) (at : ℕ) → Err at ≡ counted (length text) (limited text) → at ≡ stops_at text
unfolding stops_at
stops-stuck text at w = go (limited text) w
  where
    go : (x : Outcome) → Err at ≡ counted (length text) x → at ≡ stuck_at (length text) x
    go (whole t) v = cc
    go (stuck m) v = cc
