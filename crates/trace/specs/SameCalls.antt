-- Two tables that the calls do not tell apart at a start number.
-- Assumes nothing.
use Rattle.std.specs.Prelude.{ℕ, ◌≤◌, ◌≡◌, List, length}
use Rattle.table.specs.Records.{count}
use Rattle.reading.specs.Calls.{spell_says, spell_leaves}
use Rattle.ranking.specs.Answers.{compare_says}
use Rattle.tokens.specs.Listed.{tokens_says, tokens_leaves}
use Rattle.matcher.specs.Calls.{work_size, read_says, read_leaves}

-- by table u each call says and leaves at start number k what it does by table t: Read of any line where each table has work area enough, Spell,
-- Compare and Tokens of any bytes
pub record SameCalls (t u : List ℕ) (k : ℕ) : Type 0 where
  pub reads :
      (s out : List ℕ) (work less : ℕ) → work_size (count t) (length s) ≤ work → work_size (count u) (length s) ≤ less
      → (read_says u k s less (length out) ≡ read_says t k s work (length out)) × (read_leaves u k s less out ≡ read_leaves t k s work out)
  pub spells :
      (bs out : List ℕ) → (spell_says u k bs (length out) ≡ spell_says t k bs (length out)) × (spell_leaves u k bs out ≡ spell_leaves t k bs out)
  pub compares : (bs cs : List ℕ) → compare_says u k bs cs ≡ compare_says t k bs cs
  pub lists :
      (bs out : List ℕ)
      → (tokens_says u k bs (length out) ≡ tokens_says t k bs (length out)) × (tokens_leaves u k bs out ≡ tokens_leaves t k bs out)
