-- The verdict on a token list (document 02, request 5): "If not, it gives the number, from 0, of the first token that breaks some pair. ..
-- Turned away: 17 for over 64 pairs, then 18 for a token list whose bytes aren't a multiple of 3." And the paper's numbers for every verdict.
-- Assumes nothing.
use Rattle.std.specs.Prelude.{ℕ, zero, suc, ◌%◌, cond, List, Result, Ok, Err, eqb, ltb, length}
use Rattle.table.specs.Answers.{Said, gives, refusal}
use Rattle.table.specs.declared.Refusal.{Refusal}
use Rattle.table.specs.declared.Refusal.TheVariants.{Pairs, TokenBytes}
use Rattle.order.specs.declared.Pair.{Pair}
use Rattle.order.specs.declared.Verdict.{Verdict}
use Rattle.order.specs.declared.Verdict.TheVariants.{Kept, Broken}
use Rattle.order.specs.Breaks.{token_count, breaks_some}

-- the first of n tokens from token i on that breaks some pair
abbrev pub first_from : List ℕ → List Pair → ℕ → ℕ → Verdict
first_from ts ps zero i = Kept i
first_from ts ps (suc n) i = cond (breaks_some ts ps i) (Broken i) (first_from ts ps n (suc i))

-- 17, then 18, then what is found, for a list of n pairs
unfoldable pub judged : List ℕ → ℕ → List Pair → Result Verdict Refusal
judged ts n ps = cond (ltb 64 n) (Err Pairs) (cond (eqb (length ts % 3) 0) (Ok (first_from ts ps (token_count ts) 0)) (Err TokenBytes))

unfoldable pub ordered : List ℕ → List Pair → Result Verdict Refusal
ordered ts ps = judged ts (length ps) ps

-- the verdict in the paper's numbers: the number of the first token that breaks a pair, and the token count where none does
abbrev pub verdict_says : Result Verdict Refusal → Said
verdict_says (Ok (Kept n)) = gives n
verdict_says (Ok (Broken i)) = gives i
verdict_says (Err why) = refusal why

unfoldable pub order_says : List ℕ → List Pair → Said
order_says ts ps = verdict_says (ordered ts ps)
