-- Examples of the order of tokens, with the verdict on each (document 02, request 5).
-- Assumes nothing.
use Rattle.std.specs.Prelude.{ℕ, List, [], ◌∷◌, ◌++◌, Result, Ok, Err, replicate}
use Rattle.table.specs.declared.Refusal.{Refusal}
use Rattle.table.specs.declared.Refusal.TheVariants.{Pairs, TokenBytes}
use Rattle.order.specs.declared.Pair.{Pair}
use Rattle.order.specs.declared.Verdict.{Verdict}
use Rattle.order.specs.declared.Verdict.TheVariants.{Kept, Broken}

pub record Case : Type 0 where
  pub tokens : List ℕ
  pub pairs : List Pair
  pub verdict : Result Verdict Refusal

-- the tokens of these names, each with some offset and length
abbrev pub named : List ℕ → List ℕ
named [] = []
named (x ∷ xs) = x ∷ (7 ∷ (9 ∷ named xs))

-- the pair whose first name is x and whose second is y, as the lift temperature, 1, before the brake temperature, 2
abbrev pub before : ℕ → ℕ → Pair
before x y = record { first = x; second = y }

abbrev pub case : List ℕ → List Pair → Result Verdict Refusal → Case
case ts ps v = record { tokens = ts; pairs = ps; verdict = v }

abbrev pub cases : List Case
cases =
    -- "every token with a second name has, earlier in the list, a token with its first name"
    case (named (1 ∷ 2 ∷ [])) (before 1 2 ∷ []) (Ok (Kept 2))
    ∷ (case (named (1 ∷ 3 ∷ 2 ∷ 2 ∷ [])) (before 1 2 ∷ []) (Ok (Kept 4))
    ∷ (case (named (3 ∷ 3 ∷ [])) (before 1 2 ∷ []) (Ok (Kept 2))
    ∷ (case (named []) (before 1 2 ∷ []) (Ok (Kept 0))
    ∷ (case (named (2 ∷ [])) [] (Ok (Kept 1))
    -- "If not, it gives the number, from 0, of the first token that breaks some pair"
    ∷ (case (named (2 ∷ [])) (before 1 2 ∷ []) (Ok (Broken 0))
    ∷ (case (named (2 ∷ 1 ∷ [])) (before 1 2 ∷ []) (Ok (Broken 0))
    ∷ (case (named (3 ∷ 2 ∷ 3 ∷ 2 ∷ [])) (before 1 2 ∷ []) (Ok (Broken 1))
    ∷ (case (named (1 ∷ 2 ∷ 3 ∷ [])) (before 1 2 ∷ (before 4 3 ∷ [])) (Ok (Broken 2))
    ∷ (case (named (0 ∷ 255 ∷ [])) (before 255 0 ∷ []) (Ok (Broken 0))
    -- "A pair with one name twice is broken by the first token of that name"
    ∷ (case (named (1 ∷ 2 ∷ 2 ∷ [])) (before 2 2 ∷ []) (Ok (Broken 1))
    -- "17 for over 64 pairs, then 18 for a token list whose bytes aren't a multiple of 3"
    ∷ (case (named (1 ∷ 2 ∷ [])) (replicate 64 (before 1 2)) (Ok (Kept 2))
    ∷ (case (named (1 ∷ 2 ∷ [])) (replicate 65 (before 1 2)) (Err Pairs)
    ∷ (case (named (1 ∷ 2 ∷ []) ++ 1 ∷ []) (replicate 65 (before 1 2)) (Err Pairs)
    ∷ (case (named (1 ∷ 2 ∷ []) ++ 1 ∷ []) (before 1 2 ∷ []) (Err TokenBytes)
    ∷ (case (named (2 ∷ 1 ∷ []) ++ 1 ∷ 1 ∷ []) (before 1 2 ∷ []) (Err TokenBytes) ∷ [])))))))))))))))
