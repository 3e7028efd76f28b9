-- The precedence and demand 3 of an answer are those of its number, which a C caller is given.
-- Assumes nothing.
use Prim.Native.Nat.{ℕ, ◌<◌}
use mathlib.Core.Path.{◌≡◌, refl, sym, ◌∙◌, ap, subst}
use mathlib.Core.Bool.{Bool, true, false}
use mathlib.Core.List.{List}
use mathlib.Core.Logic.{◌↔◌}
use native.Mathlib.Omega.{arith}
use borrow.Author.Tests.{ltb-true, ltb-false}
use lib.Dec.{ltb}
use lib.ListN.{length}
use Rattle.posix.specs.Values.{Val}
use Rattle.table.specs.Answers.{Said, gives, refuses, number}
use Rattle.ranking.specs.OneLine.{AnswersPrecedence}
use Rattle.matcher.specs.Demands.{ReadsBest, NoneOutranks}
use Rattle.trace.specs.Numbers.{Small}
use Rattle.trace.proofs.Numbers.{same_number}

through : {A B C : Type 0} → A ↔ B → B ↔ C → A ↔ C
through f g = ((λ a. g.0 (f.0 a)), λ c. f.1 (g.1 c))

module _ {said : Said} {r : ℕ} (e : r ≡ number said) (small : Small said) where
  -- r is the number of an answer of the allowed size just where that is the answer
  told : (x : Said) → Small x → (r ≡ number x) ↔ (said ≡ x)
  told x h = ((λ f. same_number said x small h (sym e ∙ f)), λ f. e ∙ ap number f)

  -- Compare's
  pub compare-numbered :
      {bs cs : List ℕ} {v w : Val} → AnswersPrecedence (λ x. said ≡ x) bs cs v w → AnswersPrecedence (λ x. r ≡ number x) bs cs v w
  compare-numbered a =
      record {
        first_ahead = through (told (gives 1) (omega arith)) a.first_ahead;
        second_ahead = through (told (gives 2) (omega arith)) a.second_ahead;
        same_bytes = through (told (gives 0) (omega arith)) a.same_bytes;
      }

  module _ {t : List ℕ} {k : ℕ} {s out final : List ℕ} where
    -- a buffer that is long enough gives a result, whose number is below any refusal's; one that is too short gives 11 with the bytes needed
    short-numbered :
        (b : ReadsBest (λ x. said ≡ x) t k s out final) (d : ℕ) → r ≡ number (refuses 11 d)
        → (length out < length b.reading) × (d ≡ length b.reading)
    short-numbered b d f = go (ltb (length out) (length b.reading)) refl
      where
        go : (c : Bool) → ltb (length out) (length b.reading) ≡ c → (length out < length b.reading) × (d ≡ length b.reading)
        go true g =
            let l : length out < length b.reading = ltb-true (length out) (length b.reading) g in
            let x : said ≡ refuses 11 (length b.reading) = (b.too_short (length b.reading)).1 (l, refl) in
            (l, omega (arith, ap number x))
        go false g =
            let x : said ≡ gives b.records = (b.written (ltb-false (length out) (length b.reading) g)).0 in
            let n : b.records < 4294967296 = subst (λ (y : Said). Small y) x small in
            absurd (omega (arith, ap number x))

    best-numbered : ReadsBest (λ x. said ≡ x) t k s out final → ReadsBest (λ x. r ≡ number x) t k s out final
    best-numbered b =
        record {
          reading = b.reading;
          best = b.best;
          only = b.only;
          too_short = λ d. (short-numbered b d, λ x. e ∙ ap number ((b.too_short d).1 x));
          records = b.records;
          whole_records = b.whole_records;
          written = λ l. (e ∙ ap number (b.written l).0, (b.written l).1);
        }

    -- Read's
    pub read-numbered : NoneOutranks (λ x. said ≡ x) t k s out final → NoneOutranks (λ x. r ≡ number x) t k s out final
    read-numbered n =
        record {
          none = through (told (refuses 8 0) (omega arith, omega arith, (λ e. omega arith), omega arith)) n.none;
          otherwise = λ m. best-numbered (n.otherwise (λ f. m (e ∙ ap number f)));
        }
