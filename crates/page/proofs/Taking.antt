-- One line of a page: what its tokens and its class are, after it is cut into its tokens or refused.
-- Assumes nothing.
use Prim.Native.Nat.{ℕ, ◌+◌, ◌*◌, ◌/◌, ◌%◌, ◌<◌}
use mathlib.Core.Path.{◌≡◌, sym, ◌∙◌, ap}
use mathlib.Core.Bool.{Bool, true, false}
use mathlib.Core.List.{List, [], ◌++◌, append-nil}
use native.Mathlib.Omega.{arith}
use native.Mathlib.Numerals.{add-one}
use lib.ListN.{length, take, set}
use lib.Seq.{take-suc-set}
use Rattle.std.specs.Prelude.{Result, Ok}
use Rattle.table.specs.declared.Refusal.{Refusal}
use Rattle.table.specs.Answers.{gives, says}
use Rattle.tokens.specs.Tokens.{Token, cons_if, token_bytes}
use Rattle.lexer.specs.Lexing.{tokens_of, lex_says, lex_leaves}
use Rattle.lexer.proofs.Lexing.{Lexed, lexed, line-inside}
use Rattle.page.specs.Entries.{Rules, entry_of, first_name, Within}
use Rattle.page.specs.Pages.{by_parity}
use Rattle.page.specs.Steps.{opens_run, Stepped}
use Rattle.page.proofs.Comparing.{inside-within}
use Rattle.page.proofs.Parity.{parity-even, parity-odd}

-- its tokens, which lie inside it
pub tokens-within : {t : List ℕ} {k : ℕ} {s own own' : List ℕ} {n : ℕ} → Lexed t k s own own' n → Within s (take (3 * n) own')
tokens-within {t} {k} {s} x = inside-within s (tokens_of t k s) x.front (line-inside t k s)

-- a class is put, or not
class-put :
    (cs : List ℕ) (n c : ℕ) (put : Bool) → put ≡ true → n < length cs → take (n + 1) (set cs n c) ≡ take n cs ++ cons_if put c []
class-put cs n c put e l = rw e (ap (λ (i : ℕ). take i (set cs n c)) (add-one n) ∙ take-suc-set cs n c l)

class-left : (cs : List ℕ) (n c : ℕ) (put : Bool) → put ≡ false → take n cs ≡ take n cs ++ cons_if put c []
class-left cs n c put e = rw e (sym (append-nil (take n cs)))

module _
    (l : Rules) (work room i : ℕ) (s u before own own' classes : List ℕ) (m : ℕ) {n : ℕ} {r : Result ℕ Refusal} {opens : Bool}
    (e : says r ≡ lex_says l.table l.start s work room (length own)) (f : r ≡ Ok n)
    (g : own' ≡ lex_leaves l.table l.start s work room own)
    (run : (xs ys : List Token) → before ≡ token_bytes xs → take (3 * n) own' ≡ token_bytes ys
    → opens ≡ opens_run i (record { text = u; tokens = xs }) (record { text = s; tokens = ys }))
  where
    cut : Lexed l.table l.start s own own' n
    cut = lexed l.table l.start s work room own e f g

    said : gives (3 * n / 3) ≡ lex_says l.table l.start s work room (length own)
    said = let h : 3 * n / 3 ≡ n = omega arith in rw h (sym (ap says f) ∙ e)

    opens-is : (xs : List Token) → before ≡ token_bytes xs → opens ≡ opens_run i (record { text = u; tokens = xs }) (entry_of l s)
    opens-is xs h = run xs (tokens_of l.table l.start s) h cut.front

    -- it goes on with a run
    pub line-goes-on : opens ≡ false → Stepped l work room i s u before own own' classes m classes (Ok (record { size = 3 * n; count = m }))
    line-goes-on o =
        record {
          said = said;
          held = cut.room;
          listed = cut.front;
          few = omega arith;
          classed = λ xs h. class-left classes m _ _ (sym (opens-is xs h) ∙ o);
        }

    -- or opens one, with its class
    pub line-opens :
        {class : ℕ} → opens ≡ true → m < length classes
        → ((xs : List Token) → take (3 * n) own' ≡ token_bytes xs → class ≡ first_name xs)
        → Stepped l work room i s u before own own' classes m (set classes m class) (Ok (record { size = 3 * n; count = m + 1 }))
    line-opens {class} o h name =
        record {
          said = said;
          held = cut.room;
          listed = cut.front;
          few = omega arith;
          classed = λ xs b.
              rw (sym (name (tokens_of l.table l.start s) cut.front)) (class-put classes m class _ (sym (opens-is xs b) ∙ o) h);
        }

-- the tokens of the line before stand in the buffer that is not the line's own, and lie inside that line
pub even-within :
    (i size : ℕ) (first second u : List ℕ) → i % 2 ≡ 0 → Within u (take size (by_parity i second first)) → Within u (take size second)
even-within i size first second u e w = rw (parity-even i second first e) at w

pub odd-within :
    (i size : ℕ) (first second u : List ℕ) → ¬ (i % 2 ≡ 0) → Within u (take size (by_parity i second first)) → Within u (take size first)
odd-within i size first second u e w = rw (parity-odd i second first e) at w
