-- Lists of calls on a live line, and the model (document 02, request 7): "The model is a bare list of bytes that Add lengthens and Take back
-- shortens. For every list of these calls from a fresh live line, the bytes are the model's and both facts are true of the model's list. A
-- refused call changes neither line nor model".
-- Assumes nothing.
use Rattle.std.specs.Prelude.{ℕ, ◌-◌, ◌≡◌, Bool, true, ◌↔◌, List, [], ◌∷◌, ◌++◌, leb, eqb, length, take}
use Rattle.posix.specs.Expressions.{Exp}
use Rattle.posix.specs.Values.{Val}
use Rattle.posix.specs.Relation.{Posix}
use Rattle.posix.specs.Extends.{Extends}
use Rattle.table.specs.Records.{record_bytes}
use Rattle.table.specs.Answers.{Said, gives, refuses}
use Rattle.table.specs.Checked.{or_else}
use Rattle.table.specs.Expression.{exp_of}
use Rattle.live.specs.declared.LiveLine.{LiveLine}
use Rattle.live.specs.Lines.{holding}
use Rattle.live.specs.Calls.{facts_number, facts_say, new_says, new_leaves, add_says, add_leaves, take_back_says, take_back_leaves}

-- a call: Add with its byte, or Take back, each with the length of the work area that it is lent
pub data Call : Type 0 where
  adds : ℕ → ℕ → Call
  takes_back : ℕ → Call

-- what a call says of a live line and leaves of it
abbrev pub call_says : LiveLine → Call → Said
call_says h (adds c work) = add_says h c work
call_says h (takes_back work) = take_back_says h work

abbrev pub call_leaves : LiveLine → Call → LiveLine
call_leaves h (adds c work) = add_leaves h c work
call_leaves h (takes_back work) = take_back_leaves h work

-- the live line after a list of calls, and their answers in order
abbrev pub line_after : LiveLine → List Call → LiveLine
line_after h [] = h
line_after h (call ∷ calls) = line_after (call_leaves h call) calls

abbrev pub answers_of : LiveLine → List Call → List Said
answers_of h [] = []
answers_of h (call ∷ calls) = call_says h call ∷ answers_of (call_leaves h call) calls

-- the model: a bare list of bytes, as a call that is not refused leaves it
abbrev pub altered : List ℕ → Call → List ℕ
altered s (adds c work) = s ++ (c ∷ [])
altered s (takes_back work) = take (length s - 1) s

-- and what a call on it says by the rules, a table and a start number: 7 at 255 bytes, 19 at none, 10, or the two facts
abbrev pub model_says : List ℕ → ℕ → List ℕ → Call → Said
model_says t k s (adds c work) = or_else (leb 255 (length s)) (refuses 7 0) (facts_say t k (altered s (adds c work)) work)
model_says t k s (takes_back work) = or_else (eqb (length s) 0) (refuses 19 0) (facts_say t k (altered s (takes_back work)) work)

-- the number n is that of the two facts, and both are true of the line s: it has a reading, and some bytes behind it make it one that the
-- expression spells
pub record TrueFacts (r : Exp) (s : List ℕ) (n : ℕ) : Type 0 where
  pub reads : Bool
  pub extends : Bool
  pub number : n ≡ facts_number reads extends
  pub has_reading : (reads ≡ true) ↔ ((v : Val) × Posix s r v)
  pub can_extend : (extends ≡ true) ↔ Extends r s

-- the answers of a list of calls that take the model from s to s': a refused call leaves it, and each other answer is true of the list that its
-- call leaves
pub data Right (t : List ℕ) (k : ℕ) : List ℕ → List Call → List Said → List ℕ → Type 0 where
  no_call : (s : List ℕ) → Right t k s [] [] s
  refused-call :
      (s s' : List ℕ) (call : Call) (calls : List Call) (said : List Said) (n d : ℕ) → model_says t k s call ≡ refuses n d
      → Right t k s calls said s'
      → Right t k s (call ∷ calls) (refuses n d ∷ said) s'
  answered-call :
      (s s' : List ℕ) (call : Call) (calls : List Call) (said : List Said) (n : ℕ) → model_says t k s call ≡ gives n
      → TrueFacts (exp_of t k) (altered s call) n
      → Right t k (altered s call) calls said s'
      → Right t k s (call ∷ calls) (gives n ∷ said) s'

-- the rules of a fresh live line: those that it was made from, or "one Nothing record, start 0" where they were refused
abbrev pub held_table : Said → List ℕ → List ℕ
held_table (gives n) t = t
held_table (refuses n d) t = record_bytes 0 0 0 0

abbrev pub held_start : Said → ℕ → ℕ
held_start (gives n) k = k
held_start (refuses n d) k = 0

abbrev pub rules_table : List ℕ → ℕ → List ℕ
rules_table t k = held_table (new_says t k) t

abbrev pub rules_start : List ℕ → ℕ → ℕ
rules_start t k = held_start (new_says t k) k

-- a list of calls on the live line made afresh from a table and a start number: the model ends as `bytes`, the answers are right by it, and the
-- live line holds its rules and these bytes, and nothing else
pub record RunsAsModel (t : List ℕ) (k : ℕ) (calls : List Call) : Type 0 where
  pub bytes : List ℕ
  pub right : Right (rules_table t k) (rules_start t k) [] calls (answers_of (new_leaves t k) calls) bytes
  pub line : line_after (new_leaves t k) calls ≡ holding (rules_table t k) (rules_start t k) bytes
