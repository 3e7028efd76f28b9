-- One call on a live line: a refused one leaves it, and on a live line that holds rules and bytes it says and leaves what the model says and leaves.
-- Assumes nothing.
use Prim.Native.Nat.{ℕ, ◌-◌, ◌≤◌, ◌<◌}
use native.Mathlib.Omega.{arith}
use borrow.Author.Tests.{leb-false, eqb-false}
use mathlib.Core.Path.{◌≡◌, refl, ◌∙◌, ap}
use mathlib.Core.Bool.{Bool, true, false}
use mathlib.Core.List.{List, [], ◌∷◌, ◌++◌}
use lib.Dec.{leb, ltb, eqb}
use lib.ListN.{length, take, length-append}
use lib.Seq.{length-take-le}
use Rattle.posix.specs.Spells.{spells}
use Rattle.posix.specs.Extends.{extends}
use Rattle.posix.proofs.Spells.{spells-sound, spells-complete}
use Rattle.posix.proofs.Extends.{extends-sound, extends-complete}
use Rattle.posix.proofs.Parse.{posix-exists}
use Rattle.posix.proofs.Flats.{posix-spelled}
use Rattle.table.specs.Records.{count}
use Rattle.table.specs.Answers.{Said, gives, refuses}
use Rattle.table.specs.Checked.{or_else}
use Rattle.table.specs.Expression.{exp_of}
use Rattle.reading.proofs.Admission.{Admitted, or-gives}
use Rattle.matcher.specs.Calls.{work_size}
use Rattle.live.specs.declared.LiveLine.{LiveLine}
use Rattle.live.specs.Lines.{padded, holding, lengthened, shortened}
use Rattle.live.specs.Calls.{facts_number, if_held, facts_say, line_says, add_says, add_leaves, take_back_says, take_back_leaves, after_call}
use Rattle.live.specs.Runs.{Call, adds, takes_back, call_says, call_leaves, altered, model_says, TrueFacts}
use Rattle.live.proofs.Saying.{ruled-on}
use Rattle.live.proofs.Holding.{holding-lengthened, holding-shortened, holding-ruled, holding-says}

-- the live line that a call would leave
abbrev pub changed : LiveLine → Call → LiveLine
changed h (adds c work) = lengthened h c
changed h (takes_back work) = shortened h

-- of any live line, however filled: "A refused call changes neither line nor model"
leaves : (h : LiveLine) (call : Call) → call_leaves h call ≡ after_call (call_says h call) (changed h call) h
unfolding add_leaves take_back_leaves
leaves h (adds c work) = refl
leaves h (takes_back work) = refl

pub refused-keeps : (h : LiveLine) (call : Call) (n d : ℕ) → call_says h call ≡ refuses n d → call_leaves h call ≡ h
refused-keeps h call n d e = leaves h call ∙ ap (λ (x : Said). after_call x (changed h call) h) e

pub answered-changes : (h : LiveLine) (call : Call) (n : ℕ) → call_says h call ≡ gives n → call_leaves h call ≡ changed h call
answered-changes h call n e = leaves h call ∙ ap (λ (x : Said). after_call x (changed h call) h) e

-- the facts that are said are true
pub true-facts : (t : List ℕ) (k : ℕ) (s : List ℕ) (work n : ℕ) → facts_say t k s work ≡ gives n → TrueFacts (exp_of t k) s n
true-facts t k s work n e =
    let number : gives (facts_number (spells (exp_of t k) s) (extends (exp_of t k) s)) ≡ gives n =
    (or-gives (ltb work (work_size (count t) (length s))) 10 0 _ n e).1 in
    record {
      reads = spells (exp_of t k) s;
      extends = extends (exp_of t k) s;
      number = cc;
      has_reading = (
        (λ h. posix-exists (exp_of t k) s (spells-sound (exp_of t k) s h)),
        (λ p. spells-complete (exp_of t k) s (posix-spelled p.1)),
      );
      can_extend = (extends-sound (exp_of t k) s, extends-complete (exp_of t k) s);
    }

-- two answers behind one test are the same where they are heard
or_same : (b : Bool) (x y z : Said) → (b ≡ false → y ≡ z) → or_else b x y ≡ or_else b x z
or_same true x y z e = refl
or_same false x y z e = e refl

-- a call on a live line that holds a table, a start number and bytes, against the model
pub record Modelled (t : List ℕ) (k : ℕ) (s : List ℕ) (call : Call) : Type 0 where
  pub says : call_says (holding t k s) call ≡ model_says t k s call
  pub refused : (n d : ℕ) → model_says t k s call ≡ refuses n d → call_leaves (holding t k s) call ≡ holding t k s
  pub answered : (n : ℕ) → model_says t k s call ≡ gives n → call_leaves (holding t k s) call ≡ holding t k (altered s call)
  pub short : (n : ℕ) → model_says t k s call ≡ gives n → length (altered s call) ≤ 255
  pub facts : (n : ℕ) → model_says t k s call ≡ gives n → TrueFacts (exp_of t k) (altered s call) n

module _ (t : List ℕ) (k : ℕ) (a : Admitted t k) (s : List ℕ) (l : length s ≤ 255) where
  ruled-says : (said : Said) → if_held (padded 1020 t) (length t) k (length s) said ≡ said
  ruled-says = ruled-on (padded 1020 t) (length t) k (length s) (holding-ruled t k s a l)

  -- what a changed live line would say, by what it holds
  changed-says :
      (call : Call) (work : ℕ) → changed (holding t k s) call ≡ holding t k (altered s call)
      → line_says (changed (holding t k s) call) work ≡ facts_say t k (altered s call) work
  changed-says call work e = ap (λ (h : LiveLine). line_says h work) e ∙ holding-says t k (altered s call) work

  call-says : (call : Call) → call_says (holding t k s) call ≡ model_says t k s call
  unfolding add_says take_back_says
  call-says (adds c work) =
      ruled-says _
      ∙ or_same (leb 255 (length s)) (refuses 7 0) _ _
      (λ b. changed-says (adds c work) work (holding-lengthened t k s c (leb-false 255 (length s) b)))
  call-says (takes_back work) =
      ruled-says _
      ∙ or_same (eqb (length s) 0) (refuses 19 0) _ _
      (λ b. changed-says (takes_back work) work (holding-shortened t k s (eqb-false (length s) 0 b) l))

  -- what an answer that is no refusal tells
  record Moved (call : Call) (n : ℕ) : Type 0 where
    holds : changed (holding t k s) call ≡ holding t k (altered s call)
    short : length (altered s call) ≤ 255
    facts : TrueFacts (exp_of t k) (altered s call) n

  moved : (call : Call) (n : ℕ) → model_says t k s call ≡ gives n → Moved call n
  moved (adds c work) n e =
      let p = or-gives (leb 255 (length s)) 7 0 _ n e in
      let room : length s < 255 = leb-false 255 (length s) p.0 in
      record {
        holds = holding-lengthened t k s c room;
        short = omega (arith, length-append s (c ∷ []));
        facts = true-facts t k (s ++ (c ∷ [])) work n p.1;
      }
  moved (takes_back work) n e =
      let p = or-gives (eqb (length s) 0) 19 0 _ n e in
      record {
        holds = holding-shortened t k s (eqb-false (length s) 0 p.0) l;
        short = omega (arith, length-take-le (length s - 1) s (omega arith));
        facts = true-facts t k (take (length s - 1) s) work n p.1;
      }

  pub call-model : (call : Call) → Modelled t k s call
  call-model call =
      record {
        says = call-says call;
        refused = λ n d e. refused-keeps (holding t k s) call n d (call-says call ∙ e);
        answered = λ n e. answered-changes (holding t k s) call n (call-says call ∙ e) ∙ (moved call n e).holds;
        short = λ n e. (moved call n e).short;
        facts = λ n e. (moved call n e).facts;
      }
