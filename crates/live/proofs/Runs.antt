-- Every list of calls on a fresh live line goes as the model goes: its bytes are the model's, its answers are true of the model's bytes, and it
-- holds its rules all along (document 02, request 7).
-- Assumes nothing.
use Prim.Native.Nat.{ℕ, ◌≤◌}
use native.Mathlib.Omega.{arith}
use mathlib.Core.Path.{◌≡◌, refl, ◌∙◌, ap}
use mathlib.Core.List.{List, [], ◌∷◌}
use lib.ListN.{length}
use Rattle.table.specs.Records.{record_bytes}
use Rattle.table.specs.Answers.{Said, gives, refuses}
use Rattle.reading.proofs.Admission.{Admitted, start_gives}
use Rattle.live.specs.declared.LiveLine.{LiveLine}
use Rattle.live.specs.Lines.{holding}
use Rattle.live.specs.Calls.{new_says, new_leaves}
use Rattle.live.specs.Runs.{Call, call_says, call_leaves, line_after, answers_of, altered, model_says, Right, no_call, refused-call, answered-call, rules_table, rules_start, RunsAsModel}
use Rattle.live.proofs.Holding.{fresh-admitted, fresh-accepted, fresh-refused}
use Rattle.live.proofs.OneCall.{Modelled, call-model}

-- a list of calls on a live line against the model, which starts from the bytes s
pub record Run (t : List ℕ) (k : ℕ) (h : LiveLine) (s : List ℕ) (calls : List Call) : Type 0 where
  pub bytes : List ℕ
  pub right : Right t k s calls (answers_of h calls) bytes
  pub line : line_after h calls ≡ holding t k bytes

-- one call more in front
more :
    {t : List ℕ} {k : ℕ} {h h' : LiveLine} {s s' : List ℕ} {call : Call} {calls : List Call} {said : Said} → call_leaves h call ≡ h'
    → call_says h call ≡ said
    → (run : Run t k h' s' calls)
    → Right t k s (call ∷ calls) (said ∷ answers_of h' calls) run.bytes
    → Run t k h s (call ∷ calls)
more {calls = calls} e f run r =
    record { bytes = run.bytes; right = rw (e, f) r; line = ap (λ (x : LiveLine). line_after x calls) e ∙ run.line }

-- on a live line that holds a table that passes with the start record in it, and bytes
module _ (t : List ℕ) (k : ℕ) (a : Admitted t k) where
  step :
      (s : List ℕ) (l : length s ≤ 255) (call : Call) (calls : List Call)
      → ((s' : List ℕ) → length s' ≤ 255 → Run t k (holding t k s') s' calls)
      → Run t k (holding t k s) s (call ∷ calls)
  step s l call calls rest = go (model_says t k s call) refl
    where
      m : Modelled t k s call
      m = call-model t k a s l call

      go : (x : Said) → model_says t k s call ≡ x → Run t k (holding t k s) s (call ∷ calls)
      go (refuses n d) f =
          let run : Run t k (holding t k s) s calls = rest s l in
          more (m.refused n d f) (m.says ∙ f) run
          (refused-call s run.bytes call calls (answers_of (holding t k s) calls) n d f run.right)
      go (gives n) f =
          let run : Run t k (holding t k (altered s call)) (altered s call) calls = rest (altered s call) (m.short n f) in
          more (m.answered n f) (m.says ∙ f) run
          (answered-call s run.bytes call calls (answers_of (holding t k (altered s call)) calls) n f (m.facts n f) run.right)

  pub run-model : (calls : List Call) (s : List ℕ) → length s ≤ 255 → Run t k (holding t k s) s calls
  run-model [] s l = record { bytes = s; right = no_call s; line = refl }
  run-model (call ∷ calls) s l = step s l call calls (run-model calls)

-- the rules of the refused line pass
nothing-admitted : Admitted (record_bytes 0 0 0 0) 0
nothing-admitted = start_gives (record_bytes 0 0 0 0) 0 (gives 1) 1 refl

-- a run on the fresh live line, by what it holds
fresh-run :
    (t : List ℕ) (k : ℕ) (calls : List Call) → new_leaves t k ≡ holding (rules_table t k) (rules_start t k) []
    → Run (rules_table t k) (rules_start t k) (holding (rules_table t k) (rules_start t k) []) [] calls
    → RunsAsModel t k calls
fresh-run t k calls e run =
    let fresh : Run (rules_table t k) (rules_start t k) (new_leaves t k) [] calls = rw e run in
    record { bytes = fresh.bytes; right = fresh.right; line = fresh.line }

pub runs-as-model : (t : List ℕ) (k : ℕ) (calls : List Call) → RunsAsModel t k calls
runs-as-model t k calls = go (new_says t k) refl
  where
    go : (x : Said) → new_says t k ≡ x → RunsAsModel t k calls
    go (gives n) e =
        fresh-run t k calls (fresh-accepted t k n e ∙ rw e) (rw e (run-model t k (fresh-admitted t k n e) calls [] (omega arith)))
    go (refuses n d) e =
        fresh-run t k calls (fresh-refused t k n d e ∙ rw e) (rw e (run-model (record_bytes 0 0 0 0) 0 nothing-admitted calls [] (omega arith)))
