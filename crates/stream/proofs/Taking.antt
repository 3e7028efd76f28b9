-- The steps of taking a block: bytes up to the next end, the end of a line, and the ways out.
-- Assumes nothing.
use Prim.Native.Nat.{ℕ, suc, ◌+◌, ◌-◌, ◌≤◌, ◌<◌}
use mathlib.Core.Path.{◌≡◌, refl, sym, ◌∙◌, ap}
use mathlib.Core.List.{List, [], ◌∷◌, ◌++◌, append_assoc, append-nil}
use native.Mathlib.Omega.{arith}
use lib.ListN.{length, take, drop, length-append, length-drop, drop_of_length-le}
use lib.Seq.{take_all, length-take-le, sets-eq, drop-drop}
use Rattle.lines.specs.Lines.{ended_lines, open_line, kept_of}
use Rattle.lines.specs.Ends.{NextEnd, Kept}
use Rattle.lines.proofs.Ends.{passed-ended, passed-open, end-ended, end-open}
use Rattle.lines.proofs.Keeping.{kept_more}
use Rattle.lines.proofs.Splitting.{ended-few}
use Rattle.report.specs.Report.{line_report}
use Rattle.printing.specs.Writes.{Wrote}
use Rattle.printing.proofs.Writes.{wrote-length, wrote_then, wrote_none, wrote_as, wrote-front}
use Rattle.stream.specs.Output.{last_record, reports}
use Rattle.stream.specs.Blocks.{ended_reports, last_report, Took}
use Rattle.stream.proofs.Reports.{reports-append, kept-report}

-- a text written to the front of the part of a buffer from a position on, and the part put back
pub wrote-part :
    (out part text : List ℕ) (at size : ℕ) → size ≡ length text → at + length text ≤ length out
    → part ≡ text ++ drop (length text) (take (length out - at) (drop at out))
    → Wrote out (take at out ++ (part ++ drop (length out - at) (drop at out))) at (at + size) text
wrote-part out part text at size e h f =
    let l : length (drop at out) ≤ length out - at = omega (arith, length-drop at out) in
    record {
      moved = omega arith;
      buffer =
          ap (λ (ys : List ℕ). take at out ++ (part ++ ys)) (drop_of_length-le (drop at out) l)
          ∙ ap (λ (ys : List ℕ). take at out ++ ys) (append-nil part ∙ f)
          ∙ ap (λ (ys : List ℕ). take at out ++ (text ++ drop (length text) ys)) (take_all (length out - at) (drop at out) l)
          ∙ ap (λ (ys : List ℕ). take at out ++ (text ++ ys)) (drop-drop (length text) at out)
          ∙ sym (append_assoc (take at out) text (drop (at + length text) out))
          ∙ sym (sets-eq text out at h);
    }

-- the first `at` bytes of a block are taken
pub record Taking (t u : List ℕ) (n : ℕ) (block out line : List ℕ) (held number at written : ℕ) (final : List ℕ) : Type 0 where
  pub line_size : length line ≡ 256
  pub few : held ≤ 256
  pub within : at ≤ length block
  pub kept : take held line ≡ kept_of (open_line u (take at block))
  pub ended : number ≡ n + length (ended_lines u (take at block))
  pub wrote : Wrote out final 0 written (ended_reports t u n (take at block))
  pub room : written ≤ length final

-- none are
pub taking-none :
    (t line : List ℕ) (held n : ℕ) (block out : List ℕ) → length line ≡ 256 → held ≤ 256
    → Taking t (take held line) n block out line held n 0 0 out
taking-none t line held n block out l h =
    record {
      line_size = l;
      few = h;
      within = omega arith;
      kept = sym (take_all 256 (take held line) (omega (arith, length-take-le held line (omega arith))));
      ended = omega arith;
      wrote = wrote_none out 0;
      room = omega arith;
    }

module _ {t u : List ℕ} {n : ℕ} {block out line : List ℕ} {held number at written : ℕ} {final : List ℕ}
    (x : Taking t u n block out line held number at written final)
  where
    pub taking-length : length final ≡ length out
    taking-length = wrote-length x.wrote

    -- no more lines ended than bytes were taken
    pub taking-few : number ≤ n + at
    taking-few =
        omega (arith, x.ended, ended-few u (take at block), length-take-le at block x.within)

    -- the bytes up to the next end belong to the open line
    pub taking-passed :
        {end : ℕ} {line' : List ℕ} {held' : ℕ} → NextEnd block at end → Kept line held (take (end - at) (drop at block)) line' held'
        → length line' ≡ length line
        → Taking t u n block out line' held' number end written final
    taking-passed {end} {line'} {held'} e k l =
        record {
          line_size = l ∙ x.line_size;
          few = k.few;
          within = e.inside;
          kept =
              k.holds
              ∙ ap (λ (s : List ℕ). kept_of (s ++ take (end - at) (drop at block))) x.kept
              ∙ kept_more (open_line u (take at block)) (take (end - at) (drop at block))
              ∙ ap kept_of (sym (passed-open e u));
          ended = x.ended ∙ ap (λ (ss : List (List ℕ)). n + length ss) (sym (passed-ended e u));
          wrote = wrote_as x.wrote (ap (reports t (last_record t) (suc n)) (sym (passed-ended e u)));
          room = x.room;
        }

    -- and the byte 10 there ends the line
    pub taking-ended :
        {from m : ℕ} {final' : List ℕ} {next : ℕ} → NextEnd block from at → at < length block → m ≡ suc number
        → Wrote final final' written next (line_report t (last_record t) m (take held line))
        → next ≤ length final'
        → Taking t u n block out line 0 (number + 1) (at + 1) next final'
    taking-ended {from} {m} {final'} {next} e h i w l =
        record {
          line_size = x.line_size;
          few = omega arith;
          within = omega arith;
          kept = sym (ap kept_of (end-open e u h));
          ended =
              omega (arith, x.ended, ap length (end-ended e u h), length-append (ended_lines u (take at block)) (open_line u (take at block) ∷ []));
          wrote = wrote_as (wrote_then x.wrote w) reported;
          room = l;
        }
      where
        numbered : m ≡ suc n + length (ended_lines u (take at block))
        numbered = omega (arith, x.ended)

        report :
            line_report t (last_record t) m (take held line)
            ≡ reports t (last_record t) (suc n + length (ended_lines u (take at block))) (open_line u (take at block) ∷ [])
        report =
            ap (line_report t (last_record t) m) x.kept
            ∙ kept-report t (last_record t) m (open_line u (take at block))
            ∙ ap (λ (i : ℕ). line_report t (last_record t) i (open_line u (take at block))) numbered
            ∙ sym (append-nil (line_report t (last_record t) (suc n + length (ended_lines u (take at block))) (open_line u (take at block))))

        reported :
            ended_reports t u n (take at block) ++ line_report t (last_record t) m (take held line)
            ≡ ended_reports t u n (take (at + 1) block)
        reported =
            ap (λ (l : List ℕ). ended_reports t u n (take at block) ++ l) report
            ∙ sym (reports-append t (last_record t) (suc n) (ended_lines u (take at block)) (open_line u (take at block) ∷ []))
            ∙ ap (reports t (last_record t) (suc n)) (sym (end-ended e u h))

    -- a way out: the block is taken, or there is no room
    pub taking-took : (at < length block → length final < written + 32768) → Took t u n block out (take held line) number at written final
    taking-took stop =
        let w : (written ≡ length (ended_reports t u n (take at block))) × (final ≡ ended_reports t u n (take at block) ++ drop (length (ended_reports t u n (take at block))) out) =
        wrote-front x.wrote (omega (arith, x.room, taking-length)) in
        record {
          within = x.within;
          kept = x.kept;
          ended = x.ended;
          size = w.0;
          buffer = w.1 ∙ ap (λ (i : ℕ). ended_reports t u n (take at block) ++ drop i out) (sym w.0);
          stopped = λ h. omega (arith, stop h, taking-length);
        }

-- the end of the input: no line, or the last one
pub last_none :
    (t u : List ℕ) (n : ℕ) (out : List ℕ) → length u ≡ 0 → (0 ≡ length (last_report t u n)) × (out ≡ last_report t u n ++ drop 0 out)
last_none t [] n out h = (refl, refl)
last_none t (c ∷ u) n out h = absurd (omega arith)

pub last_some :
    (t u : List ℕ) (n : ℕ) {m : ℕ} {out final : List ℕ} {size : ℕ} → ¬ (length u ≡ 0) → m ≡ suc n
    → Wrote out final 0 size (line_report t (last_record t) m u)
    → size ≤ length out
    → (size ≡ length (last_report t u n)) × (final ≡ last_report t u n ++ drop size out)
last_some t [] n h i w l = absurd (h refl)
last_some t (c ∷ u) n {m} {out} {final} {size} h i w l =
    let e : line_report t (last_record t) m (c ∷ u) ≡ last_report t (c ∷ u) n = ap (λ (j : ℕ). line_report t (last_record t) j (c ∷ u)) i ∙ sym (append-nil (line_report t (last_record t) (suc n) (c ∷ u))) in
    let x : (size ≡ length (last_report t (c ∷ u) n)) × (final ≡ last_report t (c ∷ u) n ++ drop (length (last_report t (c ∷ u) n)) out) =
    wrote-front (wrote_as w e) l in
    (x.0, x.1 ∙ ap (λ (i : ℕ). last_report t (c ∷ u) n ++ drop i out) (sym x.0))
