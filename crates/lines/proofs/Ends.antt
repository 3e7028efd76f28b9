-- Up to the next byte 10 no line ends, and it ends one.
-- Assumes nothing.
use Prim.Native.Nat.{ℕ, suc, ◌+◌, ◌-◌, ◌<◌}
use mathlib.Core.Path.{◌≡◌, refl, sym, ◌∙◌, ap}
use mathlib.Core.List.{List, [], ◌∷◌, ◌++◌, append_assoc, append-nil}
use native.Mathlib.Omega.{arith}
use native.Mathlib.Numerals.{add-one}
use borrow.Author.Tests.{ne_eqb}
use lib.ListN.{length, take, drop, length-drop}
use lib.Seq.{take-suc, take-add, get_or-take, get_or-drop, length-take-le}
use Rattle.lines.specs.Lines.{NoEnd, ended_lines, open_line}
use Rattle.lines.specs.Ends.{NextEnd}
use Rattle.lines.proofs.Splitting.{ended-append, open-append}

pub none_tail : (c : ℕ) (s : List ℕ) → NoEnd (c ∷ s) → NoEnd s
none_tail c s h i l = h (suc i) (omega arith)

none-ended : (u s : List ℕ) → NoEnd s → ended_lines u s ≡ []
none-ended u [] h = refl
none-ended u (c ∷ s) h = rw (ne_eqb c 10 (h 0 (omega arith))) (none-ended (u ++ (c ∷ [])) s (none_tail c s h))

none_open : (u s : List ℕ) → NoEnd s → open_line u s ≡ u ++ s
none_open u [] h = sym (append-nil u)
none_open u (c ∷ s) h =
    rw (ne_eqb c 10 (h 0 (omega arith))) (none_open (u ++ (c ∷ [])) s (none_tail c s h) ∙ append_assoc u (c ∷ []) s)

module _ {block : List ℕ} {from end : ℕ} (e : NextEnd block from end) where
  -- the bytes up to the end
  abbrev line : List ℕ
  line = take (end - from) (drop from block)

  joined : take end block ≡ take from block ++ line
  joined =
      let n : end ≡ from + (end - from) = omega (arith, e.behind) in
      ap (λ (i : ℕ). take i block) n ∙ take-add from (end - from) block

  -- of which none is 10
  pub next-plain : NoEnd line
  next-plain i h g =
      let l : length line ≡ end - from = length-take-le (end - from) (drop from block) (omega (arith, length-drop from block, e.inside)) in
      e.passed (from + i) (omega arith) (omega arith)
      (sym (get_or-drop from block i 0) ∙ sym (get_or-take (end - from) (drop from block) i 0 (omega arith)) ∙ g)

  module _ (u : List ℕ) where
    -- no line ends before the end, and the bytes belong to the open line
    pub passed-ended : ended_lines u (take end block) ≡ ended_lines u (take from block)
    passed-ended =
        ap (ended_lines u) joined
        ∙ ended-append u (take from block) line
        ∙ ap (λ (ss : List (List ℕ)). ended_lines u (take from block) ++ ss) (none-ended (open_line u (take from block)) line next-plain)
        ∙ append-nil (ended_lines u (take from block))

    pub passed-open : open_line u (take end block) ≡ open_line u (take from block) ++ line
    passed-open = ap (open_line u) joined ∙ open-append u (take from block) line ∙ none_open (open_line u (take from block)) line next-plain

    -- the byte 10 ends the line
    module _ (h : end < length block) where
      behind : take (end + 1) block ≡ take end block ++ (10 ∷ [])
      behind =
          ap (λ (i : ℕ). take i block) (add-one end)
          ∙ take-suc block end 0 h
          ∙ ap (λ (c : ℕ). take end block ++ (c ∷ [])) (e.found h)

      pub end-ended : ended_lines u (take (end + 1) block) ≡ ended_lines u (take end block) ++ (open_line u (take end block) ∷ [])
      end-ended = ap (ended_lines u) behind ∙ ended-append u (take end block) (10 ∷ [])

      pub end-open : open_line u (take (end + 1) block) ≡ []
      end-open = ap (open_line u) behind ∙ open-append u (take end block) (10 ∷ [])
