-- Live lines that hold a table, a start number and bytes, with every spare byte 0: what they hold, what a byte more or less makes of them, and
-- the ones that are made afresh.
-- Assumes nothing.
use Prim.Native.Nat.{ℕ, zero, suc, ◌-◌, ◌≤◌, ◌<◌}
use native.Mathlib.Nat.{sub-zero, zero-sub, suc-sub-suc}
use native.Mathlib.Omega.{arith}
use mathlib.Core.Path.{◌≡◌, sym, ◌∙◌, ap, subst}
use mathlib.Core.List.{List, [], ◌∷◌, ◌++◌}
use lib.ListN.{length, get_or, take, drop, set, replicate, length-append}
use lib.Seq.{length-take-le, take_all, take-suc, append_snoc, take-append_seam, set-append_seam}
use Rattle.table.specs.declared.Refusal.{Refusal}
use Rattle.std.specs.Prelude.{Result, Ok, Err}
use Rattle.table.specs.Records.{count}
use Rattle.table.specs.Answers.{Said, gives, refuses, refusal, rules_say}
use Rattle.table.proofs.Passing.{count-bound}
use Rattle.reading.specs.Calls.{if_start}
use Rattle.reading.proofs.Admission.{Admitted, start_gives, refusal-numbers}
use Rattle.live.specs.declared.LiveLine.{LiveLine}
use Rattle.live.specs.Lines.{table_of, bytes_of, padded, holding, refused_line, lengthened, shortened}
use Rattle.live.specs.Calls.{new_says, made_by, new_leaves, facts_say, line_says}
use Rattle.live.proofs.Saying.{Ruled}

-- bytes in an array: the bytes themselves, one more, and one less
padded-take : (n : ℕ) (s : List ℕ) → take (length s) (padded n s) ≡ s
padded-take n s = take-append_seam s (replicate (n - length s) 0)

padded-more : (n : ℕ) (s : List ℕ) (c : ℕ) → length s < n → set (padded n s) (length s) c ≡ padded n (s ++ (c ∷ []))
padded-more n s c l =
    let m : ℕ = n - length (s ++ (c ∷ [])) in
    let e : n - length s ≡ suc m = omega (arith, length-append s (c ∷ [])) in
    ap (λ (i : ℕ). set (s ++ replicate i 0) (length s) c) e
    ∙ set-append_seam s 0 (replicate m 0) c
    ∙ sym (append_snoc s c (replicate m 0))

padded-less : (n : ℕ) (s : List ℕ) (c : ℕ) → length s < n → set (padded n (s ++ (c ∷ []))) (length s) 0 ≡ padded n s
padded-less n s c l =
    let m : ℕ = n - length (s ++ (c ∷ [])) in
    let e : n - length s ≡ suc m = omega (arith, length-append s (c ∷ [])) in
    ap (λ (u : List ℕ). set u (length s) 0) (append_snoc s c (replicate m 0))
    ∙ set-append_seam s c (replicate m 0) 0
    ∙ ap (λ (i : ℕ). s ++ replicate i 0) (sym e)

-- some bytes are those before the last one, and the last one
last-split : (s : List ℕ) → ¬ (length s ≡ 0) → s ≡ take (length s - 1) s ++ (get_or s (length s - 1) 0 ∷ [])
last-split s some =
    sym (take_all (suc (length s - 1)) s (omega arith)) ∙ take-suc s (length s - 1) 0 (omega (arith, some))

-- the spare bytes of a new array
drop-zeros : (n i : ℕ) → drop {A = ℕ} i (replicate n 0) ≡ replicate (n - i) 0
drop-zeros n zero = rw (sub-zero n)
drop-zeros zero (suc i) = rw (zero-sub (suc i))
drop-zeros (suc n) (suc i) = drop-zeros n i ∙ rw (suc-sub-suc n i)

module _ (t : List ℕ) (k : ℕ) where
  same_line :
      {bytes bytes' : List ℕ} {n n' : ℕ} → bytes ≡ bytes' → n ≡ n'
      → ◌≡◌ {A = LiveLine} (record { table = padded 1020 t; size = length t; start = k; bytes = bytes; count = n })
      (record { table = padded 1020 t; size = length t; start = k; bytes = bytes'; count = n' })
  same_line e f = cc

  module _ (s : List ℕ) where
    pub holding-table : table_of (holding t k s) ≡ t
    holding-table = padded-take 1020 t

    pub holding-bytes : bytes_of (holding t k s) ≡ s
    holding-bytes = padded-take 255 s

    pub holding-lengthened : (c : ℕ) → length s < 255 → lengthened (holding t k s) c ≡ holding t k (s ++ (c ∷ []))
    holding-lengthened c l = same_line (padded-more 255 s c l) (sym (length-append s (c ∷ [])))

    pub holding-shortened : ¬ (length s ≡ 0) → length s ≤ 255 → shortened (holding t k s) ≡ holding t k (take (length s - 1) s)
    holding-shortened some l =
        let p : List ℕ = take (length s - 1) s in
        let c : ℕ = get_or s (length s - 1) 0 in
        let e : length p ≡ length s - 1 = length-take-le (length s - 1) s (omega arith) in
        same_line
        (ap (λ (u : List ℕ). set (padded 255 u) (length s - 1) 0) (last-split s some)
        ∙ ap (λ (i : ℕ). set (padded 255 (p ++ (c ∷ []))) i 0) (sym e)
        ∙ padded-less 255 p c (omega (arith, some)))
        (sym e)

    -- it is not refused, and its answers are those of its rules and bytes
    pub holding-ruled : Admitted t k → length s ≤ 255 → Ruled (padded 1020 t) (length t) k (length s)
    holding-ruled a l =
        record {
          size_inside = omega (arith, count-bound t a.passes);
          admitted = subst (λ (u : List ℕ). Admitted u k) (sym holding-table) a;
          count_inside = l;
        }

    pub holding-says : (work : ℕ) → line_says (holding t k s) work ≡ facts_say t k s work
    holding-says work = rw (holding-table, holding-bytes)

  -- made afresh: the rules and no bytes, or the refused line
  pub fresh-accepted : (n : ℕ) → new_says t k ≡ gives n → new_leaves t k ≡ holding t k []
  unfolding new_leaves
  fresh-accepted n e = ap (λ (x : Said). made_by x t k) e

  pub fresh-admitted : (n : ℕ) → new_says t k ≡ gives n → Admitted t k
  unfolding new_says
  fresh-admitted n e = start_gives t k (gives (count t)) n e

  pub fresh-refused : (n d : ℕ) → new_says t k ≡ refuses n d → new_leaves t k ≡ refused_line
  unfolding new_leaves
  fresh-refused n d e = ap (λ (x : Said). made_by x t k) e

  -- the same by the answer of `admit`
  module _ (r : Result (List ℕ) Refusal) (e : rules_say r ≡ if_start t k (gives (count t))) where
    pub new-says : rules_say r ≡ new_says t k
    unfolding new_says
    new-says = e

    pub new-accepted : (x : List ℕ) → r ≡ Ok x → new_leaves t k ≡ holding t k []
    new-accepted x f = fresh-accepted (count x) (sym new-says ∙ ap rules_say f)

    pub new-refused : (why : Refusal) → r ≡ Err why → new_leaves t k ≡ refused_line
    new-refused why f =
        let x : (n : ℕ) × (d : ℕ) × (refusal why ≡ refuses n d) = refusal-numbers why in
        fresh-refused x.0 x.1 (sym new-says ∙ ap rules_say f ∙ x.2)

  -- the table as it was copied, into an array of zeros
  pub copied-line :
      (table : List ℕ) → table ≡ t ++ drop (length t) (replicate 1020 0)
      → ◌≡◌ {A = LiveLine} (record { table = table; size = length t; start = k; bytes = replicate 255 0; count = 0 }) (holding t k [])
  copied-line table e =
      let f : table ≡ padded 1020 t = e ∙ ap (λ (u : List ℕ). t ++ u) (drop-zeros 1020 (length t)) in
      ap (λ (u : List ℕ). record { table = u; size = length t; start = k; bytes = replicate 255 0; count = 0 }) f
