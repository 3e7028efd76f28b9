-- The ways out of the page's call: what each says, and what it leaves in the output buffer and of the scratch.
-- Assumes nothing.
use Prim.Native.Nat.{ℕ, ◌≤◌, ◌<◌}
use mathlib.Core.Path.{◌≡◌, sym, ◌∙◌, ap}
use mathlib.Core.Bool.{true, false, true≢false}
use mathlib.Core.List.{List}
use native.Mathlib.Omega.{arith}
use borrow.Author.Tests.{le-ltb}
use lib.Dec.{ltb}
use lib.ListN.{length, take}
use Rattle.std.specs.Prelude.{Result, Ok, Err}
use Rattle.std.specs.Result.{IsErrAnd, MatchResult}
use Rattle.std.proofs.lemmas.Result.{IfOk-at_ok}
use Rattle.table.specs.declared.Refusal.{Refusal}
use Rattle.table.specs.Records.{count}
use Rattle.table.specs.Answers.{Said, gives, refuses, refusal, rules_say as admit_says}
use Rattle.reading.proofs.Admission.{refusal-numbers}
use Rattle.matcher.specs.Calls.{read_says, read_leaves}
use Rattle.lines.specs.Lines.{lines_of}
use Rattle.page.specs.declared.PageRefusal.{PageRefusal}
use Rattle.page.specs.declared.PageRefusal.TheVariants.{LineRules, PageRules, OneLine, WholePage}
use Rattle.page.specs.Entries.{Rules}
use Rattle.page.specs.Outcomes.{Who, the_page, line_rules, page_rules, one_line, PageSaid, names, at_line, refusal_says, outcome_says}
use Rattle.page.specs.Pages.{Sizes, classes_of, rules_say, page_says, page_leaves, keeps_scratch, PageTaken}
use Rattle.page.specs.Steps.{lines_then, LinesRead}
use Rattle.table.proofs.Exits.{passed_on}
use Rattle.page.proofs.Exits.{Exit, Renamed, mapped_ok}
use Rattle.page.proofs.Meaning.{rules-counted, said_all, page-refused, page-said, page-left, page-line-rules, page-page-rules, page-many, page-lines-said}

-- a refusal has one who is named, a number and a detail
at-line-numbers : (i : ℕ) (why : Refusal) → (n : ℕ) × (d : ℕ) × (at_line i (refusal why) ≡ refuses n d)
at-line-numbers i why = let x : (n : ℕ) × (d : ℕ) × (refusal why ≡ refuses n d) = refusal-numbers why in (x.0, i, ap (at_line i) x.2)

named : (who : Who) (a : Said) → (n : ℕ) × (d : ℕ) × (a ≡ refuses n d) → (w : Who) × (n : ℕ) × (d : ℕ) × (names who a ≡ names w (refuses n d))
named who a x = (who, x.0, x.1, ap (names who) x.2)

refusal-named : (why : PageRefusal) → (who : Who) × (n : ℕ) × (d : ℕ) × (refusal_says why ≡ names who (refuses n d))
refusal-named (LineRules why) = named line_rules (refusal why) (refusal-numbers why)
refusal-named (PageRules why) = named page_rules (refusal why) (refusal-numbers why)
refusal-named (OneLine why i) = named one_line (at_line i (refusal why)) (at-line-numbers i why)
refusal-named (WholePage why) = named the_page (refusal why) (refusal-numbers why)

-- rules that are let in
pub let-in :
    {s : Said} (Q : Refusal → PageRefusal → Type 0) (a : Result (List ℕ) Refusal) (q : Result (List ℕ) PageRefusal) (x : List ℕ) → admit_says a ≡ s
    → MatchResult a (λ x. q ≡ Ok x) (λ e. IsErrAnd q (Q e))
    → q ≡ Ok x
    → s ≡ gives (count x)
let-in Q a q x e m f = sym e ∙ ap admit_says (mapped_ok Q a q x m f)

module _ (l p : Rules) (page : List ℕ) where
  -- both rules and the number of lines are taken, so that the scratch is free
  pub scratch-free :
      {i j n : ℕ} {A : Type 0} → rules_say l ≡ gives i → rules_say p ≡ gives j → n ≡ length (lines_of page) → n ≤ 255 → keeps_scratch l p page ≡ true → A
  unfolding keeps_scratch
  scratch-free lines-in page-in e h k =
      let few : ltb 255 (length (lines_of page)) ≡ false = le-ltb 255 (length (lines_of page)) (omega arith) in
      let none : keeps_scratch l p page ≡ false = simp (lines-in, page-in, few) in
      absurd (true≢false (sym k ∙ none))

  module _ (z : Sizes) (out : List ℕ) where
    -- a refusal leaves the output buffer as it was
    pub left-refused :
        (r : Result ℕ PageRefusal) (why : PageRefusal) → Exit r why → outcome_says r ≡ page_says l p page z (length out) → out ≡ page_leaves l p page z out
    left-refused r why f e =
        let x : (who : Who) × (n : ℕ) × (d : ℕ) × (refusal_says why ≡ names who (refuses n d)) = refusal-named why in
        sym (page-refused l p page z out x.0 x.1 x.2 (sym e ∙ ap outcome_says (passed_on r why f) ∙ x.3))

    -- the refusals in their order
    pub by-line-rules :
        (a : Result (List ℕ) Refusal) (r : Result ℕ PageRefusal) {why : PageRefusal} → admit_says a ≡ rules_say l → Renamed LineRules a why → Exit r why
        → outcome_says r ≡ page_says l p page z (length out)
    by-line-rules a r {why} e x f =
        let y : (n : ℕ) × (d : ℕ) × (refusal x.0 ≡ refuses n d) = refusal-numbers x.0 in
        rw (passed_on r why f, x.2, y.2) (sym (page-line-rules l p page z (length out) y.0 y.1 (sym e ∙ ap admit_says x.1 ∙ y.2)))

    pub by-page-rules :
        {i : ℕ} (b : Result (List ℕ) Refusal) (r : Result ℕ PageRefusal) {why : PageRefusal} → rules_say l ≡ gives i → admit_says b ≡ rules_say p
        → Renamed PageRules b why → Exit r why
        → outcome_says r ≡ page_says l p page z (length out)
    by-page-rules {i} b r {why} lines-in e x f =
        let y : (n : ℕ) × (d : ℕ) × (refusal x.0 ≡ refuses n d) = refusal-numbers x.0 in
        rw (passed_on r why f, x.2, y.2)
        (sym (page-page-rules l p page z (length out) i y.0 y.1 lines-in (sym e ∙ ap admit_says x.1 ∙ y.2)))

    module _ {i j : ℕ} (lines-in : rules_say l ≡ gives i) (page-in : rules_say p ≡ gives j) {n : ℕ} (e : n ≡ length (lines_of page)) where
      pub by_count : 255 < n → names the_page (refuses 20 0) ≡ page_says l p page z (length out)
      by_count h = sym (page-many l p page z (length out) i j lines-in page-in (omega arith))

      pub left_by_count : 255 < n → out ≡ page_leaves l p page z out
      left_by_count h = sym (page-refused l p page z out the_page 20 0 (sym (by_count h)))

      module _ (h : n ≤ 255) {classes : List ℕ} {r : Result ℕ PageRefusal} (x : LinesRead l z page classes r) where
        pub by-line : (s : Result ℕ PageRefusal) {why : PageRefusal} → r ≡ Err why → Exit s why → outcome_says s ≡ page_says l p page z (length out)
        by-line s {why} f g =
            let said : PageSaid = names the_page (read_says p.table p.start (classes_of l page) z.work (length out)) in
            rw (passed_on s why g)
            (sym
            (page-lines-said l p page z (length out) i j lines-in page-in (omega arith)
            ∙ x.said said
            ∙ ap (λ (q : Result ℕ PageRefusal). lines_then q said) f))

        -- nothing is refused: what Read says and leaves of the class bytes
        module _ {m : ℕ} (f : r ≡ Ok m) where
          all-taken : PageTaken l p page z
          all-taken =
              record {
                by_lines = rules-counted l i lines-in;
                by_page = rules-counted p j page-in;
                few = omega arith;
                lines = said_all l z 0 (lines_of page) (λ u. x.said u ∙ rw f);
              }

          these-classes : take m classes ≡ classes_of l page
          these-classes = IfOk-at_ok (λ n. take n classes ≡ classes_of l page) f x.classed

          pub by-classes :
              (said : PageSaid) → said ≡ names the_page (read_says p.table p.start (take m classes) z.work (length out))
              → said ≡ page_says l p page z (length out)
          by-classes said s = s ∙ rw these-classes (sym (page-said l p page z all-taken (length out)))

          pub left_by-classes :
              (final : List ℕ) → final ≡ read_leaves p.table p.start (take m classes) z.work out → final ≡ page_leaves l p page z out
          left_by-classes final g = g ∙ rw these-classes (sym (page-left l p page z all-taken out))
