-- The lines of a page one after the other: what holds before each of them, and at their end or at the first that is refused.
-- Assumes nothing.
use Prim.Native.Nat.{ℕ, suc, ◌+◌, ◌-◌, ◌/◌, ◌≤◌, ◌<◌, min}
use mathlib.Core.Path.{◌≡◌, refl, sym, ◌∙◌, ap}
use mathlib.Core.Bool.{Bool, true, false}
use mathlib.Core.List.{List, [], ◌∷◌, ◌++◌, append_assoc, append-nil, map}
use native.Mathlib.Omega.{arith}
use native.Mathlib.Numerals.{add-one}
use lib.ListN.{length, take, drop, drop_of_length-le}
use Rattle.std.specs.Prelude.{Result, Ok, Err}
use Rattle.table.specs.declared.Refusal.{Refusal}
use Rattle.table.specs.Answers.{Said, gives, refuses, refusal}
use Rattle.reading.proofs.Admission.{refusal-numbers}
use Rattle.tokens.specs.Tokens.{Token, cons_if, token_bytes, Inside}
use Rattle.lines.specs.Lines.{lines_of}
use Rattle.lines.specs.Ends.{NextEnd}
use Rattle.lines.proofs.Nexts.{lines_next, next-counted}
use Rattle.lexer.specs.Lexing.{tokens_of, lex_says}
use Rattle.lexer.proofs.Lexing.{line-inside}
use Rattle.page.specs.declared.Step.{Step}
use Rattle.page.specs.declared.PageRefusal.TheVariants.{OneLine}
use Rattle.page.specs.Entries.{Rules, Entry, entry_of, class_of, Within}
use Rattle.page.specs.Outcomes.{one_line, PageSaid, names, at_line}
use Rattle.page.specs.Pages.{Sizes, by_parity, if_taken, line_says, lines_say, entries_of, classes_of}
use Rattle.page.specs.Steps.{opens_run, classes_from, step_says, Stepped, LinesRead}
use Rattle.page.proofs.Runs.{classes-from}
use Rattle.page.proofs.Comparing.{inside-within}
use Rattle.page.proofs.Parity.{parity-next, parity-length}

-- the lengths of the buffers stay what they were
pub record Lengths (z : Sizes) (work reading first second classes : List ℕ) : Type 0 where
  pub of_work : length work ≡ z.work
  pub of_reading : length reading ≡ z.reading
  pub of_first : length first ≡ z.first
  pub of_second : length second ≡ z.second
  pub of_classes : length classes ≡ 255

pub lengths-kept :
    {z : Sizes} {work reading first second classes work' reading' first' second' classes' : List ℕ} → Lengths z work reading first second classes
    → length work' ≡ length work → length reading' ≡ length reading → length first' ≡ length first → length second' ≡ length second
    → length classes' ≡ length classes
    → Lengths z work' reading' first' second' classes'
lengths-kept k a b c d e =
    record {
      of_work = a ∙ k.of_work;
      of_reading = b ∙ k.of_reading;
      of_first = c ∙ k.of_first;
      of_second = d ∙ k.of_second;
      of_classes = e ∙ k.of_classes;
    }

-- before the line that begins at a position: where the line before begins and ends, the line's number, the bytes of the tokens of the line before and
-- the number of class bytes so far
pub record Going (l : Rules) (z : Sizes) (page first second classes : List ℕ) (start end at number size count : ℕ) : Type 0 where
  pub inside : at ≤ length page
  pub behind : start ≤ end
  pub ended : end ≤ length page
  pub numbered : number + length (lines_of (drop at page)) ≡ length (lines_of page)
  pub few : count ≤ number
  pub before : List Token
  pub within : Inside (length (take (end - start) (drop start page))) before
  pub held : size ≤ length (by_parity number second first)
  pub listed : take size (by_parity number second first) ≡ token_bytes before
  pub classed :
      take count classes ++ classes_from number (record { text = take (end - start) (drop start page); tokens = before }) (entries_of l (drop at page))
      ≡ classes_of l page
  pub said : (said : PageSaid) → lines_say l z 0 (lines_of page) said ≡ lines_say l z number (lines_of (drop at page)) said

pub going-first : (l : Rules) (z : Sizes) (page first second classes : List ℕ) → Going l z page first second classes 0 0 0 0 0 0
going-first l z page first second classes =
    record {
      inside = omega arith;
      behind = omega arith;
      ended = omega arith;
      numbered = omega arith;
      few = omega arith;
      before = [];
      within = tt;
      held = omega arith;
      listed = refl;
      classed = classes-from (record { text = []; tokens = [] }) (entries_of l page);
      said = λ said. refl;
    }

cons-append : (b : Bool) (x : ℕ) (ys : List ℕ) → cons_if b x [] ++ ys ≡ cons_if b x ys
cons-append true x ys = refl
cons-append false x ys = refl

taken-on : (a : Said) (m : ℕ) (said : PageSaid) (i : ℕ) → a ≡ gives m → if_taken one_line (at_line i a) said ≡ said
taken-on a m said i e = rw e

turned-away : (a : Said) (why : Refusal) (said : PageSaid) (i : ℕ) → refusal why ≡ a → if_taken one_line (at_line i a) said ≡ names one_line (at_line i (refusal why))
turned-away a why said i e =
    let x : (n : ℕ) × (d : ℕ) × (refusal why ≡ refuses n d) = refusal-numbers why in
    let f : a ≡ refuses x.0 x.1 = sym e ∙ x.2 in
    rw (f, x.2)

module _
    {l : Rules} {z : Sizes} {page work reading first second classes : List ℕ} {start stop at number size count : ℕ}
    (g : Going l z page first second classes start stop at number size count) (k : Lengths z work reading first second classes) where
  -- the line before
  abbrev prior : List ℕ
  prior = take (stop - start) (drop start page)

  abbrev last : Entry
  last = record { text = prior; tokens = g.before }

  -- its tokens lie inside it
  pub prior-within : Within prior (take size (by_parity number second first))
  prior-within = inside-within prior g.before g.listed g.within

  -- after the last line
  pub going_end : length (lines_of page) ≤ 255 → length page ≤ at → LinesRead l z page classes (Ok count)
  going_end most h =
      let none : drop at page ≡ [] = drop_of_length-le page h in
      let all : number ≡ length (lines_of page) = omega (arith, g.numbered, ap (λ (x : List ℕ). length (lines_of x)) none) in
      record {
        said = λ said. g.said said ∙ ap (λ (x : List ℕ). lines_say l z number (lines_of x) said) none;
        few = omega (arith, g.few, all);
        classed =
            sym (append-nil (take count classes))
            ∙ ap (λ (x : List ℕ). take count classes ++ classes_from number last (entries_of l x)) (sym none)
            ∙ g.classed;
      }

  module _ {end : ℕ} (e : NextEnd page at end) (h : at < length page) where
    abbrev line : List ℕ
    line = take (end - at) (drop at page)

    abbrev later : List (List ℕ)
    later = lines_of (drop (min (end + 1) (length page)) page)

    next : lines_of (drop at page) ≡ line ∷ later
    next = lines_next e h

    -- there is room for its class
    pub class-room : length (lines_of page) ≤ 255 → count < length classes
    class-room f = omega (arith, k.of_classes, g.few, g.numbered, ap length next)

    said-next : (said : PageSaid) → lines_say l z 0 (lines_of page) said ≡ lines_say l z number (line ∷ later) said
    said-next said = g.said said ∙ ap (λ (ss : List (List ℕ)). lines_say l z number ss said) next

    module _
        (first' second' : List ℕ) {classes' : List ℕ} {r : Result Step Refusal}
        (x : Stepped l (length work) (length reading) number line prior (take size (by_parity number second first)) (by_parity number first second) (by_parity number first' second') classes count classes' r)
      where
        -- what is said of it
        line-said : step_says r ≡ line_says l z number line
        line-said =
            x.said
            ∙ ap (λ (n : ℕ). lex_says l.table l.start line n (length reading) (length (by_parity number first second))) k.of_work
            ∙ ap (λ (n : ℕ). lex_says l.table l.start line z.work n (length (by_parity number first second))) k.of_reading
            ∙ ap (lex_says l.table l.start line z.work z.reading)
            (parity-length number first second
            ∙ ap (λ (n : ℕ). by_parity number n (length second)) k.of_first
            ∙ ap (by_parity number z.first) k.of_second)

        -- it is refused
        pub going-refused : (why : Refusal) → r ≡ Err why → LinesRead l z page classes' (Err (OneLine why number))
        going-refused why f =
            record {
              said = λ said. said-next said ∙ turned-away _ why _ number (sym (ap step_says f) ∙ line-said);
              few = tt;
              classed = tt;
            }

        -- it is taken
        pub going_on :
            (step : Step) (at' : ℕ) → r ≡ Ok step → at' ≡ min (end + 1) (length page) → length first' ≡ length first → length second' ≡ length second
            → Going l z page first' second' classes' at end at' (number + 1) step.size step.count
        going_on step at' f n a b =
            record {
              inside = omega arith;
              behind = e.behind;
              ended = e.inside;
              numbered = next-counted e h number (length (lines_of page)) g.numbered n;
              few = omega (arith, taken.few, g.few);
              before = tokens_of l.table l.start line;
              within = line-inside l.table l.start line;
              held =
                  omega (
                    arith,
                    taken.held,
                    ap length own,
                    parity-length number first second,
                    parity-length number first' second',
                    ap (λ (i : ℕ). by_parity number i (length second')) a,
                    ap (by_parity number (length first)) b,
                  );
              listed = ap (take step.size) own ∙ taken.listed;
              classed =
                  ap (λ (cs : List ℕ). cs ++ classes_from (number + 1) (entry_of l line) (entries_of l (drop at' page)))
                  (taken.classed g.before g.listed)
                  ∙ append_assoc (take count classes) (cons_if (opens_run number last (entry_of l line)) (class_of (entry_of l line)) [])
                  (classes_from (number + 1) (entry_of l line) (entries_of l (drop at' page)))
                  ∙ ap (λ (cs : List ℕ). take count classes ++ cs)
                  (cons-append (opens_run number last (entry_of l line)) (class_of (entry_of l line))
                  (classes_from (number + 1) (entry_of l line) (entries_of l (drop at' page))))
                  ∙ ap
                  (λ (i : ℕ).
                  take count classes
                  ++ cons_if (opens_run number last (entry_of l line)) (class_of (entry_of l line))
                  (classes_from i (entry_of l line) (entries_of l (drop at' page)))) (add-one number)
                  ∙ ap
                  (λ (i : ℕ).
                  take count classes
                  ++ cons_if (opens_run number last (entry_of l line)) (class_of (entry_of l line))
                  (classes_from (suc number) (entry_of l line) (entries_of l (drop i page)))) n
                  ∙ ap (λ (ss : List (List ℕ)). take count classes ++ classes_from number last (map (entry_of l) ss)) (sym next)
                  ∙ g.classed;
              said = λ said.
                  said-next said
                  ∙ taken-on _ (step.size / 3) _ number (sym line-said ∙ ap step_says f)
                  ∙ ap (λ (i : ℕ). lines_say l z i later said) (sym (add-one number))
                  ∙ ap (λ (i : ℕ). lines_say l z (number + 1) (lines_of (drop i page)) said) (sym n);
            }
          where
            own : by_parity (number + 1) second' first' ≡ by_parity number first' second'
            own = ap (λ (i : ℕ). by_parity i second' first') (add-one number) ∙ parity-next number second' first'

            taken : Stepped l (length work) (length reading) number line prior (take size (by_parity number second first)) (by_parity number first second) (by_parity number first' second') classes count classes' (Ok step)
            taken = rw f at x
