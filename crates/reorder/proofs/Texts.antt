-- Rules as text with their alternatives in another order: exchanges of the sides of bars that share no line, and regroupings of rows, leave the lines that
-- the text's table spells and their tokens; exchanges alone leave Read's answers, too.
-- Assumes nothing.
use Prim.Native.Nat.{ℕ, suc, ◌+◌, ◌*◌, ◌≤◌, ◌<◌}
use native.Mathlib.Omega.{arith}
use mathlib.Core.Path.{◌≡◌, refl, sym, ◌∙◌, ap, ap₂}
use mathlib.Core.Logic.{inl, inr, ⊎_elim, ⊎_map}
use mathlib.Core.Bool.{Bool, true, false, true≢false}
use mathlib.Core.List.{List, ◌++◌}
use borrow.Author.Tests.{ltb-false}
use lib.Dec.{ltb}
use lib.ListN.{length, length-append}
use Rattle.posix.specs.Expressions.{Exp, star}
use Rattle.posix.specs.Values.{Val, left, right, pair, none, more, flat, records}
use Rattle.posix.specs.Relation.{Posix, posix_left, posix_right, posix-pair, posix_none, posix-more}
use Rattle.posix.specs.Decision.{Parsed, found, missing, parse}
use Rattle.posix.proofs.Languages.{parts-map, iterated-map}
use Rattle.posix.proofs.Flats.{posix-flat, posix-reads, posix-spelled}
use Rattle.posix.proofs.Parse.{parse-sound, parse-missing}
use Rattle.posix.proofs.Found.{parse-found, parse-none}
use Rattle.table.specs.Records.{count}
use Rattle.table.specs.Faults.{Passes}
use Rattle.table.specs.Expression.{exp_of}
use Rattle.table.specs.Answers.{Said, refuses}
use Rattle.table.specs.Checked.{or_else}
use Rattle.reading.specs.Codec.{record_size, encode}
use Rattle.reading.proofs.Lengths.{encode-length}
use Rattle.reading.proofs.Admission.{start_inside}
use Rattle.matcher.specs.Calls.{work_size, read_parsed, read_says}
use Rattle.tokens.specs.Tokens.{Token, filter, has_size}
use Rattle.lexer.specs.Lexing.{reading_tokens, tokens_of}
use Rattle.notation.specs.Trees.{Tree, alt, many, tag_of, expression}
use Rattle.notation.specs.Tables.{under, size, table_of}
use Rattle.notation.specs.Accepted.{Text}
use Rattle.notation.proofs.Standing.{table-count, table-stands}
use Rattle.notation.proofs.Ranges.{Ordered, whole-ordered}
use Rattle.notation.proofs.Passing.{ordered-passes}
use Rattle.reorder.specs.Texts.{SidesApart, Regrouped, to_right, to_left, Step, step_exchange, step_regroup, step_left, step_right, step_first, step_second, step_many, Arranged, arranged_none, arranged_more}
use Rattle.reorder.proofs.Languages.{SameLines}
use Rattle.reorder.proofs.Standing.{tree_below, tree_parts, tree-tokens, stands-expression}
use Rattle.reorder.proofs.Lines.{SameReading, same_then}
use Rattle.reorder.proofs.Outcomes.{else_same, room-same}

-- a step leaves the lines, the root's tag, the number of records and the ranges
regrouped-lines : {t t' : Tree} → Regrouped t t' → SameLines (expression t) (expression t')
regrouped-lines to_right s = (
  ⊎_elim (⊎_elim (λ l. inl l) (λ l. inr (inl l))) (λ l. inr (inr l)),
  ⊎_elim (λ l. inl (inl l)) (⊎_elim (λ l. inl (inr l)) (λ l. inr l)),
)
regrouped-lines to_left s = (
  ⊎_elim (λ l. inl (inl l)) (⊎_elim (λ l. inl (inr l)) (λ l. inr l)),
  ⊎_elim (⊎_elim (λ l. inl l) (λ l. inr (inl l))) (λ l. inr (inr l)),
)

step_lines : {g : Bool} {t t' : Tree} → Step g t t' → SameLines (expression t) (expression t')
step_lines (step_exchange x) s = (⊎_elim (λ l. inr l) (λ l. inl l), ⊎_elim (λ l. inr l) (λ l. inl l))
step_lines (step_regroup e x) s = regrouped-lines x s
step_lines (step_left x) s = (⊎_map (step_lines x s).0 (λ l. l), ⊎_map (step_lines x s).1 (λ l. l))
step_lines (step_right x) s = (⊎_map (λ l. l) (step_lines x s).0, ⊎_map (λ l. l) (step_lines x s).1)
step_lines (step_first x) s = (parts-map (λ v. (step_lines x v).0) (λ v l. l), parts-map (λ v. (step_lines x v).1) (λ v l. l))
step_lines (step_second x) s = (parts-map (λ v l. l) (λ v. (step_lines x v).0), parts-map (λ v l. l) (λ v. (step_lines x v).1))
step_lines (step_many x) s = (iterated-map (λ v. (step_lines x v).0), iterated-map (λ v. (step_lines x v).1))

regrouped-tag : {t t' : Tree} → Regrouped t t' → tag_of t' ≡ tag_of t
regrouped-tag to_right = refl
regrouped-tag to_left = refl

step-tag : {g : Bool} {t t' : Tree} → Step g t t' → tag_of t' ≡ tag_of t
step-tag (step_exchange x) = refl
step-tag (step_regroup e x) = regrouped-tag x
step-tag (step_left x) = refl
step-tag (step_right x) = refl
step-tag (step_first x) = refl
step-tag (step_second x) = refl
step-tag (step_many x) = refl

regrouped-under : {t t' : Tree} → Regrouped t t' → under t' ≡ under t
regrouped-under to_right = omega arith
regrouped-under to_left = omega arith

step-under : {g : Bool} {t t' : Tree} → Step g t t' → under t' ≡ under t
step-under (step_exchange {t = t} {u = u} x) = omega arith
step-under (step_regroup e x) = regrouped-under x
step-under (step_left x) = omega (arith, step-under x)
step-under (step_right x) = omega (arith, step-under x)
step-under (step_first x) = omega (arith, step-under x)
step-under (step_second x) = omega (arith, step-under x)
step-under (step_many x) = omega (arith, step-under x)

regrouped-ordered : {t t' : Tree} → Regrouped t t' → Ordered t → Ordered t'
regrouped-ordered to_right o = (o.0.0, (o.0.1, o.1))
regrouped-ordered to_left o = ((o.0, o.1.0), o.1.1)

step-ordered : {g : Bool} {t t' : Tree} → Step g t t' → Ordered t → Ordered t'
step-ordered (step_exchange x) o = (o.1, o.0)
step-ordered (step_regroup e x) o = regrouped-ordered x o
step-ordered (step_left x) o = (step-ordered x o.0, o.1)
step-ordered (step_right x) o = (o.0, step-ordered x o.1)
step-ordered (step_first x) o = (step-ordered x o.0, o.1)
step-ordered (step_second x) o = (o.0, step-ordered x o.1)
step-ordered (step_many x) o = step-ordered x o

-- the POSIX reading of the line by the second tree, with the same tagged parts as that by the first, v; where nothing is regrouped it has as many records
record Image (g : Bool) (t t' : Tree) (s : List ℕ) (v : Val) : Type 0 where
  value : Val
  posix : Posix s (expression t') value
  below : (at : ℕ) → tree_below t' value at ≡ tree_below t v at
  counted : g ≡ false → records value ≡ records v

-- a row regrouped, whose first side that reads the line stays the first
regrouped-image : {g : Bool} {t t' : Tree} {s : List ℕ} {v : Val} → g ≡ true → Regrouped t t' → Posix s (expression t) v → Image g t t' s v
regrouped-image e to_right (posix_left (posix_left {v = v} q)) = record { value = left v; posix = posix_left q; below = λ at. refl; counted = λ f. absurd (true≢false (sym e ∙ f)) }
regrouped-image e to_right (posix_left (posix_right {v = v} q other)) =
    record { value = right (left v); posix = posix_right (posix_left q) other; below = λ at. refl; counted = λ f. absurd (true≢false (sym e ∙ f)) }
regrouped-image e to_right (posix_right {v = v} q other) =
    record { value = right (right v); posix = posix_right (posix_right q (λ z. other (inr z))) (λ z. other (inl z)); below = λ at. refl; counted = λ f. absurd (true≢false (sym e ∙ f)) }
regrouped-image e to_left (posix_left {v = v} q) = record { value = left (left v); posix = posix_left (posix_left q); below = λ at. refl; counted = λ f. absurd (true≢false (sym e ∙ f)) }
regrouped-image e to_left (posix_right (posix_left {v = v} q) other) =
    record { value = left (right v); posix = posix_left (posix_right q other); below = λ at. refl; counted = λ f. absurd (true≢false (sym e ∙ f)) }
regrouped-image e to_left (posix_right (posix_right {v = v} q other') other) =
    record { value = right v; posix = posix_right q (⊎_elim other other'); below = λ at. refl; counted = λ f. absurd (true≢false (sym e ∙ f)) }

-- the parts with the root's, and the bytes
module _ {g : Bool} {t t' : Tree} {r : Exp} {s : List ℕ} {v : Val} (x : Step g t t') (q : Posix s r v) (i : Image g t t' s v) where
  image-flat : flat i.value ≡ flat v
  image-flat = posix-flat i.posix ∙ sym (posix-flat q)

  image-parts : (at : ℕ) → tree_parts t' i.value at ≡ tree_parts t v at
  image-parts at = rw (step-tag x, image-flat, i.below at)

-- the iterations of a star, by each of them
many-image :
    {g : Bool} {t t' : Tree} {r : Exp} {s : List ℕ} {w : Val} (n : ℕ) → Step g t t'
    → SameLines r (expression t')
    → ((s1 : List ℕ) (v : Val) → Posix s1 r v → length s1 ≤ 255 → Image g t t' s1 v)
    → Posix s (star r) w
    → length s ≤ 255
    → Image g (many t n) (many t' n) s w
many-image n x lines each (posix_none d) h = record { value = none; posix = posix_none d; below = λ at. refl; counted = λ f. refl }
many-image {g = g} {t = t} {t' = t'} n x lines each (posix-more s1 s2 {v = v} {w = w} d some q q' long) h =
    let both = ap length d ∙ length-append s1 s2 in
    let i : Image g t t' s1 v = each s1 v q (omega (arith, both)) in
    let j : Image g (many t n) (many t' n) s2 w = many-image n x lines each q' (omega (arith, both)) in
    record {
      value = more i.value j.value;
      posix =
          posix-more s1 s2 d some i.posix j.posix
          (λ s3 s4 d' f y z. long s3 s4 d' f ((lines (s1 ++ s3)).1 y) (iterated-map (λ u. (lines u).1) z));
      below =
          λ at.
          ap₂ ◌++◌ (image-parts x q i at)
          (ap (λ (y : List ℕ). tree_below (many t' n) j.value (at + length y)) (image-flat x q i) ∙ j.below (at + length (flat v)));
      counted = λ f. ap₂ ◌+◌ (i.counted f) (j.counted f);
    }

step-image : {g : Bool} {t t' : Tree} {s : List ℕ} {v : Val} → Step g t t' → Posix s (expression t) v → length s ≤ 255 → Image g t t' s v
step-image {s = s} (step_exchange apart) (posix_left {v = v} q) h =
    record { value = right v; posix = posix_right q (λ z. apart s h (posix-spelled q) z); below = λ at. refl; counted = λ f. refl }
step-image (step_exchange apart) (posix_right {v = v} q other) h = record { value = left v; posix = posix_left q; below = λ at. refl; counted = λ f. refl }
step-image (step_regroup e x) q h = regrouped-image e x q
step-image {g = g} (step_left {t = t} {t' = t'} x) (posix_left {s = s} {v = v} q) h =
    let i : Image g t t' s v = step-image x q h in
    record { value = left i.value; posix = posix_left i.posix; below = image-parts x q i; counted = λ f. ap suc (i.counted f) }
step-image {s = s} (step_left x) (posix_right {v = v} q other) h =
    record { value = right v; posix = posix_right q (λ z. other ((step_lines x s).1 z)); below = λ at. refl; counted = λ f. refl }
step-image (step_right x) (posix_left {v = v} q) h = record { value = left v; posix = posix_left q; below = λ at. refl; counted = λ f. refl }
step-image {g = g} (step_right {u = u} {u' = u'} x) (posix_right {s = s} {v = v} q other) h =
    let i : Image g u u' s v = step-image x q h in
    record { value = right i.value; posix = posix_right i.posix other; below = image-parts x q i; counted = λ f. ap suc (i.counted f) }
step-image {g = g} (step_first {t = t} {t' = t'} {u = u} x) (posix-pair s1 s2 {v1 = v} {v2 = w} d q q' long) h =
    let i : Image g t t' s1 v = step-image x q (omega (arith, ap length d ∙ length-append s1 s2)) in
    record {
      value = pair i.value w;
      posix = posix-pair s1 s2 d i.posix q' (λ s3 s4 d' some y z. long s3 s4 d' some ((step_lines x (s1 ++ s3)).1 y) z);
      below = λ at. ap₂ ◌++◌ (image-parts x q i at) (ap (λ (y : List ℕ). tree_parts u w (at + length y)) (image-flat x q i));
      counted = λ f. ap (λ (m : ℕ). suc (m + records w)) (i.counted f);
    }
step-image {g = g} (step_second {t = t} {u = u} {u' = u'} x) (posix-pair s1 s2 {v1 = v} {v2 = w} d q q' long) h =
    let i : Image g u u' s2 w = step-image x q' (omega (arith, ap length d ∙ length-append s1 s2)) in
    record {
      value = pair v i.value;
      posix = posix-pair s1 s2 d q i.posix (λ s3 s4 d' some y z. long s3 s4 d' some y ((step_lines x s4).1 z));
      below = λ at. ap (λ (y : List Token). tree_parts t v at ++ y) (image-parts x q' i (at + length (flat v)));
      counted = λ f. ap (λ (m : ℕ). suc (records v + m)) (i.counted f);
    }
step-image (step_many {n = n} x) q h = many-image n x (step_lines x) (λ s v q' h'. step-image x q' h') q h

-- the tables of two trees a step apart
module _ {g : Bool} {t t' : Tree} (x : Step g t t') (o : Ordered t) (few : size t ≤ 255) where
  passes : Passes (table_of t)
  passes = ordered-passes t o few

  passes' : Passes (table_of t')
  passes' = ordered-passes t' (step-ordered x o) (omega (arith, step-under x))

  inside : under t < count (table_of t)
  inside = omega (arith, table-count t)

  inside' : under t' < count (table_of t')
  inside' = omega (arith, table-count t')

  expressed : exp_of (table_of t) (under t) ≡ expression t
  expressed = stands-expression (table_of t) passes (table-stands t) inside

  expressed' : exp_of (table_of t') (under t') ≡ expression t'
  expressed' = stands-expression (table_of t') passes' (table-stands t') inside'

  -- the tokens of a line
  step-tokens : (s : List ℕ) → length s ≤ 255 → tokens_of (table_of t') (under t') s ≡ tokens_of (table_of t) (under t) s
  step-tokens s h = rw (expressed, expressed') (go (parse (expression t) s) refl)
    where
      go :
          (y : Parsed) → parse (expression t) s ≡ y
          → reading_tokens (table_of t') (under t') (parse (expression t') s) ≡ reading_tokens (table_of t) (under t) y
      go (found v) e =
          let q : Posix s (expression t) v = parse-sound (expression t) s v e in
          let i : Image g t t' s v = step-image x q h in
          ap (reading_tokens (table_of t') (under t')) ((parse-found (expression t') s i.value).1 i.posix)
          ∙ tree-tokens (table_of t') (table-stands t') (posix-reads i.posix)
          ∙ ap (filter has_size) (image-parts x q i 0)
          ∙ sym (tree-tokens (table_of t) (table-stands t) (posix-reads q))
      go missing e =
          ap (reading_tokens (table_of t') (under t'))
          ((parse-none (expression t') s).1 (λ z. parse-missing (expression t) s e ((step_lines x s).1 z)))

  -- Read's answer, where nothing is regrouped
  step-found :
      g ≡ false → (s : List ℕ) → length s ≤ 255 → (room : ℕ)
      → read_parsed (table_of t') (under t') (parse (expression t') s) room ≡ read_parsed (table_of t) (under t) (parse (expression t) s) room
  step-found f s h room = go (parse (expression t) s) refl
    where
      go :
          (y : Parsed) → parse (expression t) s ≡ y
          → read_parsed (table_of t') (under t') (parse (expression t') s) room ≡ read_parsed (table_of t) (under t) y room
      go (found v) e =
          let q : Posix s (expression t) v = parse-sound (expression t) s v e in
          let i : Image g t t' s v = step-image x q h in
          ap (λ (y : Parsed). read_parsed (table_of t') (under t') y room) ((parse-found (expression t') s i.value).1 i.posix)
          ∙ room-same room (encode (table_of t') (under t') i.value) (encode (table_of t) (under t) v) (records i.value) (records v)
          (encode-length (table_of t') (under t') (posix-reads i.posix)
          ∙ ap (λ (n : ℕ). record_size * n) (i.counted f)
          ∙ sym (encode-length (table_of t) (under t) (posix-reads q)))
          (i.counted f)
      go missing e =
          ap (λ (y : Parsed). read_parsed (table_of t') (under t') y room)
          ((parse-none (expression t') s).1 (λ z. parse-missing (expression t) s e ((step_lines x s).1 z)))

  step-read : g ≡ false → (s : List ℕ) (work room : ℕ) → read_says (table_of t') (under t') s work room ≡ read_says (table_of t) (under t) s work room
  unfolding read_says
  step-read f s work room =
      (start_inside (table_of t') (under t') passes' inside').said_on _
      ∙ else_same (ltb 255 (length s)) (refuses 7 0) _ _
      (λ h.
      ap₂ (λ (n : ℕ) (y : Said). or_else (ltb work (work_size n (length s))) (refuses 10 0) y) same-counts
      (rw (expressed, expressed') (step-found f s (ltb-false 255 (length s) h) room)))
      ∙ sym ((start_inside (table_of t) (under t) passes inside).said_on _)
    where
      same-counts : count (table_of t') ≡ count (table_of t)
      same-counts = omega (arith, table-count t, table-count t', step-under x)

  step-reading : g ≡ false → SameReading (table_of t) (under t) (table_of t') (under t')
  step-reading f = record { reads = step-read f; tokens = λ s h p l. step-tokens s h }

-- any number of steps
pub arranged-under : {g : Bool} {t t' : Tree} → Arranged g t t' → under t' ≡ under t
arranged-under arranged_none = refl
arranged-under (arranged_more x y) = arranged-under y ∙ step-under x

pub arranged-ordered : {g : Bool} {t t' : Tree} → Arranged g t t' → Ordered t → Ordered t'
arranged-ordered arranged_none o = o
arranged-ordered (arranged_more x y) o = arranged-ordered y (step-ordered x o)

pub arranged-lines : {g : Bool} {t t' : Tree} → Arranged g t t' → SameLines (expression t) (expression t')
arranged-lines arranged_none s = (λ l. l, λ l. l)
arranged-lines (arranged_more x y) s = (λ l. (arranged-lines y s).0 ((step_lines x s).0 l), λ l. (step_lines x s).1 ((arranged-lines y s).1 l))

pub arranged-tokens :
    {g : Bool} {t t' : Tree} → Arranged g t t' → Ordered t → size t ≤ 255 → (s : List ℕ) → length s ≤ 255
    → tokens_of (table_of t') (under t') s ≡ tokens_of (table_of t) (under t) s
arranged-tokens arranged_none o few s h = refl
arranged-tokens (arranged_more x y) o few s h =
    arranged-tokens y (step-ordered x o) (omega (arith, step-under x)) s h ∙ step-tokens x o few s h

pub arranged-reading :
    {t t' : Tree} → Arranged false t t' → Ordered t → size t ≤ 255 → SameReading (table_of t) (under t) (table_of t') (under t')
arranged-reading arranged_none o few = record { reads = λ s work room. refl; tokens = λ s h p l. refl }
arranged-reading (arranged_more {u = u} x y) o few =
    let o' : Ordered u = step-ordered x o in
    let few' : size u ≤ 255 = omega (arith, step-under x) in
    same_then (step-reading x o few refl) (arranged-reading y o' few') (ordered-passes u o' few') (omega (arith, table-count u))

-- two neighbours of a row, behind others, grouped as the notation groups
pub neighbours : {t u w : Tree} {n : ℕ} → SidesApart u w → Arranged true (alt (alt t u 0) w n) (alt (alt t w 0) u n)
neighbours apart =
    arranged_more (step_regroup refl to_right)
    (arranged_more (step_right (step_exchange apart)) (arranged_more (step_regroup refl to_left) arranged_none))

-- two texts whose trees are so
module _ {s s' : List ℕ} (x : Text s) (x' : Text s') where
  pub text-size : {g : Bool} → Arranged g x.tree x'.tree → size x'.tree ≡ size x.tree
  text-size y = omega (arith, arranged-under y)

  pub text-lines : {g : Bool} → Arranged g x.tree x'.tree → SameLines (expression x.tree) (expression x'.tree)
  text-lines y = arranged-lines y

  pub text-tokens :
      {g : Bool} → Arranged g x.tree x'.tree → size x.tree ≤ 255 → (line : List ℕ) → length line ≤ 255
      → tokens_of (table_of x'.tree) (under x'.tree) line ≡ tokens_of (table_of x.tree) (under x.tree) line
  text-tokens y = arranged-tokens y (whole-ordered x.grouped)

  pub text-reading :
      Arranged false x.tree x'.tree → size x.tree ≤ 255
      → SameReading (table_of x.tree) (under x.tree) (table_of x'.tree) (under x'.tree)
  text-reading y = arranged-reading y (whole-ordered x.grouped)
