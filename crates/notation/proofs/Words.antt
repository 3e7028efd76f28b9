-- What the word at a byte says of the text there, and which word stands in front of each text that is a letter or a tag, whatever follows it.
-- Assumes nothing.
use Prim.Native.Nat.{ℕ, suc, ◌+◌, ◌*◌, ◌-◌, ◌≤◌, ◌<◌}
use native.Mathlib.Omega.{arith}
use mathlib.Core.Path.{◌≡◌, refl}
use mathlib.Core.Bool.{Bool, true, false, cond, ◌||◌}
use mathlib.Core.List.{List, [], ◌∷◌, ◌++◌}
use Rattle.std.specs.Prelude.{Option, Some, None}
use borrow.Author.Tests.{ltb-true, leb-true, eqb-true, lt-ltb, le-leb}
use lib.Dec.{ltb, leb, eqb}
use lib.ListN.{length, get_or, take, drop, length-drop}
use lib.Seq.{take-suc, take_all}
use Rattle.table.proofs.Passing.{and_both, or-false-left, or-false-right}
use Rattle.notation.specs.declared.Word.{Word}
use Rattle.notation.specs.declared.Word.TheVariants.{Letter, Open, Close, Star, Bar, Tag}
use Rattle.notation.specs.Grammar.{Letter as LetterText, letter_plain, letter_escaped, letter_range, Tag as TagText, tag-digits}
use Rattle.notation.specs.Grammar.{bar, asterisk, opening, closing, bracket, bracket_end, backslash, hash, hyphen, digit, special}
use Rattle.notation.specs.Decision.{later, is_digit, numeral, is_range, is_tag, escaped_word, range_word, tag_word, word_at}
use Rattle.notation.specs.Walks.{TagGiven}

-- what a word says of a byte and those behind it
pub data Read (c : ℕ) (s : List ℕ) : Option Word → Type 0 where
  read_letter : {p q n : ℕ} → n ≤ length s → LetterText (c ∷ take n s) p q → Read c s (Some (Letter p q n))
  read_open : c ≡ opening → Read c s (Some Open)
  read_close : c ≡ closing → Read c s (Some Close)
  read_star : c ≡ asterisk → Read c s (Some Star)
  read_bar : c ≡ bar → Read c s (Some Bar)
  read_tag : {n : ℕ} → 3 ≤ length s → TagText (c ∷ take 3 s) n → Read c s (Some (Tag n))
  read_bad : Read c s None

-- what a digit's test says
digit-said : (c : ℕ) → is_digit c ≡ true → (c ≡ digit (c - 48)) × (c - 48 ≤ 9)
digit-said c e =
    let h : (leb 48 c ≡ true) × (leb c 57 ≡ true) = and_both _ _ e in
    let a : 48 ≤ c = leb-true _ _ h.0 in
    let b : c ≤ 57 = leb-true _ _ h.1 in
    omega arith

-- the first bytes of a text, one by one
front-three : (s : List ℕ) → 2 < length s → take 3 s ≡ get_or s 0 0 ∷ get_or s 1 0 ∷ get_or s 2 0 ∷ []
front-three s h =
    let f : 1 < length s = omega arith in let g : 0 < length s = omega arith in rw (take-suc s 2 0, take-suc s 1 0, take-suc s 0 0)

module _ (c : ℕ) (s : List ℕ) where
  -- a word that there is where a test passes, and one that hangs on whether the byte is d
  tested : (b : Bool) {w : Option Word} → (b ≡ true → Read c s w) → Read c s (cond b w None)
  tested true f = f refl
  tested false f = read_bad

  at_byte : (d : ℕ) {w v : Option Word} → (c ≡ d → Read c s w) → (eqb c d ≡ false → Read c s v) → Read c s (cond (eqb c d) w v)
  at_byte d {w} {v} f g = go (eqb c d) refl
    where
      go : (b : Bool) → eqb c d ≡ b → Read c s (cond b w v)
      go true e = f (eqb-true c d e)
      go false e = g e

  -- the words behind a backslash, [ and #
  escaped-read : c ≡ backslash → Read c s (escaped_word s)
  escaped-read e = tested (ltb 0 (length s)) letter
    where
      letter : ltb 0 (length s) ≡ true → Read c s (Some (Letter (get_or s 0 0) (get_or s 0 0) 1))
      letter t =
          let h : 0 < length s = ltb-true 0 (length s) t in read_letter h (letter_escaped (get_or s 0 0) (rw (e, take-suc s 0 0)))

  range-read : c ≡ bracket → Read c s (range_word s)
  range-read e = tested (is_range s) letter
    where
      letter : is_range s ≡ true → Read c s (Some (Letter (get_or s 0 0) (get_or s 2 0) 4))
      letter t =
          let a : (ltb 3 (length s) ≡ true) × _ = and_both _ _ t in
          let b : (eqb (get_or s 1 0) hyphen ≡ true) × _ = and_both _ _ a.1 in
          let d : (eqb (get_or s 3 0) bracket_end ≡ true) × (leb (get_or s 0 0) (get_or s 2 0) ≡ true) = and_both _ _ b.1 in
          let h : 3 < length s = ltb-true _ _ a.0 in
          let f : 2 < length s = omega arith in
          let x : get_or s 1 0 ≡ hyphen = eqb-true _ _ b.0 in
          let y : get_or s 3 0 ≡ bracket_end = eqb-true _ _ d.0 in
          read_letter h
          (letter_range (get_or s 0 0) (get_or s 2 0) (leb-true _ _ d.1) (rw (e, take-suc s 3 0, front-three, x, y)))

  tag_read : c ≡ hash → Read c s (tag_word s)
  tag_read e = tested (is_tag s) tag
    where
      tag : is_tag s ≡ true → Read c s (Some (Tag (numeral s)))
      tag t =
          let a : (ltb 2 (length s) ≡ true) × _ = and_both _ _ t in
          let b : (is_digit (get_or s 0 0) ≡ true) × _ = and_both _ _ a.1 in
          let d : (is_digit (get_or s 1 0) ≡ true) × _ = and_both _ _ b.1 in
          let f : (is_digit (get_or s 2 0) ≡ true) × _ = and_both _ _ d.1 in
          let g : (leb 1 (numeral s) ≡ true) × (leb (numeral s) 255 ≡ true) = and_both _ _ f.1 in
          let x : (get_or s 0 0 ≡ digit (get_or s 0 0 - 48)) × (get_or s 0 0 - 48 ≤ 9) = digit-said _ b.0 in
          let y : (get_or s 1 0 ≡ digit (get_or s 1 0 - 48)) × (get_or s 1 0 - 48 ≤ 9) = digit-said _ d.0 in
          let z : (get_or s 2 0 ≡ digit (get_or s 2 0 - 48)) × (get_or s 2 0 - 48 ≤ 9) = digit-said _ f.0 in
          let h : 2 < length s = ltb-true _ _ a.0 in
          let i : c ∷ take 3 s ≡ hash ∷ digit (get_or s 0 0 - 48) ∷ digit (get_or s 1 0 - 48) ∷ digit (get_or s 2 0 - 48) ∷ [] =
          cc (front-three s h) in
          read_tag h (tag-digits _ _ _ (numeral s) x.1 y.1 z.1 i refl (leb-true _ _ g.0) (leb-true _ _ g.1))

  -- the word at a byte says what it says
  pub word_read : Read c s (word_at c s)
  unfolding word_at
  word_read =
      at_byte backslash escaped-read λ a. at_byte bracket range-read λ b. at_byte hash tag_read λ d. at_byte bar read_bar λ e.
      at_byte asterisk read_star λ f. at_byte opening read_open λ g. at_byte closing read_close λ h. at_byte bracket_end (λ _. read_bad) λ i.
      read_letter (omega arith) (letter_plain c (rw (e, f, g, h, b, i, a, d)) refl)

-- a word ends inside the text, and a tag has a number
pub later-inside : (c : ℕ) (s : List ℕ) → later (word_at c s) ≤ length s
later-inside c s = go (word_read c s)
  where
    go : {w : Option Word} → Read c s w → later w ≤ length s
    go (read_letter h t) = h
    go (read_open e) = omega arith
    go (read_close e) = omega arith
    go (read_star e) = omega arith
    go (read_bar e) = omega arith
    go (read_tag h t) = h
    go read_bad = omega arith

tag-positive : {z : List ℕ} {n : ℕ} → TagText z n → 1 ≤ n
tag-positive (tag-digits x y z n a b c e f g h) = g

pub tag-given : (c : ℕ) (s : List ℕ) → TagGiven (word_at c s)
tag-given c s = go (word_read c s)
  where
    go : {w : Option Word} → Read c s w → TagGiven w
    go (read_letter h t) = tt
    go (read_open e) = tt
    go (read_close e) = tt
    go (read_star e) = tt
    go (read_bar e) = tt
    go (read_tag h t) = tag-positive t
    go read_bad = tt

-- the text z is the word w, whatever stands behind it
pub record Spells (z : List ℕ) (w : Option Word) : Type 0 where
  pub head : ℕ
  pub tail : List ℕ
  pub made : z ≡ head ∷ tail
  pub long : later w ≡ length tail
  pub at_head : (rest : List ℕ) → word_at head (tail ++ rest) ≡ w

-- the tests of a disjunction
neither : (a b : Bool) → (a || b) ≡ false → (a ≡ false) × (b ≡ false)
neither a b e = (or-false-left a b e, or-false-right a b e)

-- the words of the three kinds of letter
plain_word : (c : ℕ) (s : List ℕ) → special c ≡ false → word_at c s ≡ Some (Letter c c 0)
unfolding word_at
plain_word c s e =
    let a : _ × (eqb c hash ≡ false) = neither _ _ e in
    let b : _ × (eqb c backslash ≡ false) = neither _ _ a.0 in
    let d : _ × (eqb c bracket_end ≡ false) = neither _ _ b.0 in
    let f : _ × (eqb c bracket ≡ false) = neither _ _ d.0 in
    let g : _ × (eqb c closing ≡ false) = neither _ _ f.0 in
    let h : _ × (eqb c opening ≡ false) = neither _ _ g.0 in
    let i : (eqb c bar ≡ false) × (eqb c asterisk ≡ false) = neither _ _ h.0 in
    rw (a.1, b.1, d.1, f.1, g.1, h.1, i.0, i.1)

escaped-word : (c : ℕ) (s : List ℕ) → word_at backslash (c ∷ s) ≡ Some (Letter c c 1)
unfolding word_at
escaped-word c s = rw (lt-ltb 0 (suc (length s)) (omega arith))

range-word : (p q : ℕ) (s : List ℕ) → p ≤ q → word_at bracket (p ∷ hyphen ∷ q ∷ bracket_end ∷ s) ≡ Some (Letter p q 4)
unfolding word_at
range-word p q s h = rw (lt-ltb 3 (length (p ∷ hyphen ∷ q ∷ bracket_end ∷ s)) (omega arith), le-leb p q h)

-- a letter is the word Letter of its bounds
pub letter-spells : {z : List ℕ} {p q : ℕ} → LetterText z p q → (n : ℕ) × Spells z (Some (Letter p q n))
letter-spells (letter_plain c h e) = (0, record { head = c; tail = []; made = e; long = refl; at_head = λ rest. plain_word c rest h })
letter-spells (letter_escaped c e) =
    (1, record { head = backslash; tail = c ∷ []; made = e; long = refl; at_head = λ rest. escaped-word c rest })
letter-spells (letter_range p q h e) =
    (4, record { head = bracket; tail = p ∷ hyphen ∷ q ∷ bracket_end ∷ []; made = e; long = refl; at_head = λ rest. range-word p q rest h })

-- and a tag the word Tag of its number
digit-test : (x : ℕ) → x ≤ 9 → is_digit (digit x) ≡ true
digit-test x h = rw (le-leb 48 (48 + x) (omega arith), le-leb (48 + x) 57 (omega arith))

tag-word :
    (x y z n : ℕ) (s : List ℕ) → x ≤ 9 → y ≤ 9 → z ≤ 9 → n ≡ 100 * x + 10 * y + z → 1 ≤ n → n ≤ 255
    → word_at hash (digit x ∷ digit y ∷ digit z ∷ s) ≡ Some (Tag n)
unfolding word_at
tag-word x y z n s a b c e f g =
    let t = digit x ∷ digit y ∷ digit z ∷ s in
    let k : numeral t ≡ n = omega arith in
    rw (digit-test x a, digit-test y b, digit-test z c, k, lt-ltb 2 (length t) (omega arith), le-leb 1 n f, le-leb n 255 g)

pub tag-spells : {z : List ℕ} {n : ℕ} → TagText z n → Spells z (Some (Tag n))
tag-spells (tag-digits x y z n a b c e f g h) =
    record { head = hash; tail = digit x ∷ digit y ∷ digit z ∷ []; made = e; long = refl; at_head = λ rest. tag-word x y z n rest a b c f g h }

-- a text from a place on, as the code takes it
pub from_place : (at : ℕ) (s : List ℕ) → take (length s - at) (drop at s) ≡ drop at s
from_place at s = take_all (length s - at) (drop at s) (omega (arith, length-drop at s))
