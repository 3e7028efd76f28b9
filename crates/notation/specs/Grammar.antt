-- The grammar of the notation (document 02, request 3), sentence by sentence: which texts, lists of bytes, stand for which tree.
-- Assumes nothing.
use Rattle.std.specs.Prelude.{ℕ, ◌+◌, ◌*◌, ◌≤◌, ◌≡◌, Bool, false, ◌||◌, List, [], ◌∷◌, ◌++◌, eqb}
use Rattle.notation.specs.Trees.{Tree, unit, range, alt, cat, many, tag_of, with_tag}

-- "one of | * ( ) [ ] \ #"
abbrev pub bar : ℕ
bar = 124

abbrev pub asterisk : ℕ
asterisk = 42

abbrev pub opening : ℕ
opening = 40

abbrev pub closing : ℕ
closing = 41

abbrev pub bracket : ℕ
bracket = 91

abbrev pub bracket_end : ℕ
bracket_end = 93

abbrev pub backslash : ℕ
backslash = 92

abbrev pub hash : ℕ
hash = 35

abbrev pub special : ℕ → Bool
special c =
    eqb c bar || eqb c asterisk || eqb c opening || eqb c closing || eqb c bracket || eqb c bracket_end || eqb c backslash || eqb c hash

-- the byte between the two of a range, and the digit of a number
abbrev pub hyphen : ℕ
hyphen = 45

abbrev pub digit : ℕ → ℕ
digit x = 48 + x

-- Letter s p q: the text s is a Range from p to q
pub data Letter (s : List ℕ) : ℕ → ℕ → Type 0 where
  -- "A byte stands for itself alone, as a Range, unless it is one of | * ( ) [ ] \ #."
  letter_plain : (c : ℕ) → special c ≡ false → s ≡ c ∷ [] → Letter s c c
  -- "Outside brackets a backslash makes the next byte plain."
  letter_escaped : (c : ℕ) → s ≡ backslash ∷ c ∷ [] → Letter s c c
  -- "[p-q], with any bytes p ≤ q, is a Range."
  letter_range : (p q : ℕ) → p ≤ q → s ≡ bracket ∷ p ∷ hyphen ∷ q ∷ bracket_end ∷ [] → Letter s p q

-- Tag s n: "a tag # with exactly three digits, 001 to 255"
pub data Tag (s : List ℕ) : ℕ → Type 0 where
  tag-digits :
      (x y z n : ℕ) → x ≤ 9 → y ≤ 9 → z ≤ 9 → s ≡ hash ∷ digit x ∷ digit y ∷ digit z ∷ [] → n ≡ 100 * x + 10 * y + z → 1 ≤ n → n ≤ 255
      → Tag s n

mutual
  -- Item s t: the text s is an item and stands for the tree t
  pub data Item : List ℕ → Tree → Type 0 where
    -- each of the letters "is an item"
    item-letter : {s : List ℕ} {p q : ℕ} → Letter s p q → Item s (range p q 0)
    -- "() is Empty"
    item-empty : {s : List ℕ} → s ≡ opening ∷ closing ∷ [] → Item s (unit 0)
    -- "Parentheses group."
    item-group : {u : List ℕ} (s : List ℕ) {t : Tree} → u ≡ opening ∷ s ++ closing ∷ [] → Whole s t → Item u t
    -- "* and a tag .. follow an item, and the two are an item again": Star
    item-star : {u : List ℕ} (s : List ℕ) {t : Tree} → u ≡ s ++ asterisk ∷ [] → Item s t → Item u (many t 0)
    -- and the tag: "an item whose own record already has a tag, bare or in parentheses, can't take another"
    item-tag :
        {u : List ℕ} (s z : List ℕ) {t : Tree} {n : ℕ} → u ≡ s ++ z → Item s t → Tag z n → tag_of t ≡ 0 → Item u (with_tag t n)

  -- Row s t: items side by side. "Side by side is Seq", "grouped to the left"
  pub data Row : List ℕ → Tree → Type 0 where
    row-item : {s : List ℕ} {t : Tree} → Item s t → Row s t
    row_next : {w : List ℕ} (s s' : List ℕ) {t u : Tree} → w ≡ s ++ s' → Row s t → Item s' u → Row w (cat t u 0)

  -- Whole s t: rows parted by |. "| is Or", "grouped to the left, and Seq binds tighter than Or. Neither side of | may be missing, nor the whole
  -- text."
  pub data Whole : List ℕ → Tree → Type 0 where
    whole_row : {s : List ℕ} {t : Tree} → Row s t → Whole s t
    whole-next : {w : List ℕ} (s s' : List ℕ) {t u : Tree} → w ≡ s ++ bar ∷ s' → Whole s t → Row s' u → Whole w (alt t u 0)
