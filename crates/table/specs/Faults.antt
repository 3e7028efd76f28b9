-- What is wrong with a table (document 01, "Who is refused, and by which number", refusals 1 to 6, with 2 and 4 as document 02, request 1, has
-- them), each refusal by itself; and a table that passes, which is free of all six. Nothing here speaks of an order of testing.
-- Assumes nothing.
use Rattle.std.specs.Prelude.{ℕ, zero, suc, ◌<◌, ◌%◌, ◌≡◌, Bool, false, not, ◌&&◌, ◌||◌, List, leb, ltb, eqb, length}
use Rattle.table.specs.Records.{count, kind_at, a_at, b_at, is_nothing, is_empty, is_or, is_seq, is_star, is_letter}

-- 1: "table of 0 bytes, over 1,020, or not a multiple of 4"
abbrev pub bad_size : List ℕ → Bool
bad_size t = eqb (length t) 0 || (ltb 1020 (length t) || not (eqb (length t % 4) 0))

-- What the rule table's column 'a, b' gives for a field, by kind.
-- a is a child's number ("records of r1, r2" at Or and Seq, "record of r" at Star)
abbrev pub names_a : List ℕ → ℕ → Bool
names_a t k = is_or t k || is_seq t k || is_star t k

-- b is a child's number ("records of r1, r2" at Or and Seq)
abbrev pub names_b : List ℕ → ℕ → Bool
names_b t k = is_or t k || is_seq t k

-- a is 0 ("0, 0" at Nothing and Empty)
abbrev pub unused_a : List ℕ → ℕ → Bool
unused_a t k = is_nothing t k || is_empty t k

-- b is 0 ("0, 0" at Nothing and Empty, "record of r, 0" at Star)
abbrev pub unused_b : List ℕ → ℕ → Bool
unused_b t k = is_nothing t k || is_empty t k || is_star t k

-- 2 "now begins at kind 7"
abbrev pub bad_kind : List ℕ → ℕ → Bool
bad_kind t k = leb 7 (kind_at t k)

-- 3: "an a or b that the table above gives as 0 is not 0"
abbrev pub bad_unused : List ℕ → ℕ → Bool
bad_unused t k = (unused_a t k && not (eqb (a_at t k) 0)) || (unused_b t k && not (eqb (b_at t k) 0))

-- 4: "Range with a > b", and it covers Other "as it covers Range"
abbrev pub bad_bounds : List ℕ → ℕ → Bool
bad_bounds t k = is_letter t k && ltb (b_at t k) (a_at t k)

-- 5: "child number not below its parent's"
abbrev pub bad_child : List ℕ → ℕ → Bool
bad_child t k = (names_a t k && not (ltb (a_at t k) k)) || (names_b t k && not (ltb (b_at t k) k))

-- record j names c as a child
abbrev pub names : List ℕ → ℕ → ℕ → Bool
names t j c = (names_a t j && eqb (a_at t j) c) || (names_b t j && eqb (b_at t j) c)

-- some record below k names c as a child
abbrev pub named_below : List ℕ → ℕ → ℕ → Bool
named_below t zero c = false
named_below t (suc j) c = names t j c || named_below t j c

-- 6: "a child already named, by a lower record or by the other field"
abbrev pub bad_named : List ℕ → ℕ → Bool
bad_named t k =
    (names_a t k && named_below t k (a_at t k)) || (names_b t k && (named_below t k (b_at t k) || eqb (a_at t k) (b_at t k)))

-- the table is free of refusals 1 to 6
pub record Passes (t : List ℕ) : Type 0 where
  pub free_1 : bad_size t ≡ false
  pub free_2 : (k : ℕ) → k < count t → bad_kind t k ≡ false
  pub free_3 : (k : ℕ) → k < count t → bad_unused t k ≡ false
  pub free_4 : (k : ℕ) → k < count t → bad_bounds t k ≡ false
  pub free_5 : (k : ℕ) → k < count t → bad_child t k ≡ false
  pub free_6 : (k : ℕ) → k < count t → bad_named t k ≡ false

-- the fault with a refusal's number at record k: 2 to 6, and none at any other number
abbrev pub fault : ℕ → List ℕ → ℕ → Bool
fault zero t k = false
fault (suc zero) t k = false
fault (suc (suc zero)) t k = bad_kind t k
fault (suc (suc (suc zero))) t k = bad_unused t k
fault (suc (suc (suc (suc zero)))) t k = bad_bounds t k
fault (suc (suc (suc (suc (suc zero))))) t k = bad_child t k
fault (suc (suc (suc (suc (suc (suc zero)))))) t k = bad_named t k
fault (suc (suc (suc (suc (suc (suc (suc n))))))) t k = false
