-- What the functions that walk over a reading find at a place: the shape of its record, and the part that starts there.
-- Assumes nothing.
use Rattle.std.specs.Prelude.{ℕ, zero, Option, Some, None, suc, ◌+◌, ◌-◌, Bool, true, false, ◌&&◌, List, eqb, leb, length, drop}
use Rattle.posix.specs.Expressions.{ByteSet, within, outside, holds}
use Rattle.posix.specs.Values.{void, byte, left, right, pair, flat}
use Rattle.posix.specs.Decision.{Parsed, found, missing}
use Rattle.table.specs.Records.{kind_at, a_at, b_at}
use Rattle.table.specs.Expression.{exp_of}
use Rattle.reading.specs.declared.Span.{Span}
use Rattle.reading.specs.declared.Shape.{Shape}
use Rattle.reading.specs.declared.Shape.TheVariants.{Leaf, Left, Right, Both, Many}
use Rattle.reading.specs.Fitting.{reading_of}
use Rattle.reading.specs.Codec.{record_size, record_at, is_length, Decoded, fits, unfit, under, chain, decode_items, decode}

abbrev pub pick_shape : Bool → Option Shape → Option Shape → Option Shape
pick_shape true x y = x
pick_shape false x y = y

-- the shape of a reading's record x, y by a letter: a Byte whose argument the letter holds
abbrev pub letter_shape : ByteSet → ℕ → ℕ → Option Shape
letter_shape s x y = pick_shape (eqb x 1 && holds s y) (Some (Leaf 1)) None

-- the shape of a reading's record x, y by a table record of a kind, a, b
abbrev pub shape_of : ℕ → ℕ → ℕ → ℕ → ℕ → Option Shape
shape_of zero a b x y = None
shape_of (suc zero) a b x y = pick_shape (eqb x 0 && eqb y 0) (Some (Leaf 0)) None
shape_of (suc (suc zero)) a b x y = letter_shape (within a b) x y
shape_of (suc (suc (suc zero))) a b x y =
    pick_shape (eqb x 2 && eqb y 0) (Some (Left a)) (pick_shape (eqb x 3 && eqb y 0) (Some (Right b)) None)
shape_of (suc (suc (suc (suc zero)))) a b x y = pick_shape (eqb x 4 && eqb y 0) (Some (Both a b)) None
shape_of (suc (suc (suc (suc (suc zero))))) a b x y = pick_shape (eqb x 5) (Some (Many a y)) None
shape_of (suc (suc (suc (suc (suc (suc zero)))))) a b x y = letter_shape (outside a b) x y
shape_of (suc (suc (suc (suc (suc (suc (suc n))))))) a b x y = None

-- the shape of a reading's record of number i by table record k: none where the numbers differ
abbrev pub shape_by : List ℕ → ℕ → ℕ → ℕ → ℕ → Option Shape
shape_by t k x y i = pick_shape (eqb i k) (shape_of (kind_at t k) (a_at t k) (b_at t k) x y) None

-- the shape of the record at a place, by table record k
unfoldable pub shape_at : List ℕ → ℕ → List ℕ → ℕ → Option Shape
shape_at t k bs at =
    pick_shape (leb (at + record_size) (length bs))
    (shape_by t k (record_at bs at).kind (record_at bs at).argument (record_at bs at).number) None

-- a reading of one record that spells n bytes, by its argument
abbrev pub leaf : ℕ → ℕ → List ℕ → Decoded
leaf zero y rest = fits void rest
leaf (suc zero) y rest = fits (byte y) rest
leaf (suc (suc n)) y rest = unfit

-- what decoding finds at a place by the shape of its record, whatever length is written there
abbrev pub decode_by : List ℕ → List ℕ → ℕ → Option Shape → Decoded
decode_by t bs at (Some (Leaf n)) = leaf n (record_at bs at).argument (drop (at + record_size) bs)
decode_by t bs at (Some (Left c)) = under left (decode t c (exp_of t c) (drop (at + record_size) bs))
decode_by t bs at (Some (Right c)) = under right (decode t c (exp_of t c) (drop (at + record_size) bs))
decode_by t bs at (Some (Both c d)) =
    chain pair (decode t c (exp_of t c) (drop (at + record_size) bs)) (λ over. decode t d (exp_of t d) over)
decode_by t bs at (Some (Many c n)) = decode_items (λ over. decode t c (exp_of t c) over) n (drop (at + record_size) bs)
decode_by t bs at None = unfit

-- the part that decoding found, in a reading of n bytes
abbrev pub span_of : ℕ → Decoded → Option Span
span_of n (fits v rest) = Some (record { next = record { at = n - length rest }; size = length (flat v) })
span_of n unfit = None

-- the part that starts at a place, by record k
unfoldable pub fit_at : List ℕ → ℕ → List ℕ → ℕ → Option Span
fit_at t k bs at = span_of (length bs) (decode t k (exp_of t k) (drop at bs))

-- n iterations that start at a place, each by record c
unfoldable pub fit_items : List ℕ → ℕ → ℕ → List ℕ → ℕ → Option Span
fit_items t c n bs at = span_of (length bs) (decode_items (λ over. decode t c (exp_of t c) over) n (drop at bs))

-- a part that spells so many bytes more
abbrev pub longer : ℕ → Option Span → Option Span
longer l (Some s) = Some (record { next = s.next; size = l + s.size })
longer l None = None

-- a part, then what f finds behind it
abbrev pub then_fit : Option Span → (ℕ → Option Span) → Option Span
then_fit (Some s) f = longer s.size (f s.next.at)
then_fit None f = None

-- a part that spells at least one byte
abbrev pub unless_empty : ℕ → Option Span → Option Span
unless_empty zero f = None
unless_empty (suc n) f = f

abbrev pub spelling_part : Option Span → Option Span
spelling_part (Some s) = unless_empty s.size (Some s)
spelling_part None = None

-- the part at a place by the shape of its first record
abbrev pub fit_by : List ℕ → List ℕ → ℕ → Option Shape → Option Span
fit_by t bs at (Some (Leaf n)) = Some (record { next = record { at = at + record_size }; size = n })
fit_by t bs at (Some (Left c)) = fit_at t c bs (at + record_size)
fit_by t bs at (Some (Right c)) = fit_at t c bs (at + record_size)
fit_by t bs at (Some (Both c d)) = then_fit (fit_at t c bs (at + record_size)) (λ next. fit_at t d bs next)
fit_by t bs at (Some (Many c n)) = fit_items t c n bs (at + record_size)
fit_by t bs at None = None

-- the part at a place with the length that it spells, "the sum over its children", each of which fits; whatever length is written there
unfoldable pub length_at : List ℕ → ℕ → List ℕ → ℕ → Option Span
length_at t k bs at = fit_by t bs at (shape_at t k bs at)

abbrev pub fit_if : Bool → Option Span → Option Span
fit_if true f = f
fit_if false f = None

-- a part that spells as many bytes as are written
abbrev pub held_part : ℕ → Option Span → Option Span
held_part n (Some s) = fit_if (is_length n s.size) (Some s)
held_part n None = None

-- how many bytes a whole reading spells
abbrev pub sized : Parsed → Option ℕ
sized (found v) = Some (length (flat v))
sized missing = None

unfoldable pub whole_at : List ℕ → ℕ → List ℕ → Option ℕ
whole_at t k bs = sized (reading_of t k bs)
