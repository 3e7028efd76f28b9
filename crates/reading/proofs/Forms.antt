-- A reading's lengths and record numbers follow from its kinds and arguments: of the byte sequences with the same kinds and arguments at most one fits,
-- the one with the true lengths and numbers (document 02, request 6).
-- Assumes nothing.
use Prim.Native.Nat.{ℕ, suc}
use mathlib.Core.Path.{◌≡◌, refl, sym, ◌∙◌, ap, ap₂}
use mathlib.Core.List.{List, [], ◌∷◌, ◌++◌, append_assoc, append-nil}
use native.Mathlib.Omega.{arith}
use Rattle.posix.specs.Expressions.{Exp}
use Rattle.posix.specs.Values.{Val, byte, left, right, pair, more, Reads, reads_void, reads_byte, reads_left, reads_right, reads_pair, reads_none, reads_more}
use Rattle.table.specs.Records.{a_at, b_at}
use Rattle.reading.specs.Codec.{kind_of, argument_of, encode_below, encode}
use Rattle.reading.specs.Fitting.{Fits, kinds_and_arguments}
use Rattle.reading.proofs.Codec.{star-kind}

-- two encodings in front with the same kinds and arguments are those of one reading
same-form :
    (t : List ℕ) (k : ℕ) {r : Exp} {v w : Val} → Reads r v → Reads r w
    → (xs ys : List ℕ)
    → kinds_and_arguments (encode t k v ++ xs) ≡ kinds_and_arguments (encode t k w ++ ys)
    → (v ≡ w) × (kinds_and_arguments xs ≡ kinds_and_arguments ys)
same-form t k reads_void reads_void xs ys e = (refl, cc)
same-form t k (reads_byte {c = c} h) (reads_byte {c = d} i) xs ys e = let p : c ≡ d = cc in (ap byte p, cc)
same-form t k (reads_left {v = v} p) (reads_left {v = w} q) xs ys e =
    let g : kinds_and_arguments (encode t (a_at t k) v ++ xs) ≡ kinds_and_arguments (encode t (a_at t k) w ++ ys) = cc in
    let h : (v ≡ w) × (kinds_and_arguments xs ≡ kinds_and_arguments ys) = same-form t (a_at t k) p q xs ys g in
    (ap left h.0, h.1)
same-form t k (reads_left p) (reads_right q) xs ys e = let z : ◌≡◌ {A = ℕ} 2 3 = cc in absurd (omega arith)
same-form t k (reads_right p) (reads_left q) xs ys e = let z : ◌≡◌ {A = ℕ} 3 2 = cc in absurd (omega arith)
same-form t k (reads_right {v = v} p) (reads_right {v = w} q) xs ys e =
    let g : kinds_and_arguments (encode t (b_at t k) v ++ xs) ≡ kinds_and_arguments (encode t (b_at t k) w ++ ys) = cc in
    let h : (v ≡ w) × (kinds_and_arguments xs ≡ kinds_and_arguments ys) = same-form t (b_at t k) p q xs ys g in
    (ap right h.0, h.1)
same-form t k (reads_pair {v = v} {w = v'} p p') (reads_pair {v = w} {w = w'} q q') xs ys e =
    let a : ℕ = a_at t k in
    let b : ℕ = b_at t k in
    let g : kinds_and_arguments ((encode t a v ++ encode t b v') ++ xs) ≡ kinds_and_arguments ((encode t a w ++ encode t b w') ++ ys) = cc in
    let h : (v ≡ w) × (kinds_and_arguments (encode t b v' ++ xs) ≡ kinds_and_arguments (encode t b w' ++ ys)) =
    same-form t a p q (encode t b v' ++ xs) (encode t b w' ++ ys)
    (ap kinds_and_arguments (sym (append_assoc (encode t a v) (encode t b v') xs)) ∙ g ∙ ap kinds_and_arguments (append_assoc (encode t a w) (encode t b w') ys)) in
    let i : (v' ≡ w') × (kinds_and_arguments xs ≡ kinds_and_arguments ys) = same-form t b p' q' xs ys h.1 in
    (ap₂ pair h.0 i.0, i.1)
same-form t k reads_none reads_none xs ys e = (refl, cc)
same-form t k reads_none (reads_more {w = w} q n q') xs ys e = let z : 0 ≡ suc (argument_of w) = cc in absurd (omega arith)
same-form t k (reads_more {w = v} p n p') reads_none xs ys e = let z : suc (argument_of v) ≡ 0 = cc in absurd (omega arith)
same-form t k (reads_more {v = v} {w = v'} p n p') (reads_more {v = w} {w = w'} q m q') xs ys e =
    let a : ℕ = a_at t k in
    let c : suc (argument_of v') ≡ suc (argument_of w') = cc in
    let g : kinds_and_arguments ((encode t a v ++ encode_below t k v') ++ xs) ≡ kinds_and_arguments ((encode t a w ++ encode_below t k w') ++ ys) = cc in
    let h : (v ≡ w) × (kinds_and_arguments (encode_below t k v' ++ xs) ≡ kinds_and_arguments (encode_below t k w' ++ ys)) =
    same-form t a p q (encode_below t k v' ++ xs) (encode_below t k w' ++ ys)
    (ap kinds_and_arguments (sym (append_assoc (encode t a v) (encode_below t k v') xs)) ∙ g
    ∙ ap kinds_and_arguments (append_assoc (encode t a w) (encode_below t k w') ys)) in
    let x : kind_of v' ≡ kind_of w' = star-kind p' ∙ sym (star-kind q') in
    let y : argument_of v' ≡ argument_of w' = omega arith in
    let i : (v' ≡ w') × (kinds_and_arguments xs ≡ kinds_and_arguments ys) =
    same-form t k p' q' xs ys
    (ap (λ (z : ℕ). z ∷ argument_of v' ∷ kinds_and_arguments (encode_below t k v' ++ xs)) x
    ∙ ap (λ (z : ℕ). kind_of w' ∷ z ∷ kinds_and_arguments (encode_below t k v' ++ xs)) y
    ∙ ap (λ (z : List ℕ). kind_of w' ∷ argument_of w' ∷ z) h.1) in
    (ap₂ more h.0 i.0, i.1)

-- of the byte sequences with the same kinds and arguments only one fits
pub form-fits : {t : List ℕ} {k : ℕ} {bs cs : List ℕ} → Fits t k bs → Fits t k cs → kinds_and_arguments bs ≡ kinds_and_arguments cs → bs ≡ cs
form-fits {t} {k} {bs} {cs} f g e =
    let v : f.value ≡ g.value =
    (same-form t k f.reads g.reads [] []
    (ap kinds_and_arguments (append-nil (encode t k f.value) ∙ sym f.encoded) ∙ e
    ∙ ap kinds_and_arguments (g.encoded ∙ sym (append-nil (encode t k g.value))))).0 in
    f.encoded ∙ ap (encode t k) v ∙ sym g.encoded
