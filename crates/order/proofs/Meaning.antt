-- What the verdicts mean: which token lists are refused, which keep every pair, and which token is the first that breaks one; and that only
-- the set of the pairs and the names of the tokens count.
-- Assumes nothing.
use Prim.Native.Nat.{ℕ, zero, suc, ◌+◌, ◌%◌, ◌≤◌, ◌<◌}
use native.Mathlib.Numerals.{add-one}
use native.Mathlib.Omega.{arith}
use mathlib.Core.Path.{◌≡◌, refl, sym, ap, ◌∙◌}
use mathlib.Core.Logic.{◌⊎◌, ◌↔◌, inl, inr}
use mathlib.Core.Bool.{Bool, true, false, cond, true≢false}
use mathlib.Core.List.{List, [], ◌∷◌}
use lib.Dec.{eqb, ltb}
use lib.ListN.{length}
use borrow.Author.Count.{below_more}
use borrow.Author.Tests.{le-ltb, ltb-true, ltb-false, eqb-true, eqb-false}
use Rattle.table.specs.Answers.{gives, refuses}
use Rattle.std.specs.Prelude.{Result, Ok, Err}
use Rattle.table.specs.declared.Refusal.{Refusal}
use Rattle.table.specs.declared.Refusal.TheVariants.{Pairs, TokenBytes}
use Rattle.order.specs.declared.Pair.{Pair}
use Rattle.order.specs.declared.Verdict.{Verdict}
use Rattle.order.specs.declared.Verdict.TheVariants.{Kept, Broken}
use Rattle.order.specs.Breaks.{token_count, name_at, Breaks, Among, Keeps, FirstToBreak, earlier, breaks, breaks_some}
use Rattle.order.specs.Verdicts.{first_from, judged, ordered, verdict_says, order_says}
use Rattle.order.proofs.Breaking.{alike, Free, earlier-at, at-earlier, test-breaks, breaks-test, some-breaks, breaks-some, none-broken, one-broken}

-- the test whether a token breaks a pair
pub breaks-exactly : (ts : List ℕ) (p : Pair) (i : ℕ) → (breaks ts p i ≡ true) ↔ Breaks ts p i
breaks-exactly ts p i = (test-breaks ts p i, breaks-test ts p i)

-- two different verdicts are never equal: from that they are `cc` shows 0 ≡ 1, from which anything follows
clash : {A : Type 0} → ◌≡◌ {A = ℕ} 0 1 → A
clash z = absurd (omega arith)

-- every verdict, with what it says of the lists
data Outcome (ts : List ℕ) (ps : List Pair) : Result Verdict Refusal → Type 0 where
  many : 64 < length ps → Outcome ts ps (Err Pairs)
  uneven : length ps ≤ 64 → (length ts % 3 ≡ 0 → ⊥) → Outcome ts ps (Err TokenBytes)
  kept : length ps ≤ 64 → length ts % 3 ≡ 0 → Free ts ps (token_count ts) → Outcome ts ps (Ok (Kept (token_count ts)))
  broken : (r : ℕ) → length ps ≤ 64 → length ts % 3 ≡ 0 → r < token_count ts → breaks_some ts ps r ≡ true → Free ts ps r
      → Outcome ts ps (Ok (Broken r))

-- the first of n tokens that breaks some pair
data First (ts : List ℕ) (ps : List Pair) (n : ℕ) : Type 0 where
  none : Free ts ps n → First ts ps n
  one : (r : ℕ) → r < n → breaks_some ts ps r ≡ true → Free ts ps r → First ts ps n

first_more : (ts : List ℕ) (ps : List Pair) (n : ℕ) → First ts ps n → First ts ps (suc n)
first_more ts ps n (one r l b f) = one r (omega arith) b f
first_more ts ps n (none f) = go (breaks_some ts ps n) refl
  where
    go : (b : Bool) → breaks_some ts ps n ≡ b → First ts ps (suc n)
    go true e = one n (omega arith) e f
    go false e = none (rw add-one at (below_more (λ (j : ℕ). breaks_some ts ps j ≡ false) n f e))

first_of : (ts : List ℕ) (ps : List Pair) (n : ℕ) → First ts ps n
first_of ts ps zero = none (λ j l. absurd (omega arith))
first_of ts ps (suc n) = first_more ts ps n (first_of ts ps n)

outcome : (ts : List ℕ) (ps : List Pair) → Outcome ts ps (ordered ts ps)
unfolding ordered judged
outcome ts ps = pairs (ltb 64 (length ps)) refl
  where
    walk : length ps ≤ 64 → length ts % 3 ≡ 0 → First ts ps (token_count ts) → Outcome ts ps (Ok (first_from ts ps (token_count ts) 0))
    walk few even (none f) = rw (none-broken ts ps (token_count ts) f) (kept few even f)
    walk few even (one r l b f) = rw (one-broken ts ps (token_count ts) r l f b) (broken r few even l b f)

    bytes : length ps ≤ 64 → (b : Bool) → eqb (length ts % 3) 0 ≡ b
        → Outcome ts ps (cond b (Ok (first_from ts ps (token_count ts) 0)) (Err TokenBytes))
    bytes few true e = walk few (eqb-true (length ts % 3) 0 e) (first_of ts ps (token_count ts))
    bytes few false e = uneven few (eqb-false (length ts % 3) 0 e)

    pairs : (b : Bool) → ltb 64 (length ps) ≡ b
        → Outcome ts ps (cond b (Err Pairs) (cond (eqb (length ts % 3) 0) (Ok (first_from ts ps (token_count ts) 0)) (Err TokenBytes)))
    pairs true e = many (ltb-true 64 (length ps) e)
    pairs false e = bytes (ltb-false 64 (length ps) e) (eqb (length ts % 3) 0) refl

-- 17 exactly for over 64 pairs
pub refused-pairs : (ts : List ℕ) (ps : List Pair) → (ordered ts ps ≡ Err Pairs) ↔ (64 < length ps)
refused-pairs ts ps = (from (outcome ts ps), to (outcome ts ps))
  where
    from : {v : Result Verdict Refusal} → Outcome ts ps v → v ≡ Err Pairs → 64 < length ps
    from (many h) e = h
    from (uneven f h) e = clash (cc)
    from (kept f h g) e = clash (cc)
    from (broken r f h l b g) e = clash (cc)

    to : {v : Result Verdict Refusal} → Outcome ts ps v → 64 < length ps → v ≡ Err Pairs
    to (many h) l = refl
    to (uneven f h) l = absurd (omega arith)
    to (kept f h g) l = absurd (omega arith)
    to (broken r f h m b g) l = absurd (omega arith)

-- 18 exactly for bytes that are no multiple of 3, where there are not too many pairs
pub refused-bytes : (ts : List ℕ) (ps : List Pair)
    → (ordered ts ps ≡ Err TokenBytes) ↔ ((length ps ≤ 64) × (length ts % 3 ≡ 0 → ⊥))
refused-bytes ts ps = (from (outcome ts ps), λ h. to (outcome ts ps) h.0 h.1)
  where
    from : {v : Result Verdict Refusal} → Outcome ts ps v → v ≡ Err TokenBytes → (length ps ≤ 64) × (length ts % 3 ≡ 0 → ⊥)
    from (many h) e = clash (cc)
    from (uneven f h) e = (f, h)
    from (kept f h g) e = clash (cc)
    from (broken r f h l b g) e = clash (cc)

    to : {v : Result Verdict Refusal} → Outcome ts ps v → length ps ≤ 64 → (length ts % 3 ≡ 0 → ⊥) → v ≡ Err TokenBytes
    to (many h) l u = absurd (omega arith)
    to (uneven f h) l u = refl
    to (kept f h g) l u = absurd (u h)
    to (broken r f h m b g) l u = absurd (u h)

-- where no token breaks a pair, every pair is kept, and the other way round
free-keeps : (ts : List ℕ) (ps : List Pair) → Free ts ps (token_count ts) → Keeps ts ps
free-keeps ts ps f p a i l n = go (earlier ts i p.first) refl
  where
    go : (b : Bool) → earlier ts i p.first ≡ b → (j : ℕ) × (j < i) × (name_at ts j ≡ p.first)
    go true e = earlier-at ts i p.first e
    go false e =
        let b : Breaks ts p i = record { named = n; without = λ j m q. true≢false (sym (at-earlier ts i p.first j m q) ∙ e) } in
        absurd (true≢false (sym (breaks-some ts ps i p a b) ∙ f i l))

keeps-free : (ts : List ℕ) (ps : List Pair) → Keeps ts ps → (i : ℕ) → i < token_count ts → breaks_some ts ps i ≡ true → ⊥
keeps-free ts ps k i l e =
    let (p, a, b) = some-breaks ts ps i e in
    let (j, m, n) = k p a i l b.named in
    b.without j m n

-- the token count exactly where every pair is kept
pub kept-exactly : (ts : List ℕ) (ps : List Pair) → length ps ≤ 64 → length ts % 3 ≡ 0 → (ordered ts ps ≡ Ok (Kept (token_count ts))) ↔ Keeps ts ps
kept-exactly ts ps few even = (from (outcome ts ps), to (outcome ts ps))
  where
    from : {v : Result Verdict Refusal} → Outcome ts ps v → v ≡ Ok (Kept (token_count ts)) → Keeps ts ps
    from (many h) e = absurd (omega arith)
    from (uneven f h) e = absurd (h even)
    from (kept f h g) e = free-keeps ts ps g
    from (broken r f h l b g) e = clash (cc)

    to : {v : Result Verdict Refusal} → Outcome ts ps v → Keeps ts ps → v ≡ Ok (Kept (token_count ts))
    to (many h) k = absurd (omega arith)
    to (uneven f h) k = absurd (h even)
    to (kept f h g) k = refl
    to (broken r f h l b g) k = absurd (keeps-free ts ps k r l b)

-- token r breaks some pair, and none before it does
first-to-break : (ts : List ℕ) (ps : List Pair) (r : ℕ) → r < token_count ts → breaks_some ts ps r ≡ true → Free ts ps r → FirstToBreak ts ps r
first-to-break ts ps r l e f =
    let (p, a, b) = some-breaks ts ps r e in
    record {
      inside = l;
      pair = p;
      listed = a;
      broken = b;
      before = λ j m q c d. true≢false (sym (breaks-some ts ps j q c d) ∙ f j m);
    }

first-is : (ts : List ℕ) (ps : List Pair) (r i : ℕ) → breaks_some ts ps r ≡ true → Free ts ps r → FirstToBreak ts ps i → r ≡ i
first-is ts ps r i e f b =
    let not-less : i < r → ⊥ = λ l. true≢false (sym (breaks-some ts ps i b.pair b.listed b.broken) ∙ f i l) in
    let not_more : r < i → ⊥ = λ l. let (p, a, d) = some-breaks ts ps r e in b.before r l p a d in
    omega arith

-- a token's number exactly where it is the first that breaks some pair
pub broken-exactly : (ts : List ℕ) (ps : List Pair) (i : ℕ) → length ps ≤ 64 → length ts % 3 ≡ 0 → (ordered ts ps ≡ Ok (Broken i)) ↔ FirstToBreak ts ps i
broken-exactly ts ps i few even = (from (outcome ts ps), to (outcome ts ps))
  where
    from : {v : Result Verdict Refusal} → Outcome ts ps v → v ≡ Ok (Broken i) → FirstToBreak ts ps i
    from (many h) e = absurd (omega arith)
    from (uneven f h) e = absurd (h even)
    from (kept f h g) e = clash (cc)
    from (broken r f h l b g) e = let q : r ≡ i = cc in rw q at (first-to-break ts ps r l b g)

    to : {v : Result Verdict Refusal} → Outcome ts ps v → FirstToBreak ts ps i → v ≡ Ok (Broken i)
    to (many h) b = absurd (omega arith)
    to (uneven f h) b = absurd (h even)
    to (kept f h g) b = absurd (true≢false (sym (breaks-some ts ps i b.pair b.listed b.broken) ∙ g i b.inside))
    to (broken r f h l e g) b = ap (λ (j : ℕ). Ok (Broken j)) (first-is ts ps r i e g b)

-- a list that keeps every pair is given its token count
pub kept-count : (ts : List ℕ) (ps : List Pair) (n : ℕ) → ordered ts ps ≡ Ok (Kept n) → n ≡ token_count ts
kept-count ts ps n = from (outcome ts ps)
  where
    from : {v : Result Verdict Refusal} → Outcome ts ps v → v ≡ Ok (Kept n) → n ≡ token_count ts
    from (many h) e = clash (cc)
    from (uneven f h) e = clash (cc)
    from (kept f h g) e = cc
    from (broken r f h l b g) e = clash (cc)

-- tokens that are tested alike have the same first
first-same : (ts us : List ℕ) (ps qs : List Pair) (n i : ℕ) → ((j : ℕ) → i ≤ j → j < i + n → breaks_some ts ps j ≡ breaks_some us qs j)
    → first_from ts ps n i ≡ first_from us qs n i
first-same ts us ps qs zero i f = refl
first-same ts us ps qs (suc n) i f =
    rw (f i (omega arith) (omega arith))
    (ap (λ (v : Verdict). cond (breaks_some us qs i) (Broken i) v) (first-same ts us ps qs n (suc i) (λ j l h. f j (omega arith) (omega arith))))

-- a token that breaks some pair of ps breaks some pair of a list that has them all
some-among : (ts : List ℕ) (ps qs : List Pair) (i : ℕ) → ((p : Pair) → Among p ps → Among p qs) → breaks_some ts ps i ≡ true
    → breaks_some ts qs i ≡ true
some-among ts ps qs i f e = let (p, a, b) = some-breaks ts ps i e in breaks-some ts qs i p (f p a) b

-- neither the order of the pairs nor how often one is listed counts
pub same-pairs : (ts : List ℕ) (ps qs : List Pair) → ((p : Pair) → Among p ps ↔ Among p qs) → length ps ≤ 64 → length qs ≤ 64
    → ordered ts ps ≡ ordered ts qs
unfolding ordered judged
same-pairs ts ps qs s few few' =
    rw (le-ltb 64 (length ps) few, le-ltb 64 (length qs) few')
    (ap (λ (v : Verdict). cond (eqb (length ts % 3) 0) (Ok v) (Err TokenBytes))
    (first-same ts ts ps qs (token_count ts) 0
    (λ j l h.
    alike (breaks_some ts ps j) (breaks_some ts qs j)
    (some-among ts ps qs j (λ p. (s p).0))
    (some-among ts qs ps j (λ p. (s p).1)))))

-- the same names up to token i are tested alike
earlier-same : (ts us : List ℕ) (i x : ℕ) → ((j : ℕ) → j < i → name_at ts j ≡ name_at us j) → earlier ts i x ≡ earlier us i x
earlier-same ts us zero x f = refl
earlier-same ts us (suc i) x f = rw (f i (omega arith), earlier-same ts us i x (λ j l. f j (omega arith)))

some_same : (ts us : List ℕ) (ps : List Pair) (i : ℕ) → ((j : ℕ) → j ≤ i → name_at ts j ≡ name_at us j) → breaks_some ts ps i ≡ breaks_some us ps i
some_same ts us [] i f = refl
some_same ts us (p ∷ ps) i f =
    rw (f i (omega arith), earlier-same ts us i p.first (λ j l. f j (omega arith)), some_same ts us ps i f)

-- of the tokens only the names count
pub same_names : (ts us : List ℕ) (ps : List Pair) → length ts ≡ length us → ((i : ℕ) → i < token_count ts → name_at ts i ≡ name_at us i)
    → ordered ts ps ≡ ordered us ps
unfolding ordered judged
same_names ts us ps e f =
    rw e
    (ap (λ (v : Verdict). cond (ltb 64 (length ps)) (Err Pairs) (cond (eqb (length us % 3) 0) (Ok v) (Err TokenBytes)))
    (first-same ts us ps ps (token_count us) 0 (λ j l h. some_same ts us ps j (λ i m. f i (omega arith)))))

-- the first token of a name breaks the pair of the name twice
pub name-twice : (ts : List ℕ) (x i : ℕ) → name_at ts i ≡ x → ((j : ℕ) → j < i → name_at ts j ≡ x → ⊥)
    → Breaks ts (record { first = x; second = x }) i
name-twice ts x i n f = record { named = n; without = f }

-- the result is at most the token count
pub order-gives : (ts : List ℕ) (ps : List Pair) (n : ℕ) → order_says ts ps ≡ gives n → n ≤ token_count ts
unfolding order_says
order-gives ts ps n = given (outcome ts ps)
  where
    given : {v : Result Verdict Refusal} → Outcome ts ps v → verdict_says v ≡ gives n → n ≤ token_count ts
    given (many h) e = clash (cc)
    given (uneven f h) e = clash (cc)
    given (kept f h g) e = let q : n ≡ token_count ts = cc in omega arith
    given (broken r f h l b g) e = let q : n ≡ r = cc in omega arith

-- 17 and 18 are the only refusals, and have no detail
pub order-refuses : (ts : List ℕ) (ps : List Pair) (n d : ℕ) → order_says ts ps ≡ refuses n d → ((n ≡ 17) ⊎ (n ≡ 18)) × (d ≡ 0)
unfolding order_says
order-refuses ts ps n d = refused (outcome ts ps)
  where
    refused : {v : Result Verdict Refusal} → Outcome ts ps v → verdict_says v ≡ refuses n d → ((n ≡ 17) ⊎ (n ≡ 18)) × (d ≡ 0)
    refused (many h) e = (inl (cc), cc)
    refused (uneven f h) e = (inr (cc), cc)
    refused (kept f h g) e = clash (cc)
    refused (broken r f h l b g) e = clash (cc)

-- the same verdicts in the paper's numbers
pub said-many : (ts : List ℕ) (ps : List Pair) → (order_says ts ps ≡ refuses 17 0) ↔ (64 < length ps)
unfolding order_says
said-many ts ps = (told (outcome ts ps), λ h. ap verdict_says ((refused-pairs ts ps).1 h))
  where
    told : {v : Result Verdict Refusal} → Outcome ts ps v → verdict_says v ≡ refuses 17 0 → 64 < length ps
    told (many h) e = h
    told (uneven f h) e = let z : ◌≡◌ {A = ℕ} 17 18 = cc in absurd (omega arith)
    told (kept f h g) e = clash (cc)
    told (broken r f h l b g) e = clash (cc)

pub said-uneven : (ts : List ℕ) (ps : List Pair) → (order_says ts ps ≡ refuses 18 0) ↔ ((length ps ≤ 64) × (length ts % 3 ≡ 0 → ⊥))
unfolding order_says
said-uneven ts ps = (told (outcome ts ps), λ h. ap verdict_says ((refused-bytes ts ps).1 h))
  where
    told : {v : Result Verdict Refusal} → Outcome ts ps v → verdict_says v ≡ refuses 18 0 → (length ps ≤ 64) × (length ts % 3 ≡ 0 → ⊥)
    told (many h) e = let z : ◌≡◌ {A = ℕ} 17 18 = cc in absurd (omega arith)
    told (uneven f h) e = (f, h)
    told (kept f h g) e = clash (cc)
    told (broken r f h l b g) e = clash (cc)

pub said-kept : (ts : List ℕ) (ps : List Pair) → length ps ≤ 64 → length ts % 3 ≡ 0 → (order_says ts ps ≡ gives (token_count ts)) ↔ Keeps ts ps
unfolding order_says
said-kept ts ps few whole = (told (outcome ts ps), λ h. ap verdict_says ((kept-exactly ts ps few whole).1 h))
  where
    told : {v : Result Verdict Refusal} → Outcome ts ps v → verdict_says v ≡ gives (token_count ts) → Keeps ts ps
    told (many h) e = clash (cc)
    told (uneven f h) e = clash (cc)
    told (kept f h g) e = free-keeps ts ps g
    told (broken r f h l b g) e = let q : r ≡ token_count ts = cc in absurd (omega arith)

pub said-broken : (ts : List ℕ) (ps : List Pair) (i : ℕ) → length ps ≤ 64 → length ts % 3 ≡ 0
    → ((order_says ts ps ≡ gives i) × (i < token_count ts)) ↔ FirstToBreak ts ps i
unfolding order_says
said-broken ts ps i few whole =
    ((λ h. told (outcome ts ps) h.0 h.1), λ f. (ap verdict_says ((broken-exactly ts ps i few whole).1 f), f.inside))
  where
    told : {v : Result Verdict Refusal} → Outcome ts ps v → verdict_says v ≡ gives i → i < token_count ts → FirstToBreak ts ps i
    told (many h) e l = clash (cc)
    told (uneven f h) e l = clash (cc)
    told (kept f h g) e l = let q : token_count ts ≡ i = cc in absurd (omega arith)
    told (broken r f h l b g) e m = let q : r ≡ i = cc in rw (sym q) (first-to-break ts ps r l b g)
