-- The page of promises: the three demands, and what document 02's requests add, over the definitions that the calls' contracts cite, each
-- proved by one citation. The contracts of table::check, matcher::read, reading::spell, tokens::tokens, ranking::compare, ranking::earlier,
-- notation::compile, order::order, live::LiveLine::new, add and take_back, page::read_page and apart::apart say that the calls answer and leave what these definitions say, for every
-- input: none of them has a `requires`, and each is proved to end.
-- The clause rivals of matcher::read and the clause precedence of ranking::compare say demand 3 of the answer and the buffer themselves, and
-- those of the calls for C of the number.
-- Assumes nothing.
use Prim.Native.Nat.{ℕ, ◌+◌, ◌*◌, ◌%◌, ◌≤◌, ◌<◌, max}
use mathlib.Core.Path.{◌≡◌}
use mathlib.Core.Bool.{Bool, true, false}
use mathlib.Core.List.{List, [], ◌∷◌, ◌++◌, map, flat_map}
use mathlib.Core.Logic.{◌⊎◌, ◌↔◌}
use lib.ListN.{length, get_or, take, drop}
use Rattle.posix.specs.Expressions.{Exp}
use Rattle.posix.specs.Values.{Val, flat, Reads}
use Rattle.posix.specs.Language.{Bytes, L}
use Rattle.posix.specs.Relation.{Posix}
use Rattle.posix.specs.Extends.{Extends, extends}
use Rattle.posix.proofs.Bytes.{spelled-bytes}
use Rattle.posix.proofs.Extends.{extends-sound, extends-complete, spelled-extends, extends-start, some-line}
use Rattle.table.specs.Records.{count, up_to, kind_at, a_at, b_at, tag_at, record_bytes}
use Rattle.table.specs.Faults.{Passes}
use Rattle.table.specs.Answers.{Said, gives, refuses, number}
use Rattle.table.specs.Checked.{checked}
use Rattle.table.specs.Expression.{exp_of}
use Rattle.table.proofs.Laws.{other-spells, other_none}
use Rattle.table.proofs.Checking.{check-passes, check-gives}
use Rattle.table.proofs.UpTo.{up-to-passes}
use Rattle.reading.specs.Codec.{record_size, encode}
use Rattle.reading.specs.Fitting.{Fits, spelled, kinds_and_arguments}
use Rattle.reading.specs.Calls.{spell_says, spell_leaves}
use Rattle.reading.proofs.Lengths.{fits-short}
use Rattle.reading.proofs.Fitting.{fits-unique, bytes_fit}
use Rattle.reading.proofs.Sizes.{bytes-fits}
use Rattle.reading.proofs.Forms.{form-fits}
use Rattle.reading.proofs.Spelling.{spell-writes}
use Rattle.reading.proofs.Misfits.{spell-misfits}
use Rattle.tokens.specs.Tokens.{Token, filter, tokens_from, token_bytes, Inside, tagged_parts, has_bytes, text_at, text_of}
use Rattle.tokens.specs.Listed.{tokens_says, tokens_leaves}
use Rattle.tokens.proofs.Counts.{tokens-count}
use Rattle.tokens.proofs.Text.{tokens-text}
use Rattle.tokens.proofs.Places.{tokens-inside}
use Rattle.tokens.proofs.Calls.{tokens-writes, tokens-misfits}
use Rattle.ranking.specs.Answers.{compare_says}
use Rattle.ranking.specs.OneLine.{OneLine, AnswersPrecedence}
use Rattle.ranking.proofs.CompareRanks.{compared}
use Rattle.ranking.proofs.Misfits.{misfits-first, misfits-second}
use Rattle.matcher.specs.Calls.{work_size, read_says, read_leaves, PosixWritten}
use Rattle.matcher.specs.Demands.{Setting, NoneOutranks}
use Rattle.matcher.proofs.Rivals.{read-outranks}
use Rattle.matcher.proofs.Written.{read-writes, read-refused}
use Rattle.live.specs.declared.LiveLine.{LiveLine}
use Rattle.live.specs.Lines.{holding}
use Rattle.live.specs.Calls.{new_says, new_leaves, add_says, take_back_says}
use Rattle.live.specs.Runs.{Call, call_says, call_leaves, RunsAsModel}
use Rattle.live.proofs.Holding.{fresh-accepted, fresh-refused}
use Rattle.live.proofs.OneCall.{refused-keeps}
use Rattle.live.proofs.Runs.{runs-as-model}
use Rattle.lines.specs.Lines.{lines_of, join_lines, Plain}
use Rattle.lines.proofs.Joining.{lines-joined, lines-plain, lines-back}
use Rattle.lexer.specs.Lexing.{tokens_of, lex_says, lex_leaves}
use Rattle.lexer.proofs.Lexing.{lex-by-tokens, lex-refused}
use Rattle.reorder.specs.Exchanges.{swapped, reordered, changed, OrRecord, Apart as AlternativesApart, Shared, Each}
use Rattle.reorder.specs.Readings.{mirrored}
use Rattle.reorder.proofs.Reordering.{one-swapped, reordered-checked, reordered-passes, reordered-lines, reordered-tokens, reordered-posix-tokens, reordered-read, reordered-writes, reordered-lists}
use Rattle.reorder.proofs.Shared.{shared-tokens, shared-differ}
use Rattle.reorder.specs.Texts.{SidesApart, Arranged}
use Rattle.reorder.proofs.Lines.{same_lists}
use Rattle.reorder.proofs.Texts.{neighbours, text-size, text-lines, text-tokens, text-reading}
use Rattle.apart.specs.Calls.{apart_says}
use Rattle.apart.proofs.Yes.{yes-apart}
use Rattle.page.specs.Entries.{Rules, Entry, entry_of, alike, likeness}
use Rattle.page.specs.Runs.{Run, members, runs, runs_by_first, AlikeInside, LikeFirst, Apart}
use Rattle.page.specs.Outcomes.{Who, the_page, line_rules, page_rules, one_line, PageSaid, names, page_number}
use Rattle.page.specs.Pages.{Sizes, if_taken, line_says, classes_of, rules_say, page_says, page_leaves, AllTaken, PageTaken}
use Rattle.page.proofs.Likeness.{alike-exactly, likeness-spelled}
use Rattle.page.proofs.Runs.{same_runs, runs-whole}
use Rattle.page.proofs.Division.{runs-alike, runs-like-first, runs-apart, runs-only}
use Rattle.page.proofs.Meaning.{page-refused, page-gives, page-said, page-left, page-reads, page-outranks, page-line-rules, page-page-rules, page-many, page-first-refused, page-empty}
use Rattle.page.specs.Sorted.{sorted}
use Rattle.page.proofs.Reordered.{same-page, same-page-left}
use Rattle.notation.specs.Trees.{Tree, alt, expression}
use Rattle.notation.specs.Grammar.{Whole}
use Rattle.notation.specs.Tables.{under, size, table_of}
use Rattle.notation.specs.Calls.{compile_says, compile_leaves, stops_at}
use Rattle.notation.specs.Accepted.{Text, Begins, TableFor}
use Rattle.notation.proofs.Complete.{one-tree}
use Rattle.notation.proofs.Stopping.{stops-begins, stops-there}
use Rattle.notation.proofs.Calls.{compile-outside, compile-many, compile-short, compile-writes, compile-gives, compile-table, compile-refused}
use Rattle.order.specs.declared.Pair.{Pair}
use Rattle.std.specs.Prelude.{Ok}
use Rattle.order.specs.declared.Verdict.TheVariants.{Kept, Broken}
use Rattle.order.specs.Breaks.{token_count, name_at, Breaks, Among, Keeps, FirstToBreak}
use Rattle.order.specs.Verdicts.{ordered, order_says}
use Rattle.order.proofs.Meaning.{kept-exactly, kept-count, broken-exactly, same-pairs, same_names, name-twice, order-refuses, said-many, said-uneven, said-kept, said-broken}
use Rattle.trace.specs.Numbers.{Small, SmallPage}
use Rattle.trace.specs.SameCalls.{SameCalls}
use Rattle.trace.proofs.Answers.{spell-refused, tokens-refused}
use Rattle.trace.proofs.Bounds.{small-checked, small-read, small-spell, small-compare, small-tokens, small-compile, room-for-line, room-for-all, small-apart}
use Rattle.trace.proofs.Numbers.{same_number}
use Rattle.trace.proofs.UpTo.{up-to-same, up-to-less}
use Rattle.trace.proofs.Ordering.{small-order, bytes-tokens, bytes-names}
use Rattle.trace.proofs.Living.{new-small, add_small, take-back-small}
use Rattle.trace.proofs.Paging.{small-page, same-page-number}

-- Demand 1: each call gives a result or one of document 01's refusals, but never 13 (request 6), for every table, start number, line, reading and length
pub check-answers : (t : List ℕ) → Small (checked t)
check-answers = small-checked

pub read-answers : (t : List ℕ) (k : ℕ) (s : List ℕ) (work room : ℕ) → Small (read_says t k s work room)
read-answers = small-read

pub spell-answers : (t : List ℕ) (k : ℕ) (bs : List ℕ) (room : ℕ) → Small (spell_says t k bs room)
spell-answers = small-spell

pub tokens-answers : (t : List ℕ) (k : ℕ) (bs : List ℕ) (room : ℕ) → Small (tokens_says t k bs room)
tokens-answers = small-tokens

pub compare-answers : (t : List ℕ) (k : ℕ) (bs cs : List ℕ) → Small (compare_says t k bs cs)
compare-answers = small-compare

pub compile-answers : (s : List ℕ) (room : ℕ) → Small (compile_says s room)
compile-answers = small-compile

pub order-answers : (ts : List ℕ) (ps : List Pair) → token_count ts < 4294967296 → Small (order_says ts ps)
order-answers = small-order

pub live-new-answers : (t : List ℕ) (k : ℕ) → Small (new_says t k)
live-new-answers = new-small

pub live-add-answers : (h : LiveLine) (c work : ℕ) → Small (add_says h c work)
live-add-answers = add_small

pub live-take-back-answers : (h : LiveLine) (work : ℕ) → Small (take_back_says h work)
live-take-back-answers = take-back-small

pub page-answers : (l p : Rules) (page : List ℕ) (z : Sizes) (room : ℕ) → SmallPage (page_says l p page z room)
page-answers = small-page

pub apart-answers : (t : List ℕ) (k : ℕ) → Small (apart_says t k)
apart-answers = small-apart

-- Demand 1: and no two of these answers have one number for C
pub number-unique : (x y : Said) → Small x → Small y → number x ≡ number y → x ≡ y
number-unique = same_number

pub page-number-unique : (x y : PageSaid) → SmallPage x → SmallPage y → page_number x ≡ page_number y → x ≡ y
page-number-unique = same-page-number

-- Demand 1: a refusal changes no output buffer
pub read_keeps : (t : List ℕ) (k : ℕ) (s : List ℕ) (work : ℕ) (out : List ℕ) (n d : ℕ) → read_says t k s work (length out) ≡ refuses n d → read_leaves t k s work out ≡ out
read_keeps = read-refused

pub spell-keeps : (t : List ℕ) (k : ℕ) (bs out : List ℕ) (n d : ℕ) → spell_says t k bs (length out) ≡ refuses n d → spell_leaves t k bs out ≡ out
spell-keeps = spell-refused

pub tokens-keeps : (t : List ℕ) (k : ℕ) (bs out : List ℕ) (n d : ℕ) → tokens_says t k bs (length out) ≡ refuses n d → tokens_leaves t k bs out ≡ out
tokens-keeps = tokens-refused

pub compile-keeps : (s out : List ℕ) (n d : ℕ) → compile_says s (length out) ≡ refuses n d → compile_leaves s out ≡ out
compile-keeps = compile-refused

pub page-keeps :
    (l p : Rules) (page : List ℕ) (z : Sizes) (out : List ℕ) (who : Who) (n d : ℕ) → page_says l p page z (length out) ≡ names who (refuses n d)
    → page_leaves l p page z out ≡ out
page-keeps = page-refused

-- Demand 2: Read writes the reading that the relation gives the line, and nothing else
pub read_right : (t : List ℕ) (k : ℕ) (s : List ℕ) (work : ℕ) (out : List ℕ) (n : ℕ) → read_says t k s work (length out) ≡ gives n → PosixWritten t k s out (read_leaves t k s work out) n
read_right = read-writes

-- Demand 2: for a fitting reading and a buffer that holds the answer, Spell returns just the line it flattens to
pub spell-right :
    (t : List ℕ) (k : ℕ) (bs out : List ℕ) → Passes t → k < count t → (f : Fits t k bs) → length (flat f.value) ≤ length out
    → (spell_says t k bs (length out) ≡ gives (length (flat f.value)))
    × (spell_leaves t k bs out ≡ flat f.value ++ drop (length (flat f.value)) out)
spell-right = spell-writes

-- Demand 2: and Tokens just its outermost tagged parts of at least one byte
pub tokens-right :
    (t : List ℕ) (k : ℕ) (bs out : List ℕ) → Passes t → k < count t → (f : Fits t k bs) → 3 * length (tokens_from t k f.value 0) ≤ length out
    → (tokens_says t k bs (length out) ≡ gives (length (tokens_from t k f.value 0)))
    × (tokens_leaves t k bs out
    ≡ token_bytes (tokens_from t k f.value 0) ++ drop (length (token_bytes (tokens_from t k f.value 0))) out)
tokens-right = tokens-writes

-- Demand 2: the tokens' places in the line hold just what its outermost tagged parts of at least one byte spell, in order and with their tags
pub tokens-placed :
    (t : List ℕ) (k : ℕ) (v : Val) → map (text_at (flat v)) (tokens_from t k v 0) ≡ map text_of (filter has_bytes (tagged_parts t k v))
tokens-placed = tokens-text

-- Request 10: every token lies inside its line
pub tokens-within : (t : List ℕ) (k : ℕ) (v : Val) → Inside (length (flat v)) (tokens_from t k v 0)
tokens-within = tokens-inside

-- Request 2: at most one token for each byte of the line
pub tokens-few : (t : List ℕ) (k : ℕ) (v : Val) (at : ℕ) → length (tokens_from t k v at) ≤ length (flat v)
tokens-few = tokens-count

-- Request 2: so Tokens gives no 11 where the buffer has 3 bytes for each byte of the reading's line, and none where it has 765
pub tokens-room :
    (t : List ℕ) (k : ℕ) (bs : List ℕ) (room : ℕ) (f : Fits t k bs) → 3 * length (flat f.value) ≤ room → (d : ℕ) → ¬ (tokens_says t k bs room ≡ refuses 11 d)
tokens-room = room-for-line

pub tokens-room-always : (t : List ℕ) (k : ℕ) (bs : List ℕ) (room : ℕ) → 765 ≤ room → (d : ℕ) → ¬ (tokens_says t k bs room ≡ refuses 11 d)
tokens-room-always = room-for-all

-- Demand 2: Spell and Tokens give 12 exactly when the bytes do not fit the start record
pub spell-unfit :
    (t : List ℕ) (k : ℕ) (bs : List ℕ) (room : ℕ) → Passes t → k < count t → (spell_says t k bs room ≡ refuses 12 0) ↔ ¬ (Fits t k bs)
spell-unfit = spell-misfits

pub tokens-unfit :
    (t : List ℕ) (k : ℕ) (bs : List ℕ) (room : ℕ) → Passes t → k < count t → (tokens_says t k bs room ≡ refuses 12 0) ↔ ¬ (Fits t k bs)
tokens-unfit = tokens-misfits

-- Demand 3: Check passes exactly the tables free of refusals 1 to 6
pub check-passed : (t : List ℕ) → Passes t → checked t ≡ gives (count t)
check-passed = check-passes

pub check-free : (t : List ℕ) (m : ℕ) → checked t ≡ gives m → Passes t × (m ≡ count t)
check-free = check-gives

-- Demand 3: Read gives 8 exactly when no byte sequence fits the start record and spells the line; otherwise one byte sequence does both and
-- Compare ranks it ahead of every other that does, and Read gives 11 exactly when the buffer is shorter than that one, else writes that one and
-- returns its record count
pub read-rivals :
    (t : List ℕ) (k : ℕ) (s : List ℕ) (work : ℕ) → Setting t k s work
    → (out : List ℕ)
    → NoneOutranks (λ x. read_says t k s work (length out) ≡ x) t k s out (read_leaves t k s work out)
read-rivals = read-outranks

-- Demand 3: for any two byte sequences that fit and spell one line, Compare's answer is document 01's precedence
pub compare-right :
    {t : List ℕ} {k : ℕ} {bs cs : List ℕ} (o : OneLine t k bs cs)
    → AnswersPrecedence (λ x. compare_says t k bs cs ≡ x) bs cs o.first.value o.second.value
compare-right = compared

-- Demand 3: and it gives 12 exactly when one of the two does not fit, with detail 0 for the first and 1 for the second
pub compare-unfit-first :
    (t : List ℕ) (k : ℕ) (bs cs : List ℕ) → Passes t → k < count t → (compare_says t k bs cs ≡ refuses 12 0) ↔ ¬ (Fits t k bs)
compare-unfit-first = misfits-first

pub compare-unfit-second :
    (t : List ℕ) (k : ℕ) (bs cs : List ℕ) → Passes t → k < count t
    → (compare_says t k bs cs ≡ refuses 12 1) ↔ (Fits t k bs × ¬ (Fits t k cs))
compare-unfit-second = misfits-second

-- Document 02, request 1: Other "holds for one byte c with c < a or c > b"
pub other-right :
    (t : List ℕ) (k : ℕ) → kind_at t k ≡ 6 → (s : List ℕ)
    → L (exp_of t k) s ↔ ((c : ℕ) × (c < 256) × ((c < a_at t k) ⊎ (b_at t k < c)) × (s ≡ c ∷ []))
other-right = other-spells

-- Document 02, request 1: "With a = 0 and b = 255 it spells no line"
pub other-of-none : (t : List ℕ) (k : ℕ) → kind_at t k ≡ 6 → a_at t k ≡ 0 → b_at t k ≡ 255 → (s : List ℕ) → ¬ (L (exp_of t k) s)
other-of-none = other_none

-- Every line that an expression spells, with letters of either kind, is a list of bytes
pub lines-bytes : (r : Exp) (s : List ℕ) → L r s → Bytes s
lines-bytes = spelled-bytes

-- Request 3: 15 is "for a text outside the grammar or over its limit", so that short of 16 and 11 the call accepts exactly the texts of the grammar
-- of up to 4,096 bytes
pub compile-exact : (s : List ℕ) (room : ℕ) → (compile_says s room ≡ refuses 15 0) ↔ ¬ (Text s)
compile-exact = compile-outside

-- Request 3: "each accepted text has one grouping"
pub compile-one-tree : {s : List ℕ} {t u : Tree} → Whole s t → Whole s u → t ≡ u
compile-one-tree = one-tree

-- Request 3: of such a text "16 for more than 255 records; after that 11", with the bytes needed
pub compile-many-records : (s : List ℕ) (room : ℕ) (x : Text s) → (compile_says s room ≡ refuses 16 0) ↔ (255 < size x.tree)
compile-many-records = compile-many

pub compile-short-buffer :
    (s : List ℕ) (room : ℕ) (x : Text s) → size x.tree ≤ 255
    → (d : ℕ)
    → (compile_says s room ≡ refuses 11 d) ↔ ((room < 4 * size x.tree) × (d ≡ 4 * size x.tree))
compile-short-buffer = compile-short

-- Request 3: otherwise it writes the table of the text's tree, "the record count is returned", and the later bytes are left
pub compile-right :
    (s out : List ℕ) (x : Text s) → size x.tree ≤ 255 → 4 * size x.tree ≤ length out
    → (compile_says s (length out) ≡ gives (size x.tree)) × (compile_leaves s out ≡ table_of x.tree ++ drop (4 * size x.tree) out)
compile-right = compile-writes

pub compile-result :
    (s : List ℕ) (room m : ℕ) → compile_says s room ≡ gives m → (x : Text s) × (m ≡ size x.tree) × (m ≤ 255) × (4 * m ≤ room)
compile-result = compile-gives

-- Request 3: "Every table it writes passes Check", and its last record is the root: it stands for the tree, record by record and tags included,
-- and has its expression
pub compile-stands : (s : List ℕ) (x : Text s) → size x.tree ≤ 255 → TableFor x.tree (table_of x.tree)
compile-stands = compile-table

-- Beyond request 3: the offset that `tracerules` gives for a text outside the grammar, of at most 4,096 bytes. Up to it the text is the beginning of
-- a text of the grammar; with the next five bytes, as many as a word has at most, it is not
pub stops-readable : (s : List ℕ) → length s ≤ 4096 → Begins (take (stops_at s) s)
stops-readable = stops-begins

pub stops-unreadable : (s : List ℕ) → length s ≤ 4096 → stops_at s + 5 ≤ length s → ¬ (Begins (take (stops_at s + 5) s))
stops-unreadable = stops-there

-- Request 5: "17 for over 64 pairs, then 18 for a token list whose bytes aren't a multiple of 3", and no other refusal, so that a list of any length
-- is refused by its two lengths alone
pub order-many-pairs : (ts : List ℕ) (ps : List Pair) → (order_says ts ps ≡ refuses 17 0) ↔ (64 < length ps)
order-many-pairs = said-many

pub order-part-of-token : (ts : List ℕ) (ps : List Pair) → (order_says ts ps ≡ refuses 18 0) ↔ ((length ps ≤ 64) × ¬ (length ts % 3 ≡ 0))
order-part-of-token = said-uneven

pub order-refusals : (ts : List ℕ) (ps : List Pair) (n d : ℕ) → order_says ts ps ≡ refuses n d → ((n ≡ 17) ⊎ (n ≡ 18)) × (d ≡ 0)
order-refusals = order-refuses

-- Request 5: otherwise the token count is given exactly when "every token with a second name has, earlier in the list, a token with its first name"
pub order-kept :
    (ts : List ℕ) (ps : List Pair) → length ps ≤ 64 → length ts % 3 ≡ 0 → (order_says ts ps ≡ gives (token_count ts)) ↔ Keeps ts ps
order-kept = said-kept

-- Request 5: and a lower number exactly when it is "the number, from 0, of the first token that breaks some pair"
pub order-broken :
    (ts : List ℕ) (ps : List Pair) (i : ℕ) → length ps ≤ 64 → length ts % 3 ≡ 0
    → ((order_says ts ps ≡ gives i) × (i < token_count ts)) ↔ FirstToBreak ts ps i
order-broken = said-broken

-- Request 5: the same of the verdict that order::order answers, which names the case
pub verdict-kept :
    (ts : List ℕ) (ps : List Pair) → length ps ≤ 64 → length ts % 3 ≡ 0 → (ordered ts ps ≡ Ok (Kept (token_count ts))) ↔ Keeps ts ps
verdict-kept = kept-exactly

pub verdict-count : (ts : List ℕ) (ps : List Pair) (n : ℕ) → ordered ts ps ≡ Ok (Kept n) → n ≡ token_count ts
verdict-count = kept-count

pub verdict-broken :
    (ts : List ℕ) (ps : List Pair) (i : ℕ) → length ps ≤ 64 → length ts % 3 ≡ 0 → (ordered ts ps ≡ Ok (Broken i)) ↔ FirstToBreak ts ps i
verdict-broken = broken-exactly

-- Request 5: "A pair with one name twice is broken by the first token of that name"
pub order-name-twice :
    (ts : List ℕ) (x i : ℕ) → name_at ts i ≡ x → ((j : ℕ) → j < i → ¬ (name_at ts j ≡ x)) → Breaks ts (record { first = x; second = x }) i
order-name-twice = name-twice

-- Request 5: the order of the pairs, and a pair that is there twice, change nothing; nor do the offsets and lengths of the tokens
pub order-same-pairs :
    (ts : List ℕ) (ps qs : List Pair) → ((p : Pair) → Among p ps ↔ Among p qs) → length ps ≤ 64 → length qs ≤ 64 → ordered ts ps ≡ ordered ts qs
order-same-pairs = same-pairs

pub order-same-names :
    (ts us : List ℕ) (ps : List Pair) → length ts ≡ length us → ((i : ℕ) → i < token_count ts → name_at ts i ≡ name_at us i)
    → ordered ts ps ≡ ordered us ps
order-same-names = same_names

-- Request 5: a list that Tokens wrote is one of whole tokens, and the names in it are the tags
pub order-takes-tokens : (xs : List Token) → (length (token_bytes xs) % 3 ≡ 0) × (token_count (token_bytes xs) ≡ length xs)
order-takes-tokens = bytes-tokens

pub order-takes-tags : (xs : List Token) (i : ℕ) → name_at (token_bytes xs) i ≡ get_or (map (λ (x : Token). x.tag) xs) i 0
order-takes-tags = bytes-names

-- Request 6: "Since a length over 255 can't be written", what fits spells at most 255 bytes; and of bytes that are the encoding of a reading, with its lengths
-- and record numbers, nothing more is asked
pub fits-at-most-255 : {t : List ℕ} {k : ℕ} {bs : List ℕ} → Fits t k bs → length (spelled bs) ≤ 255
fits-at-most-255 = fits-short

pub fits-encoded :
    (t : List ℕ) (k : ℕ) (bs : List ℕ) (v : Val) → Bytes bs → Reads (exp_of t k) v → bs ≡ encode t k v → Fits t k bs
fits-encoded = bytes_fit

-- Request 6: "A reading whose written lengths or record numbers aren't the true ones doesn't fit": of the byte sequences with the same kinds and arguments only
-- one fits, and it is the encoding of one reading
pub fits-true-lengths : {t : List ℕ} {k : ℕ} {bs cs : List ℕ} → Fits t k bs → Fits t k cs → kinds_and_arguments bs ≡ kinds_and_arguments cs → bs ≡ cs
fits-true-lengths = form-fits

pub fits-one-reading : {t : List ℕ} {k : ℕ} {bs : List ℕ} (f g : Fits t k bs) → f.value ≡ g.value
fits-one-reading = fits-unique

-- Document 01, "Readings", in request 6's bytes: "A fitting reading that spells n bytes has at most m times max(n, 1) records"
pub fits-size :
    (t : List ℕ) → Passes t → (k : ℕ) → k < count t → (bs : List ℕ) → Fits t k bs → length bs ≤ record_size * (count t * max (length (spelled bs)) 1)
fits-size = bytes-fits

-- Request 7: "whether some bytes after it, none included and of any number, would make it spell a line" is decided, and on the empty line it is
-- whether the expression spells some line at all. A line that has a reading needs no byte more, and what can be extended could be before its last
-- bytes, too
pub extends-exactly : (r : Exp) (s : List ℕ) → (extends r s ≡ true) ↔ Extends r s
extends-exactly r s = (extends-sound r s, extends-complete r s)

pub extends-some : (r : Exp) → (extends r [] ≡ true) ↔ ((s : List ℕ) × L r s)
extends-some = some-line

pub extends-spelled : (r : Exp) (s : List ℕ) → L r s → Extends r s
extends-spelled = spelled-extends

pub extends-earlier : (r : Exp) (s u : List ℕ) → Extends r (s ++ u) → Extends r s
extends-earlier = extends-start

-- Request 7: a live line "made afresh from a table and start number, holding a copy of both and no bytes, after the refusals 1 to 6 and 9. A refused
-- one holds one Nothing record, start 0 and no bytes." Every byte of it, the spare ones too
pub live_made : (t : List ℕ) (k n : ℕ) → new_says t k ≡ gives n → new_leaves t k ≡ holding t k []
live_made = fresh-accepted

pub live-refused : (t : List ℕ) (k n d : ℕ) → new_says t k ≡ refuses n d → new_leaves t k ≡ holding (record_bytes 0 0 0 0) 0 []
live-refused = fresh-refused

-- Request 7: "For every list of these calls from a fresh live line, the bytes are the model's and both facts are true of the model's list."
pub live-runs : (t : List ℕ) (k : ℕ) (calls : List Call) → RunsAsModel t k calls
live-runs = runs-as-model

-- Request 7: "A refused call changes neither line nor model", of a live line that is filled by hand, too
pub live-keeps : (h : LiveLine) (call : Call) (n d : ℕ) → call_says h call ≡ refuses n d → call_leaves h call ≡ h
live-keeps = refused-keeps

-- Request 8: "each ended by byte 10 (the last may lack it)": the lines of a page, joined again by byte 10, are the page, with or without its last byte
-- 10; no line has a byte 10; and lines without one, each with a byte 10 behind it, are the lines of what they make
pub page-lines-joined : (page : List ℕ) → (page ≡ join_lines (lines_of page)) ⊎ (page ≡ join_lines (lines_of page) ++ (10 ∷ []))
page-lines-joined = lines-joined

pub page-lines-plain : (page : List ℕ) → Plain (lines_of page)
page-lines-plain = lines-plain

pub page-lines-back : (u : List ℕ) (ss : List (List ℕ)) → Plain (u ∷ ss) → lines_of (join_lines (u ∷ ss) ++ (10 ∷ [])) ≡ u ∷ ss
page-lines-back = lines-back

-- Request 8: "each by Read's refusals and Tokens' 11": what is said of a line, and left in its token buffer, is what Tokens says and leaves of the
-- reading that Read wrote
pub line-by-tokens :
    (t : List ℕ) (k : ℕ) (s : List ℕ) (work : ℕ) (reading list : List ℕ) (n : ℕ) → read_says t k s work (length reading) ≡ gives n
    → (lex_says t k s work (length reading) (length list) ≡ tokens_says t k (take (record_size * n) (read_leaves t k s work reading)) (length list))
    × (lex_leaves t k s work (length reading) list ≡ tokens_leaves t k (take (record_size * n) (read_leaves t k s work reading)) list)
line-by-tokens = lex-by-tokens

pub line-by-read :
    (t : List ℕ) (k : ℕ) (s : List ℕ) (work room space n d : ℕ) → read_says t k s work room ≡ refuses n d → lex_says t k s work room space ≡ refuses n d
line-by-read = lex-refused

-- Request 10: "the same names in order and, for each token, the same bytes of text. Offsets don't count." What alike lines have in common are the names
-- of their tokens in order, each with its bytes of text
pub page-alike : (a b : Entry) → (alike a b ≡ true) ↔ (likeness a ≡ likeness b)
page-alike = alike-exactly

-- Request 10: and these are what the outermost tagged parts of at least one byte of the line's reading spell, wherever they stand
pub page-likeness :
    (l : Rules) (s : List ℕ) (v : Val) → Posix s (exp_of l.table l.start) v
    → likeness (entry_of l s) ≡ map text_of (filter has_bytes (tagged_parts l.table l.start v))
page-likeness = likeness-spelled

-- Request 8: "a run of alike lines counts as its first line": the runs are the page's lines, one after the other; each line of a run is alike to the
-- one before it and so to the first, and the last of a run is not alike to the first of the next; there are no other runs like that
pub page-runs-whole : (es : List Entry) → flat_map members (runs es) ≡ es
page-runs-whole = runs-whole

pub page-runs-alike : (es : List Entry) → AlikeInside (runs es)
page-runs-alike = runs-alike

pub page-runs-like-first : (es : List Entry) → LikeFirst (runs es)
page-runs-like-first = runs-like-first

pub page-runs-apart : (es : List Entry) → Apart (runs es)
page-runs-apart = runs-apart

pub page-runs-only : (es : List Entry) (rs : List Run) → AlikeInside rs → Apart rs → flat_map members rs ≡ es → rs ≡ runs es
page-runs-only = runs-only

-- Request 8: comparing with the line before finds the same runs as comparing with the run's first line
pub page-same-runs : (es : List Entry) → runs es ≡ runs_by_first es
page-same-runs = same_runs

-- Request 8: "The page's reading is the relation's reading of the class bytes"
pub page-right :
    (l p : Rules) (page : List ℕ) (z : Sizes) (out : List ℕ) (n : ℕ) → page_says l p page z (length out) ≡ names the_page (gives n)
    → PosixWritten p.table p.start (classes_of l page) out (page_leaves l p page z out) n
page-right = page-reads

-- Request 8: "written, counted and refused as by Read", where the rules, the number of lines and every line are taken; and only then there is a result
pub page-as-read :
    (l p : Rules) (page : List ℕ) (z : Sizes) → PageTaken l p page z
    → (room : ℕ)
    → page_says l p page z room ≡ names the_page (read_says p.table p.start (classes_of l page) z.work room)
page-as-read = page-said

pub page-left-as-read :
    (l p : Rules) (page : List ℕ) (z : Sizes) → PageTaken l p page z
    → (out : List ℕ)
    → page_leaves l p page z out ≡ read_leaves p.table p.start (classes_of l page) z.work out
page-left-as-read = page-left

pub page-result :
    (l p : Rules) (page : List ℕ) (z : Sizes) (room n : ℕ) → page_says l p page z room ≡ names the_page (gives n)
    → PageTaken l p page z × (read_says p.table p.start (classes_of l page) z.work room ≡ gives n)
page-result = page-gives

-- Request 8, demand 3: no rival of the page's reading ranks ahead of it, or exists where 8 is said
pub page-rivals :
    (l p : Rules) (page : List ℕ) (z : Sizes) → PageTaken l p page z → Bytes l.table
    → work_size (count p.table) (length (classes_of l page)) ≤ z.work
    → (out : List ℕ)
    → NoneOutranks (λ x. page_says l p page z (length out) ≡ names the_page x) p.table p.start (classes_of l page) out
    (page_leaves l p page z out)
page-rivals = page-outranks

-- Request 8: the refusals in their order: "1 to 6 and 9 for the line rules, then for the page rules; then 20 for over 255 lines; then the lines in order",
-- the first that is refused with its number as detail
pub page-by-line-rules :
    (l p : Rules) (page : List ℕ) (z : Sizes) (room n d : ℕ) → rules_say l ≡ refuses n d → page_says l p page z room ≡ names line_rules (refuses n d)
page-by-line-rules = page-line-rules

pub page-by-page-rules :
    (l p : Rules) (page : List ℕ) (z : Sizes) (room m n d : ℕ) → rules_say l ≡ gives m → rules_say p ≡ refuses n d
    → page_says l p page z room ≡ names page_rules (refuses n d)
page-by-page-rules = page-page-rules

pub page-by-count :
    (l p : Rules) (page : List ℕ) (z : Sizes) (room m n : ℕ) → rules_say l ≡ gives m → rules_say p ≡ gives n → 255 < length (lines_of page)
    → page_says l p page z room ≡ names the_page (refuses 20 0)
page-by-count = page-many

pub page-by-line :
    (l p : Rules) (page : List ℕ) (z : Sizes) (room m m' : ℕ) → rules_say l ≡ gives m → rules_say p ≡ gives m'
    → (us : List (List ℕ)) (s : List ℕ) (ss : List (List ℕ)) (n d : ℕ) → length (lines_of page) ≤ 255
    → lines_of page ≡ us ++ (s ∷ ss)
    → AllTaken l z 0 us
    → line_says l z (length us) s ≡ refuses n d
    → page_says l p page z room ≡ names one_line (refuses n (length us))
page-by-line = page-first-refused

-- Request 8: "An empty page reads as the empty line"
pub page-of-none :
    (l p : Rules) (z : Sizes) (room : ℕ)
    → page_says l p [] z room
    ≡ if_taken line_rules (rules_say l)
    (if_taken page_rules (rules_say p) (names the_page (read_says p.table p.start [] z.work room)))
page-of-none = page-empty

-- Request 9: exchanging the a and b of Or records, one after the other, `reordered t ks`; one exchange, `swapped t k`, is a list of one
pub reorder-one : (t : List ℕ) (k : ℕ) → reordered t (k ∷ []) ≡ swapped t k
reorder-one = one-swapped

-- Request 9: it "gives a table that Check passes too", and more: Check says the same, of refused tables too. It "reads exactly the same lines from
-- every start". Neither needs that the alternatives share no line
pub reorder-check : (t ks : List ℕ) → Each (OrRecord t) ks → checked (reordered t ks) ≡ checked t
reorder-check = reordered-checked

pub reorder-passes : (t ks : List ℕ) → Each (OrRecord t) ks → Passes t → Passes (reordered t ks)
reorder-passes = reordered-passes

pub reorder-lines :
    (t ks : List ℕ) → Each (OrRecord t) ks → Passes t → (k : ℕ) → k < count t → (s : List ℕ) → L (exp_of t k) s ↔ L (exp_of (reordered t ks) k) s
reorder-lines = reordered-lines

-- Request 9: "if no line is spelled by both alternatives of an Or record, however deep under others", of each in the first table, it "yields the same
-- token list for each": the tokens of the line, and those of its readings by the relation
pub reorder-tokens :
    (t ks : List ℕ) → Each (AlternativesApart t) ks → Passes t → (k : ℕ) → k < count t → (s : List ℕ) → length s ≤ 255
    → tokens_of (reordered t ks) k s ≡ tokens_of t k s
reorder-tokens = reordered-tokens

pub reorder-posix-tokens :
    (t ks : List ℕ) → Each (AlternativesApart t) ks → Passes t → (k : ℕ) → k < count t → (s : List ℕ) → length s ≤ 255
    → (v w : Val) → Posix s (exp_of t k) v → Posix s (exp_of (reordered t ks) k) w → tokens_from (reordered t ks) k w 0 ≡ tokens_from t k v 0
reorder-posix-tokens = reordered-posix-tokens

-- Request 9: so Read's answer is the same for every start number, line and length of buffers, of refused tables too
pub reorder-read :
    (t ks : List ℕ) → Each (AlternativesApart t) ks → (k : ℕ) (s : List ℕ) (work room : ℕ)
    → read_says (reordered t ks) k s work room ≡ read_says t k s work room
reorder-read = reordered-read

-- Request 9: Read writes the same bytes but for the kinds Left and Right, which are exchanged at the records whose fields are
pub reorder-writes :
    (t ks : List ℕ) → Each (AlternativesApart t) ks → (k : ℕ) (s : List ℕ) (work : ℕ) (out : List ℕ) (n : ℕ)
    → read_says t k s work (length out) ≡ gives n
    → read_leaves (reordered t ks) k s work out ≡ mirrored (changed ks) (take (record_size * n) (read_leaves t k s work out)) ++ drop (record_size * n) out
reorder-writes = reordered-writes

-- Request 9: and what Tokens says and leaves of the reading that Read wrote is the same
pub reorder-lists :
    (t ks : List ℕ) → Each (AlternativesApart t) ks → (k : ℕ) (s : List ℕ) (work : ℕ) (reading list : List ℕ) (n : ℕ)
    → read_says t k s work (length reading) ≡ gives n
    → (tokens_says (reordered t ks) k (take (record_size * n) (read_leaves (reordered t ks) k s work reading)) (length list)
    ≡ tokens_says t k (take (record_size * n) (read_leaves t k s work reading)) (length list))
    × (tokens_leaves (reordered t ks) k (take (record_size * n) (read_leaves (reordered t ks) k s work reading)) list
    ≡ tokens_leaves t k (take (record_size * n) (read_leaves t k s work reading)) list)
reorder-lists = reordered-lists

-- Request 9: and what is said of a page, by line rules and page rules so reordered; with the page rules as they were, the page's reading, too
pub reorder-page :
    (l p : Rules) (ks ms : List ℕ) → Each (AlternativesApart l.table) ks → Each (AlternativesApart p.table) ms
    → (page : List ℕ) (z : Sizes) (room : ℕ)
    → page_says (sorted l ks) (sorted p ms) page z room ≡ page_says l p page z room
reorder-page = same-page

pub reorder-page-reading :
    (l p : Rules) (ks : List ℕ) → Each (AlternativesApart l.table) ks → (page : List ℕ) (z : Sizes) (out : List ℕ) (n : ℕ)
    → page_says l p page z (length out) ≡ names the_page (gives n)
    → page_leaves (sorted l ks) p page z out ≡ page_leaves l p page z out
reorder-page-reading = same-page-left

-- Request 9: "Where the two share a line": from the record itself, if it has no tag, the line's tokens are those of the alternative that stands first,
-- and after the exchange those of the other; so under two tags they differ
pub reorder-shared :
    (t : List ℕ) (k : ℕ) (s : List ℕ) → Passes t → Shared t k s → tag_at t k ≡ 0
    → (tokens_of t k s ≡ tokens_of t (a_at t k) s) × (tokens_of (swapped t k) k s ≡ tokens_of t (b_at t k) s)
reorder-shared = shared-tokens

pub reorder-names-differ :
    (t : List ℕ) (k : ℕ) (s : List ℕ) → Passes t → Shared t k s → tag_at t k ≡ 0 → 1 ≤ tag_at t (a_at t k) → 1 ≤ tag_at t (b_at t k)
    → ¬ (tag_at t (a_at t k) ≡ tag_at t (b_at t k))
    → 1 ≤ length s
    → ¬ (tokens_of (swapped t k) k s ≡ tokens_of t k s)
reorder-names-differ = shared-differ

-- Request 9, of rules as text (request 3), whose records are numbered otherwise when their order changes: a text whose tree has the two sides of bars
-- exchanged that share no line, and rows of bars grouped otherwise, in any number and at any depth, has a table with as many records, which spells the
-- same lines from its last record, and each has the same tokens
pub reorder-text-size :
    {s s' : List ℕ} (x : Text s) (x' : Text s') {g : Bool} → Arranged g x.tree x'.tree → size x'.tree ≡ size x.tree
reorder-text-size = text-size

pub reorder-text-lines :
    {s s' : List ℕ} (x : Text s) (x' : Text s') {g : Bool} → Arranged g x.tree x'.tree
    → (line : List ℕ) → L (expression x.tree) line ↔ L (expression x'.tree) line
reorder-text-lines = text-lines

pub reorder-text-tokens :
    {s s' : List ℕ} (x : Text s) (x' : Text s') {g : Bool} → Arranged g x.tree x'.tree → size x.tree ≤ 255
    → (line : List ℕ) → length line ≤ 255
    → tokens_of (table_of x'.tree) (under x'.tree) line ≡ tokens_of (table_of x.tree) (under x.tree) line
reorder-text-tokens = text-tokens

-- Request 9, of rules as text: two neighbours of a row that share no line may be exchanged, what stands before them being as it is
pub reorder-neighbours : {t u w : Tree} {n : ℕ} → SidesApart u w → Arranged true (alt (alt t u 0) w n) (alt (alt t w 0) u n)
reorder-neighbours = neighbours

-- Request 9, of rules as text: exchanges alone leave Read's answers, record counts included, and what Tokens says and leaves of the reading that Read wrote
pub reorder-text-read :
    {s s' : List ℕ} (x : Text s) (x' : Text s') → Arranged false x.tree x'.tree → size x.tree ≤ 255 → (line : List ℕ) (work room : ℕ)
    → read_says (table_of x'.tree) (under x'.tree) line work room ≡ read_says (table_of x.tree) (under x.tree) line work room
reorder-text-read x x' y few = (text-reading x x' y few).reads

pub reorder-text-lists :
    {s s' : List ℕ} (x : Text s) (x' : Text s') → Arranged false x.tree x'.tree → size x.tree ≤ 255
    → (line : List ℕ) (work : ℕ) (reading list : List ℕ) (n : ℕ)
    → read_says (table_of x.tree) (under x.tree) line work (length reading) ≡ gives n
    → (tokens_says (table_of x'.tree) (under x'.tree)
    (take (record_size * n) (read_leaves (table_of x'.tree) (under x'.tree) line work reading)) (length list)
    ≡ tokens_says (table_of x.tree) (under x.tree) (take (record_size * n) (read_leaves (table_of x.tree) (under x.tree) line work reading))
    (length list))
    × (tokens_leaves (table_of x'.tree) (under x'.tree)
    (take (record_size * n) (read_leaves (table_of x'.tree) (under x'.tree) line work reading)) list
    ≡ tokens_leaves (table_of x.tree) (under x.tree) (take (record_size * n) (read_leaves (table_of x.tree) (under x.tree) line work reading)) list)
reorder-text-lists x x' y few = same_lists (text-reading x x' y few)

-- Request 9: where Apart answers 1, record k is an Or and no line is spelled by both its alternatives
pub apart-yes : (t : List ℕ) (k : ℕ) → apart_says t k ≡ gives 1 → AlternativesApart t k
apart-yes = yes-apart

-- Beyond the demands: a table that passes may be lent up to its start record alone. It passes too, with the start record as its last, each call
-- says and leaves the same by it, and Read needs no more work area
pub lent-passes : (t : List ℕ) (k : ℕ) → Passes t → k < count t → Passes (up_to t k) × (count (up_to t k) ≡ k + 1)
lent-passes = up-to-passes

pub lent_same : (t : List ℕ) (k : ℕ) → Passes t → k < count t → SameCalls t (up_to t k) k
lent_same = up-to-same

pub lent-less : (t : List ℕ) (k n : ℕ) → Passes t → k < count t → work_size (count (up_to t k)) n ≤ work_size (count t) n
lent-less = up-to-less
