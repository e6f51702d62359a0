-- What each statement of a text is like.
use Rattle.std.proofs.Common.{◌≡◌, ℕ, zero, suc, ◌+◌, ◌-◌, ◌*◌, ◌<◌, ◌≤◌, Bool, true, false, List, [], ◌∷◌, length, take, get_or, drop, Option, Some, None, Result, Ok, Err, refl, sym, ◌∙◌, subst, arith}
use Rattle.std.specs.Prelude.{Vec, IfOk, if◌then◌else◌, nat_eq, nat_lt, ◌||◌, not}
use Rattle.std.specs.List.{All, filter, fold, list_all, list_any}
use Rattle.std.proofs.lemmas.List.{length-map, length-take}
use Rattle.std.proofs.lemmas.List.Elements.{All-nil, All-cons, filter_passes, All-head, All-tail}
use Rattle.std.proofs.lemmas.List.Filters.{length-filter_both}
use Rattle.std.proofs.lemmas.Bool.Decides.{nat_tests}
use Rattle.hep_text.specs.declared.constant.Scanner.TheVariants.{Outside}
use Rattle.hep_base.specs.declared.refusal.Refusal.{Refusal as TextFault}
use Rattle.hep_text.specs.declared.statement.Stmt.{Stmt}
use Rattle.std.specs.declared.alloc.Global.{Global}
use Rattle.hep_text.specs.Constant.{Character, is_over, text_from, scanner_after}
use Rattle.hep_text.specs.Line.{KindOfLine, comment, initial, continuation, refused, kind, labelled, numbered, label, label_of, is_digit, is_comment, is_tab, is_printable, is_blank_or_digit, is_continuation_mark, lines}
use Rattle.hep_text.specs.Reading.{Refusal, refusal, ◌>>=◌, Joined, Lined, joined, by_kind, begun, continued, columns, statement, each_statement, is_too_large, statements_of}
use Rattle.hep_text.specs.WellFormed.{LabelFits, IsWellFormed}
use Rattle.hep_text.proofs.Labels.{limit}

-- The number of a label

is_at_most_nine : (d : ℕ) → is_digit d ≡ true → d ≤ 57
is_at_most_nine d e = grind (arith, nat_tests)

value_fits : (ds : List ℕ) (n k : ℕ) → All (λ d. is_digit d ≡ true) ds → n < limit k → fold (λ (m d : ℕ). 10 * m + (d - 48)) n ds < limit (k + length ds)
value_fits [] n k all h = subst (λ (j : ℕ). n < limit j) (omega arith) h
value_fits (d ∷ ds) n k all h =
    let nine = is_at_most_nine d (All-head (λ (c : ℕ). is_digit c ≡ true) d ds all) in
    let more = value_fits ds (10 * n + (d - 48)) (suc k) (All-tail (λ (c : ℕ). is_digit c ≡ true) d ds all) (omega arith) in
    subst (λ (j : ℕ). fold (λ (m c : ℕ). 10 * m + (c - 48)) (10 * n + (d - 48)) ds < limit j) (omega arith) more

limit_fits : (k : ℕ) → k ≤ 5 → limit k ≤ 100000
limit_fits zero h = omega arith
limit_fits (suc zero) h = omega arith
limit_fits (suc (suc zero)) h = omega arith
limit_fits (suc (suc (suc zero))) h = omega arith
limit_fits (suc (suc (suc (suc zero)))) h = omega arith
limit_fits (suc (suc (suc (suc (suc zero))))) h = omega arith
limit_fits (suc (suc (suc (suc (suc (suc k)))))) h = absurd (omega arith)

abbrev Fits : Option ℕ → Type 0
Fits None = Unit {0}
Fits (Some n) = n ≤ 99999

label_of_fits : (ds : List ℕ) → All (λ d. is_digit d ≡ true) ds → length ds ≤ 5 → Fits (label_of ds)
label_of_fits [] all h = tt
label_of_fits (d ∷ ds) all h =
    let small = value_fits (d ∷ ds) 0 0 all (omega arith) in
    let most = limit_fits (0 + length (d ∷ ds)) (omega arith) in
    omega arith

label_fits : (l : List ℕ) → Fits (label (take 5 l))
label_fits l =
    let both = length-filter_both is_digit (λ c. not (is_digit c)) (λ c. refl) (take 5 l) in
    let five : length (filter is_digit (take 5 l)) ≤ 5 = omega (arith, length-take 5 l) in
    label_of_fits (filter is_digit (take 5 l)) (filter_passes is_digit (take 5 l)) five

-- The label of an initial line

label_of_initial : (a b : Option ℕ) (s t : List ℕ) → initial a s ≡ initial b t → a ≡ b
label_of_initial a b s t e = cc

one_or_more : (b : Bool) (n : ℕ) (s t : List ℕ) (a : Option ℕ) → (b ≡ false → 1 ≤ n) → n ≤ 99999 → (if b then refused 103 else initial (Some n) s) ≡ initial a t → LabelFits a
one_or_more true n s t a z h e = absurd (cc (e))
one_or_more false n s t a z h e = subst LabelFits (label_of_initial (Some n) a s t e) (z refl, h)

is_not_zero : (n : ℕ) → nat_eq n 0 ≡ false → 1 ≤ n
is_not_zero n e = grind (arith, nat_tests)

numbered_fits : (o : Option ℕ) (m : Bool) (s t : List ℕ) (a : Option ℕ) → Fits o → numbered o m s ≡ initial a t → LabelFits a
numbered_fits None true s t a f e = absurd (cc (e))
numbered_fits None false s t a f e = subst LabelFits (label_of_initial None a s t e) tt
numbered_fits (Some n) true s t a f e = absurd (cc (e))
numbered_fits (Some n) false s t a f e = one_or_more (nat_eq n 0) n s t a (is_not_zero n) f e

chosen : (b : Bool) (k : KindOfLine) (n : ℕ) (a : Option ℕ) (t : List ℕ) → (if b then k else refused n) ≡ initial a t → k ≡ initial a t
chosen true k n a t e = e
chosen false k n a t e = absurd (cc (e))

not_refused : (b : Bool) (k : KindOfLine) (n : ℕ) (a : Option ℕ) (t : List ℕ) → (if b then refused n else k) ≡ initial a t → k ≡ initial a t
not_refused false k n a t e = e
not_refused true k n a t e = absurd (cc (e))

not_comment : (b : Bool) (k : KindOfLine) (a : Option ℕ) (t : List ℕ) → (if b then comment else k) ≡ initial a t → k ≡ initial a t
not_comment false k a t e = e
not_comment true k a t e = absurd (cc (e))

initial_fits : (l : List ℕ) (a : Option ℕ) (t : List ℕ) → kind l ≡ initial a t → LabelFits a
unfolding kind labelled
initial_fits l a t e =
    let f = not_comment (is_comment l) _ a t e in
    let g = not_refused (list_any is_tab (take 72 l)) _ 101 a t f in
    let h = chosen (list_all is_printable (take 72 l)) _ 102 a t g in
    let i = chosen (list_all is_blank_or_digit (take 5 l)) _ 103 a t h in
    numbered_fits (label (take 5 l)) (is_continuation_mark (get_or l 5 32)) (drop 6 l) t a (label_fits l) i

-- The statements that lines have

abbrev LinedFits : Lined → Type 0
LinedFits s = ((1 ≤ s.line) × (s.line ≤ 65535)) × LabelFits s.label

abbrev AllFit : Joined → Type 0
AllFit (Ok r) = All LinedFits r.1
AllFit (Err e) = Unit {0}

begun_fits : (n : ℕ) (a : Option ℕ) (body : List Character) (rest_after : Joined) → (1 ≤ n) × (n ≤ 65535) → LabelFits a → AllFit rest_after → AllFit (begun n a body rest_after)
begun_fits n a body (Err e) h f all = tt
begun_fits n a body (Ok r) h f all = All-cons LinedFits _ r.1 (h, f) all

continued_fits : (body : List Character) (rest_after : Joined) → AllFit rest_after → AllFit (continued body rest_after)
continued_fits body (Err e) all = tt
continued_fits body (Ok r) all = all

counted_fits : (b : Bool) (n : ℕ) (body : List Character) (rest_after : Joined) → AllFit rest_after → AllFit (if b then continued body rest_after else refusal 104 n)
counted_fits true n body rest_after all = continued_fits body rest_after all
counted_fits false n body rest_after all = tt

by_kind_fits : (n : ℕ) (c : Option ℕ) (k : KindOfLine) (rest_after : Option ℕ → Joined) → (1 ≤ n) × (n ≤ 65535) → ((a : Option ℕ) (t : List ℕ) → k ≡ initial a t → LabelFits a) → ((d : Option ℕ) → AllFit (rest_after d)) → AllFit (by_kind n c k rest_after)
by_kind_fits n c comment rest_after h f all = all c
by_kind_fits n c (initial a body) rest_after h f all = begun_fits n a (columns 66 n 7 body) (rest_after (Some 0)) h (f a body refl) (all (Some 0))
by_kind_fits n None (continuation body) rest_after h f all = tt
by_kind_fits n (Some m) (continuation body) rest_after h f all = counted_fits (nat_lt m 19) n (columns 66 n 7 body) (rest_after (Some (m + 1))) (all (Some (m + 1)))
by_kind_fits n c (refused k) rest_after h f all = tt

joined_fits : (n : ℕ) (c : Option ℕ) (ls : List (List ℕ)) → 1 ≤ n → n + length ls ≤ 65536 → AllFit (joined n c ls)
unfolding joined
joined_fits n c [] low high = All-nil LinedFits
joined_fits n c (l ∷ ls) low high =
    by_kind_fits n c (kind l) (λ (d : Option ℕ). joined (n + 1) d ls) (low, omega arith) (initial_fits l) (λ d. joined_fits (n + 1) d ls (omega arith) (omega arith))

-- The statements of a text

statement_fits : (b : Bool) (s : Stmt) (n : ℕ) (t : Stmt) → IsWellFormed s → (if b then Ok s else refusal 106 n) ≡ Ok t → IsWellFormed t
statement_fits true s n t h e = let same : s ≡ t = cc in subst IsWellFormed same h
statement_fits false s n t h e = absurd (cc (e))

abbrev EachFits : Result (List Stmt) Refusal → Type 0
EachFits (Ok ss) = All IsWellFormed ss
EachFits (Err e) = Unit {0}

in_front : (one : Result Stmt Refusal) (rest_after : Result (List Stmt) Refusal) → ((t : Stmt) → one ≡ Ok t → IsWellFormed t) → EachFits rest_after → EachFits (one >>= λ t. rest_after >>= λ ts. Ok (t ∷ ts))
in_front (Err e) rest_after h all = tt
in_front (Ok t) (Err e) h all = tt
in_front (Ok t) (Ok ts) h all = All-cons IsWellFormed t ts (h t refl) all

each_fits : (ss : List Lined) → All LinedFits ss → EachFits (each_statement ss)
each_fits [] all = All-nil IsWellFormed
each_fits (s ∷ ss) all =
    let f = All-head LinedFits s ss all in
    let xs = text_from Outside s.characters in
    let placed = length-map xs (λ x. x.byte) ∙ sym (length-map xs (λ x. x.span)) in
    in_front (statement s) (each_statement ss) (λ t. statement_fits (is_over (scanner_after Outside s.characters)) _ s.line t (placed, f.0, f.1)) (each_fits ss (All-tail LinedFits s ss all))

few_lines : (a b : ℕ) → (nat_lt 4194304 a || nat_lt 65535 b) ≡ false → b ≤ 65535
few_lines a b e = grind (arith, nat_tests)

whole_fits : (rest_after : Joined) → AllFit rest_after → EachFits (rest_after >>= λ r. each_statement r.1)
whole_fits (Err e) all = tt
whole_fits (Ok r) all = each_fits r.1 all

all_fit : (r : Result (List Stmt) Refusal) (ts : List Stmt) → EachFits r → r ≡ Ok ts → All IsWellFormed ts
all_fit r ts all e = let P : Result (List Stmt) Refusal → Type 0 = EachFits in subst P e all

statements_fit : (b : Bool) (r : Result (List Stmt) Refusal) → (b ≡ false → EachFits r) → EachFits (if b then refusal 107 0 else r)
statements_fit true r h = tt
statements_fit false r h = h refl

each_has_shape : (s : List ℕ) (ts : List Stmt) → statements_of s ≡ Ok ts → All IsWellFormed ts
unfolding statements_of
each_has_shape s ts e =
    all_fit (statements_of s) ts (statements_fit (is_too_large s) _ (λ few. whole_fits (joined 1 None (lines s)) (joined_fits 1 None (lines s) (omega arith) (omega (arith, few_lines (length s) (length (lines s)) few))))) e

-- what was read of a text has the shape that the text's statements have
pub shape_of : (r : Result (Vec Stmt Global) TextFault) (s : List ℕ) (read : Result (List Stmt) Refusal) → statements_of s ≡ read → IfOk r (λ v. read ≡ Ok v.items) → IfOk r (λ v. All IsWellFormed v.items)
shape_of (Ok v) s read e h = each_has_shape s v.items (e ∙ h)
shape_of (Err f) s read e h = tt
