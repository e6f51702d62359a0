-- One line, and the lines after it.
use Rattle.std.proofs.Common.{◌≡◌, ℕ, ◌+◌, true, false, List, [], ◌∷◌, ◌++◌, Option, Some, None, Result, Ok, Err, refl, sym, ap, ◌∙◌, append_assoc, length, arith}
use Rattle.std.specs.Prelude.{nat_lt}
use Rattle.std.proofs.lemmas.List.{append-nil}
use Rattle.hep_text.specs.declared.constant.Scanner.TheVariants.{Outside}
use Rattle.hep_text.specs.declared.statement.Stmt.{Stmt}
use Rattle.hep_text.specs.Constant.{Character}
use Rattle.hep_text.specs.Line.{initial, continuation, kind, lines}
use Rattle.hep_text.specs.Reading.{Refusal, refusal, ◌>>=◌, Joined, joined, by_kind, begun, continued, columns, statement, each_statement, is_too_large, statements_of}
use Rattle.hep_text.specs.Progress.{Started, longer, over, last_of, finish, with_last, count_of}
use Rattle.hep_text.proofs.Text.{longer_twice}

-- a statement of which nothing was read yet
abbrev pub fresh : ℕ → Option ℕ → Started
fresh n label = record { line = n; label = label; continued = 0; text = []; spans = []; scanner = Outside }

-- the lines after a line, by the count of continuation lines
abbrev pub after_of : ℕ → List (List ℕ) → Option ℕ → Joined
after_of n ls = λ (c : Option ℕ). joined (n + 1) c ls

-- a list with one statement, where it isn't at fault
abbrev alone : Result Stmt Refusal → Result (List Stmt) Refusal
alone r = r >>= λ s. Ok (s ∷ [])

over_is : (n : ℕ) (label : Option ℕ) (xs : List Character) → over (longer (fresh n label) xs) ≡ statement (record { line = n; label = label; characters = xs })
over_is n label xs = refl

-- a statement that was read whole stands last among those that are over, or first among those after
moved : (done last one rest_after : Result (List Stmt) Refusal) → (done >>= λ ss. last >>= λ l. (one >>= λ s. rest_after >>= λ ts. Ok (s ++ ts)) >>= λ ts. Ok (ss ++ (l ++ ts))) ≡ ((done >>= λ ss. last >>= λ l. Ok (ss ++ l)) >>= λ ss. one >>= λ s. rest_after >>= λ ts. Ok (ss ++ (s ++ ts)))
moved (Err e) last one rest_after = refl
moved (Ok ss) (Err e) one rest_after = refl
moved (Ok ss) (Ok l) (Err e) rest_after = refl
moved (Ok ss) (Ok l) (Ok s) (Err e) = refl
moved (Ok ss) (Ok l) (Ok s) (Ok ts) = ap Ok (sym (append_assoc ss l (s ++ ts)))

first_of_all : (one : Result Stmt Refusal) (rest_after : Result (List Stmt) Refusal) → (one >>= λ t. rest_after >>= λ ts. Ok (t ∷ ts)) ≡ (alone one >>= λ s. rest_after >>= λ ts. Ok (s ++ ts))
first_of_all (Err e) rest_after = refl
first_of_all (Ok t) (Err e) = refl
first_of_all (Ok t) (Ok ts) = refl

started_with : (done : Result (List Stmt) Refusal) (current : Option Started) (n : ℕ) (label : Option ℕ) (body : List Character) (rest_after : Joined) → finish done current (begun n label body rest_after) ≡ finish (with_last done current) (Some (longer (fresh n label) body)) rest_after
started_with done current n label body (Err e) = refl
started_with done current n label body (Ok r) =
    let whole : over (longer (longer (fresh n label) body) r.0) ≡ statement (record { line = n; label = label; characters = body ++ r.0 }) =
    ap over (sym (longer_twice (fresh n label) body r.0)) ∙ over_is n label (body ++ r.0) in
    let rest_after = first_of_all (statement (record { line = n; label = label; characters = body ++ r.0 })) (each_statement r.1) in
    ap (λ (b : Result (List Stmt) Refusal). done >>= λ ss. last_of current [] >>= λ l. b >>= λ ts. Ok (ss ++ (l ++ ts))) (rest_after ∙ ap (λ (o : Result Stmt Refusal). alone o >>= λ s. each_statement r.1 >>= λ ts. Ok (s ++ ts)) (sym whole))
    ∙ moved done (last_of current []) (alone (over (longer (longer (fresh n label) body) r.0))) (each_statement r.1)

-- an initial line: the statement before it is over, and its own is begun
pub on_initial : (done over : Result (List Stmt) Refusal) (current : Option Started) (p q : Started) (n : ℕ) (ls : List (List ℕ)) (label : Option ℕ) (body : List ℕ) → over ≡ with_last done current → p ≡ longer q (columns 66 n 7 body) → q ≡ fresh n label → finish done current (by_kind n (count_of current) (initial label body) (after_of n ls)) ≡ finish over (Some p) (joined (n + 1) (count_of (Some p)) ls)
on_initial done over current p q n ls label body f g h =
    let xs = columns 66 n 7 body in
    let read : p ≡ longer (fresh n label) xs = g ∙ ap (λ (r : Started). longer r xs) h in
    started_with done current n label xs (joined (n + 1) (Some 0) ls)
    ∙ ap (λ (r : Started). finish (with_last done current) (Some r) (joined (n + 1) (count_of (Some r)) ls)) (sym read)
    ∙ ap (λ (o : Result (List Stmt) Refusal). finish o (Some p) (joined (n + 1) (count_of (Some p)) ls)) (sym f)

-- a statement with one more continuation line
abbrev pub counted : Started → Started
counted p = record { line = p.line; label = p.label; continued = p.continued + 1; text = p.text; spans = p.spans; scanner = p.scanner }

continued_with : (done : Result (List Stmt) Refusal) (p : Started) (body : List Character) (rest_after : Joined) → finish done (Some p) (continued body rest_after) ≡ finish done (Some (longer (counted p) body)) rest_after
continued_with done p body (Err e) = refl
continued_with done p body (Ok r) =
    let whole : over (longer p (body ++ r.0)) ≡ over (longer (longer (counted p) body) r.0) = ap over (longer_twice (counted p) body r.0) in
    ap (λ (o : Result Stmt Refusal). done >>= λ ss. (o >>= λ s. Ok (s ∷ [])) >>= λ last. each_statement r.1 >>= λ ts. Ok (ss ++ (last ++ ts))) whole

-- a continuation line: the statement goes on with it
pub on_continuation : (done : Result (List Stmt) Refusal) (current : Option Started) (p q r : Started) (n : ℕ) (ls : List (List ℕ)) (body : List ℕ) → current ≡ Some p → nat_lt p.continued 19 ≡ true → q ≡ counted p → r ≡ longer q (columns 66 n 7 body) → finish done current (by_kind n (count_of current) (continuation body) (after_of n ls)) ≡ finish done (Some r) (joined (n + 1) (count_of (Some r)) ls)
on_continuation done current p q r n ls body e few f g =
    let xs = columns 66 n 7 body in
    let read : r ≡ longer (counted p) xs = g ∙ ap (λ (s : Started). longer s xs) f in
    let counted_up : by_kind n (count_of (Some p)) (continuation body) (after_of n ls) ≡ continued xs (joined (n + 1) (Some (p.continued + 1)) ls) = rw few refl in
    ap (λ (c : Option Started). finish done c (by_kind n (count_of c) (continuation body) (after_of n ls))) e
    ∙ ap (finish done (Some p)) counted_up
    ∙ continued_with done p xs (joined (n + 1) (Some (p.continued + 1)) ls)
    ∙ ap (λ (s : Started). finish done (Some s) (joined (n + 1) (count_of (Some s)) ls)) (sym read)

nothing_after : (done last : Result (List Stmt) Refusal) → (done >>= λ ss. last >>= λ l. Ok (ss ++ (l ++ []))) ≡ (done >>= λ ss. last >>= λ l. Ok (ss ++ l))
nothing_after (Err e) last = refl
nothing_after (Ok ss) (Err e) = refl
nothing_after (Ok ss) (Ok l) = ap (λ (w : List Stmt). Ok (ss ++ w)) (append-nil l)

pub at_end : (done : Result (List Stmt) Refusal) (current : Option Started) (n : ℕ) (c : Option ℕ) → finish done current (joined n c []) ≡ with_last done current
unfolding joined
at_end done current n c = nothing_after done (last_of current [])

first_after : (rest_after : Result (List Stmt) Refusal) → (rest_after >>= λ ts. Ok ([] ++ ([] ++ ts))) ≡ rest_after
first_after (Err e) = refl
first_after (Ok ts) = refl

-- at the first line nothing was read yet
pub at_start : (rest_after : Joined) → finish (Ok []) None rest_after ≡ (rest_after >>= λ r. each_statement r.1)
at_start (Err e) = refl
at_start (Ok r) = first_after (each_statement r.1)

-- what the lines of a text come to, however many they are
abbrev pub whole : List ℕ → Result (List Stmt) Refusal
whole s = joined 1 None (lines s) >>= λ r. each_statement r.1

pub too_large : (s : List ℕ) → is_too_large s ≡ true → statements_of s ≡ refusal 107 0
unfolding statements_of
too_large s e = rw e refl

pub not_too_large : (s : List ℕ) → is_too_large s ≡ false → statements_of s ≡ whole s
unfolding statements_of
not_too_large s e = rw e refl

-- with no line left, the statements that are over are those of the text
pub all_lines : (done : Result (List Stmt) Refusal) (current : Option Started) (n : ℕ) (rest s : List ℕ) → is_too_large s ≡ false → length rest ≡ 0 → finish done current (joined n (count_of current) (lines rest)) ≡ whole s → statements_of s ≡ with_last done current
all_lines done current n [] s small e so_far = not_too_large s small ∙ sym so_far ∙ at_end done current n (count_of current)
all_lines done current n (c ∷ rest) s small e so_far = absurd (omega arith)

-- with lines left, the next of them is line n, which is of its kind
pub next_of : (done : Result (List Stmt) Refusal) (current : Option Started) (n : ℕ) (rest s l rest_after : List ℕ) → lines rest ≡ l ∷ lines rest_after → finish done current (joined n (count_of current) (lines rest)) ≡ whole s → finish done current (by_kind n (count_of current) (kind l) (after_of n (lines rest_after))) ≡ whole s
unfolding joined
next_of done current n rest s l rest_after cut so_far =
    ap (λ (ls : List (List ℕ)). finish done current (joined n (count_of current) ls)) (sym cut) ∙ so_far
