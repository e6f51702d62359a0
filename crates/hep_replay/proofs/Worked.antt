-- Worked texts of histories and choices, byte for byte, and bad lines: which line stands at the front of a text, by computation.
use Rattle.std.proofs.Common.{◌≡◌, ◌≢◌, ℕ, ◌^◌, ◌<◌, ◌≤◌, Bool, true, false, List, [], ◌∷◌, ◌++◌, Option, Some, None, inr, length, take, drop, refl, sym, ap, ◌∙◌, arith, append-nil, lit≤, lit<, nat_eq, nat_le, nat_lt, ◌&&◌, if◌then◌else◌, not, codes}
use Rattle.std.specs.Char.{is_ascii_digit}
use Rattle.std.specs.Fmt.{decimal, digits}
use Rattle.std.specs.List.{prefix_len, AllByRecursion, list_all}
use Rattle.std.specs.Str.Parse.{digits_value}
use Rattle.std.proofs.lemmas.Bool.Decides.{nat_tests}
use Rattle.hep_machine.specs.declared.event.Entry.{Entry}
use Rattle.hep_replay.specs.Choices.{choice_text, IsProcess}
use Rattle.hep_replay.specs.Histories.{entry_text, IsAllowed, history_text}
use Rattle.std.proofs.lemmas.Bool.{and_parts}
use Rattle.hep_replay.specs.Lines.{IsRefusedText, most_bytes, AreLines}
use Rattle.hep_output.proofs.Digits.{cut, decimal_value, marked}
use Rattle.hep_replay.proofs.Digits.{choice_is, entry_is}

abbrev same : List ℕ → List ℕ → Bool
same [] [] = true
same (c ∷ cs) (d ∷ ds) = nat_eq c d && same cs ds
same _ _ = false

abbrev begins : ℕ → List ℕ → Bool
begins c [] = false
begins c (d ∷ ds) = nat_eq c d

same_itself : (cs : List ℕ) → same cs cs ≡ true
same_itself [] = refl
same_itself (c ∷ cs) = let rest = same_itself cs in grind (arith, nat_tests, rest)

begins_itself : (c : ℕ) (cs : List ℕ) → begins c (c ∷ cs) ≡ true
begins_itself c cs = grind (arith, nat_tests)

-- the number that these digits are the decimal of, where the mark stands after them
abbrev pub decided : ℕ → List ℕ → List ℕ → Option (ℕ × List ℕ)
decided mark ds rest = if same (decimal (digits_value 10 ds)) ds && begins mark rest then Some (digits_value 10 ds, drop 1 rest) else None

abbrev pub number_in : ℕ → List ℕ → Option (ℕ × List ℕ)
number_in mark text = decided mark (take (prefix_len is_ascii_digit text) text) (drop (prefix_len is_ascii_digit text) text)

chosen : {A : Type 0} (a b : Bool) (x : A) → a ≡ true → b ≡ true → (if a && b then Some x else None) ≡ Some x
chosen true true x h k = refl
chosen false b x h k = absurd (cc (h))
chosen true false x h k = absurd (cc (k))

decided_is : (mark n : ℕ) (more : List ℕ) → n < 2 ^ 64 → decided mark (decimal n) (mark ∷ more) ≡ Some (n, more)
decided_is mark n more h =
    ap (λ (k : ℕ). if same (decimal k) (decimal n) && begins mark (mark ∷ more) then Some (k, more) else None) (decimal_value n h)
    ∙ chosen (same (decimal n) (decimal n)) (begins mark (mark ∷ more)) (n, more) (same_itself (decimal n)) (begins_itself mark more)

number_in_is : (text : List ℕ) (mark n : ℕ) (more : List ℕ) → n < 2 ^ 64 → mark < 48 → text ≡ marked n mark more → number_in mark text ≡ Some (n, more)
number_in_is text mark n more h lt e =
    let parts = cut text n mark (prefix_len is_ascii_digit text) more h lt refl e in
    ap (λ (ds : List ℕ). decided mark ds (drop (prefix_len is_ascii_digit text) text)) parts.0 ∙ ap (decided mark (decimal n)) parts.1 ∙ decided_is mark n more h

-- ---- texts that are refused at their first line

-- a text that isn't empty, nor too long, with no line at its front
abbrev is_bad : (List ℕ → Bool) → List ℕ → Bool
is_bad begins_line text = not (begins_line text) && (nat_lt 0 (length text) && nat_le (length text) most_bytes)

refused : {A : Type 0} (line : A → List ℕ) (Allows : A → Type 0) (begins_line : List ℕ → Bool)
    → ((text : List ℕ) → begins_line text ≡ false → (x : A) (more : List ℕ) → Allows x → text ≢ line x ++ more)
    → (texts : List (List ℕ)) → list_all (is_bad begins_line) texts ≡ true → AllByRecursion (λ text. IsRefusedText line Allows text 1) texts
refused line Allows begins_line other [] h = tt
refused line Allows begins_line other (text ∷ texts) h =
    let parts = and_parts (is_bad begins_line text) (list_all (is_bad begins_line) texts) h in
    let none : begins_line text ≡ false = let bad = parts.0 in grind (arith, nat_tests, bad) in
    let some : 0 < length text = let bad = parts.0 in grind (arith, nat_tests, bad) in
    let size : length text ≤ most_bytes = let bad = parts.0 in grind (arith, nat_tests, bad) in (
      inr (size, record { before = []; rest = text; place = refl; whole = refl; each = tt; some = λ e. omega (arith, some, ap length e); none = other text none }),
      refused line Allows begins_line other texts parts.1,
    )

-- ---- choices

abbrev choice_by : Option (ℕ × List ℕ) → Bool
choice_by None = false
choice_by (Some x) = nat_le 1 x.0 && nat_lt x.0 (2 ^ 63)

-- whether a choice's line stands at the front
abbrev pub begins_choice : List ℕ → Bool
begins_choice text = choice_by (number_in 10 text)

no_choice : (text : List ℕ) → begins_choice text ≡ false → (p : ℕ) (more : List ℕ) → IsProcess p → text ≢ choice_text p ++ more
no_choice text none p more h e =
    let found : number_in 10 text ≡ Some (p, more) = number_in_is text 10 p more (omega arith) (omega arith) (e ∙ choice_is p more) in
    let passes : (nat_le 1 p && nat_lt p (2 ^ 63)) ≡ true = grind (arith, nat_tests) in
    let both : begins_choice text ≡ true = ap choice_by found ∙ passes in
    cc

-- ---- entries

abbrev steps_by : Option (ℕ × List ℕ) → Bool
steps_by None = false
steps_by (Some x) = nat_le x.0 1024

abbrev entry_by : Option (ℕ × List ℕ) → Bool
entry_by None = false
entry_by (Some x) = (nat_le 1 x.0 && nat_lt x.0 (2 ^ 63)) && steps_by (number_in 10 x.1)

-- whether an entry's line stands at the front
abbrev pub begins_entry : List ℕ → Bool
begins_entry text = entry_by (number_in 32 text)

no_entry : (text : List ℕ) → begins_entry text ≡ false → (e : Entry) (more : List ℕ) → IsAllowed e → text ≢ entry_text e ++ more
no_entry text none e more h is =
    let process : number_in 32 text ≡ Some (e.process, marked e.steps 10 more) =
    number_in_is text 32 e.process (marked e.steps 10 more) (omega arith) (omega arith) (is ∙ entry_is e more) in
    let steps : number_in 10 (marked e.steps 10 more) ≡ Some (e.steps, more) = number_in_is (marked e.steps 10 more) 10 e.steps more (omega arith) (omega arith) refl in
    let passes : ((nat_le 1 e.process && nat_lt e.process (2 ^ 63)) && nat_le e.steps 1024) ≡ true = grind (arith, nat_tests) in
    let both : begins_entry text ≡ true =
    ap entry_by process ∙ ap (λ (o : Option (ℕ × List ℕ)). (nat_le 1 e.process && nat_lt e.process (2 ^ 63)) && steps_by o) steps ∙ passes in
    cc

-- after one line
pub second_bad : (text rest : List ℕ) (e : Entry) → text ≡ entry_text e ++ rest → IsAllowed e → begins_entry rest ≡ false → rest ≢ [] → length text ≤ most_bytes → IsRefusedText entry_text IsAllowed text 2
second_bad text rest e whole allowed none some size =
    inr (size, record { before = e ∷ []; rest = rest; place = refl; whole = whole ∙ ap (λ (l : List ℕ). l ++ rest) (sym (append-nil (entry_text e))); each = (allowed, tt); some = some; none = no_entry rest none })

entry : ℕ → ℕ → Entry
entry p n = record { process = p; steps = n }

-- ---- texts that are read

waiting_once : history_text (entry 1 0 ∷ []) ≡ 49 ∷ 32 ∷ 48 ∷ 10 ∷ []
unfolding digits entry
waiting_once = refl

two_entries : history_text (entry 1 1024 ∷ entry 20 3 ∷ []) ≡ codes "1 1024\n20 3\n"
unfolding digits entry
two_entries = refl

waiting_once_is_read : AreLines entry_text IsAllowed (codes "1 0\n") (entry 1 0 ∷ [])
unfolding digits entry
waiting_once_is_read = record { size = lit≤ tt; whole = refl; each = (((lit≤ tt, lit< tt), lit≤ tt), tt) }

no_entries : AreLines entry_text IsAllowed [] []
no_entries = record { size = lit≤ tt; whole = refl; each = tt }

highest_process : AreLines choice_text IsProcess (codes "9223372036854775807\n1\n") (9223372036854775807 ∷ 1 ∷ [])
unfolding digits
highest_process = record { size = lit≤ tt; whole = refl; each = ((lit≤ tt, lit< tt), ((lit≤ tt, lit< tt), tt)) }

-- ---- bad lines of histories

some : (c : ℕ) (cs : List ℕ) → c ∷ cs ≢ []
some c cs e = cc

-- zeros in front, two blanks, numbers that aren't allowed, no line feed, an empty line, a blank at the end, a sign, and a carriage return
abbrev bad_histories : List (List ℕ)
bad_histories =
    codes "01 1\n" ∷ codes "1 00\n" ∷ codes "1  1\n" ∷ codes "0 1\n" ∷ codes "1 1025\n" ∷ codes "9223372036854775808 1\n"
    ∷ codes "1 1" ∷ codes "\n" ∷ codes "1 1 \n" ∷ codes "+1 1\n" ∷ codes "1 1\r\n" ∷ []

bad_entries : AllByRecursion (λ text. IsRefusedText entry_text IsAllowed text 1) bad_histories
unfolding digits
bad_entries = refused entry_text IsAllowed begins_entry no_entry bad_histories refl

second_line_without_line_feed : IsRefusedText entry_text IsAllowed (codes "1 1\n2 1") 2
unfolding digits entry
second_line_without_line_feed = second_bad (codes "1 1\n2 1") (codes "2 1") (entry 1 1) refl ((lit≤ tt, lit< tt), lit≤ tt) refl (some _ _) (lit≤ tt)

-- ---- bad lines of choices

-- process zero, steps behind the process, and no line feed
bad_choices : AllByRecursion (λ text. IsRefusedText choice_text IsProcess text 1) (codes "0\n" ∷ codes "1 1\n" ∷ codes "12" ∷ [])
unfolding digits
bad_choices = refused choice_text IsProcess begins_choice no_choice (codes "0\n" ∷ codes "1 1\n" ∷ codes "12" ∷ []) refl
