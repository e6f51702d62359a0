-- Strings of JSON: what is in them, and where a reader finds their ends.
use Rattle.std.proofs.Common.{◌≡◌, ◌<◌, ◌≤◌, ◌/◌, ◌%◌, ◌∙◌, ◌∷◌, ◌++◌, ◌||◌, ◌&&◌}
use Rattle.std.proofs.Common.{ℕ, Bool, true, false, nat_eq, nat_le, List, [], Some, ap, append_assoc, arith, refl}
use Rattle.std.specs.List.{All, flat_map}
use Rattle.std.proofs.lemmas.Bool.{and_parts, leb-true, or_parts}
use Rattle.std.proofs.lemmas.Bool.Decides.{nat_tests}
use Rattle.std.proofs.lemmas.List.Elements.{All-append, All-cons, All-nil}
use Rattle.hep_formats.specs.Strings.{IsPrintable, after_quote, backslash, escape, hex_digit, json_character, quote}

-- ---- what is in a string

-- a digit of base 16 is printable
digit_printable : (d : ℕ) → d < 16 → IsPrintable (hex_digit d)
digit_printable d few = (grind (arith, nat_tests), grind (arith, nat_tests))

-- and so is a row of one printable byte and others
one_more : (c : ℕ) (s : List ℕ) → 32 ≤ c → c ≤ 126 → All IsPrintable s → All IsPrintable (c ∷ s)
one_more c s least most more = All-cons IsPrintable c s (least, most) more

-- an escape is printable
escape_printable : (c : ℕ) → All IsPrintable (escape c)
escape_printable c =
    let h = hex_digit (c / 16 % 16) in
    let l = hex_digit (c % 16) in
    let high = digit_printable (c / 16 % 16) (omega arith) in
    let low = digit_printable (c % 16) (omega arith) in
    let digits = one_more h (l ∷ []) high.0 high.1 (one_more l [] low.0 low.1 (All-nil IsPrintable)) in
    let zeros = one_more 48 (48 ∷ h ∷ l ∷ []) (omega arith) (omega arith) (one_more 48 (h ∷ l ∷ []) (omega arith) (omega arith) digits) in
    one_more 92 (117 ∷ 48 ∷ 48 ∷ h ∷ l ∷ []) (omega arith) (omega arith) (
    one_more 117 (48 ∷ 48 ∷ h ∷ l ∷ []) (omega arith) (omega arith) zeros)

-- what is written for a byte is printable, by whether it needs a backslash, and whether it is printable itself
printable_by : (c : ℕ) (special plain : Bool) → (nat_eq c quote || nat_eq c backslash) ≡ special → (nat_le 32 c && nat_le c 126) ≡ plain
    → All IsPrintable (json_character c)
printable_by c true plain e f =
    rw e (
    one_more backslash (c ∷ []) (omega arith) (omega arith) (one_more c [] (grind (arith, nat_tests)) (grind (arith, nat_tests)) (All-nil IsPrintable)))
printable_by c false true e f =
    let both = and_parts (nat_le 32 c) (nat_le c 126) f in
    rw (e, f) (one_more c [] (leb-true 32 c both.0) (leb-true c 126 both.1) (All-nil IsPrintable))
printable_by c false false e f = rw (e, f) (escape_printable c)

-- what is between the quotes of a string is printable
pub characters_printable : (text : List ℕ) → All IsPrintable (flat_map json_character text)
characters_printable [] = All-nil IsPrintable
characters_printable (c ∷ text) =
    All-append IsPrintable (json_character c) (flat_map json_character text) (printable_by c _ _ refl refl) (characters_printable text)

-- ---- where it ends

-- a reader passes a byte that is neither a quote nor a backslash
passed : (c : ℕ) (s : List ℕ) → nat_eq c quote ≡ false → nat_eq c backslash ≡ false → after_quote false (c ∷ s) ≡ after_quote false s
unfolding after_quote
passed c s e f = rw (e, f) refl

-- a digit is no quote
digit_no_quote : (d : ℕ) → d < 16 → nat_eq (hex_digit d) quote ≡ false
digit_no_quote d few = grind (arith, nat_tests)

-- and no backslash
digit_no_backslash : (d : ℕ) → d < 16 → nat_eq (hex_digit d) backslash ≡ false
digit_no_backslash d few = grind (arith, nat_tests)

-- a reader passes an escape
escape_passed : (c : ℕ) (s : List ℕ) → after_quote false (escape c ++ s) ≡ after_quote false s
unfolding after_quote
escape_passed c s =
    let high =
    passed (hex_digit (c / 16 % 16)) (hex_digit (c % 16) ∷ s) (digit_no_quote (c / 16 % 16) (omega arith)) (digit_no_backslash (c / 16 % 16) (omega arith)) in
    high ∙ passed (hex_digit (c % 16)) s (digit_no_quote (c % 16) (omega arith)) (digit_no_backslash (c % 16) (omega arith))

-- and what is written for a byte, by whether it needs a backslash, and whether it is printable
passed_by : (c : ℕ) (special plain : Bool) (s : List ℕ) → (nat_eq c quote || nat_eq c backslash) ≡ special
    → (nat_le 32 c && nat_le c 126) ≡ plain
    → after_quote false (json_character c ++ s) ≡ after_quote false s
unfolding after_quote
passed_by c true plain s e f = rw e refl
passed_by c false true s e f =
    let neither = or_parts (nat_eq c quote) (nat_eq c backslash) e in
    rw (e, f) (passed c s neither.0 neither.1)
passed_by c false false s e f = rw (e, f) (escape_passed c s)

-- and what is between the quotes, up to the quote that ends the string
pub characters_passed : (text rest : List ℕ) → after_quote false (flat_map json_character text ++ quote ∷ rest) ≡ Some rest
unfolding after_quote
characters_passed [] rest = refl
characters_passed (c ∷ text) rest =
    ap (after_quote false) (append_assoc (json_character c) (flat_map json_character text) (quote ∷ rest))
    ∙ passed_by c _ _ (flat_map json_character text ++ quote ∷ rest) refl refl
    ∙ characters_passed text rest
