-- Digits and the numbers that they write, each with one spelling.
use Rattle.std.proofs.Common.{◌≡◌, ℕ, zero, suc, ◌+◌, ◌-◌, ◌*◌, ◌^◌, ◌<◌, ◌≤◌, true, false, cond, List, [], ◌∷◌, ◌++◌, Option, Some, None, IfSome, IfNone, length, take, drop, get_or, refl, sym, ap, ◌∙◌, arith}
use Rattle.std.specs.Char.{is_ascii_digit}
use Rattle.std.specs.Fmt.{decimal, digits}
use Rattle.std.specs.Int.{IsInRange}
use Rattle.std.specs.List.{AllByRecursion, prefix_len}
use Rattle.std.specs.Str.Parse.{digits_value}
use Rattle.std.proofs.lemmas.Bool.Decides.{nat_tests}
use Rattle.std.proofs.lemmas.Fmt.{digits_decimal, decimal_is_IsNumeral, decimal-digits_value, first_decimal, decimal_injective}
use Rattle.std.proofs.lemmas.Int.Digits.{digits_value_more}
use Rattle.std.proofs.lemmas.List.Sums.{prefix_len_passes}
use Rattle.std.proofs.lemmas.Str.{digit_value_digit}
use Rattle.std.proofs.lemmas.Str.Parse.{IsDigitsTest, numerals_by_value, tells_by_index, digits_value-take-le}
use Rattle.std.proofs.Math.Seq.{take-append_seam, drop-append_seam}

-- ---- the number of some digits, from the left

pub value_more : (ds : List ℕ) (i : ℕ) → i < length ds → IsInRange 48 57 (get_or ds i 0) → digits_value 10 (take (i + 1) ds) ≡ 10 * digits_value 10 (take i ds) + (get_or ds i 0 - 48)
value_more ds i h digit = omega (arith, digits_value_more 10 ds i h, digit_value_digit (get_or ds i 0) digit)

-- no front of the digits writes more than all of them
pub value_past : (ds : List ℕ) (i most : ℕ) → i < length ds → IsInRange 48 57 (get_or ds i 0) → most < 10 * digits_value 10 (take i ds) + (get_or ds i 0 - 48) → most < digits_value 10 ds
value_past ds i most h digit past = omega (arith, value_more ds i h digit, digits_value-take-le 10 ds (i + 1) (omega arith))

-- ---- shortest decimals

pub decimal_value : (n : ℕ) → n < 2 ^ 64 → digits_value 10 (decimal n) ≡ n
decimal_value n h = (decimal_is_IsNumeral n h).1

-- digits without a zero in front are the decimal of their number
pub decimal_is : (ds : List ℕ) → ((i : ℕ) → i < length ds → IsInRange 48 57 (get_or ds i 0)) → 0 < length ds → (get_or ds 0 0 ≡ 48 → length ds ≡ 1) → digits_value 10 ds < 2 ^ 64 → ds ≡ decimal (digits_value 10 ds)
decimal_is ds digits some first small = sym (decimal-digits_value (numerals_by_value _ tells_by_index) ds digits some first small)

-- a decimal that begins with a zero is that of zero
pub zero_alone : (n : ℕ) → n < 2 ^ 64 → get_or (decimal n) 0 0 ≡ 48 → length (decimal n) ≡ 1
unfolding digits
zero_alone zero h first = refl
zero_alone (suc n) h first = absurd (omega (arith, first_decimal (suc n) (omega arith) h))

-- ---- digits in front of another byte

abbrev pub AreDigits : List ℕ → Type 0
AreDigits ds = AllByRecursion (IsInRange 48 57) ds

digits_test : IsDigitsTest AreDigits
digits_test = record { empty = tt; parts = λ c cs h. h; more = λ c cs h t. (h, t) }

pub decimal_digits : (n : ℕ) → n < 2 ^ 64 → AreDigits (decimal n)
decimal_digits n h = digits_decimal (numerals_by_value AreDigits digits_test) n h

digit_passes : (c : ℕ) → IsInRange 48 57 c → is_ascii_digit c ≡ true
digit_passes c h = grind (arith, nat_tests)

other_fails : (c : ℕ) → c < 48 → is_ascii_digit c ≡ false
other_fails c h = grind (arith, nat_tests)

pub digits_end : (ds : List ℕ) (c : ℕ) (more : List ℕ) → AreDigits ds → c < 48 → prefix_len is_ascii_digit (ds ++ c ∷ more) ≡ length ds
digits_end [] c more h lt = ap (λ b. cond b (1 + prefix_len is_ascii_digit more) 0) (other_fails c lt)
digits_end (d ∷ ds) c more h lt =
    ap (λ b. cond b (1 + prefix_len is_ascii_digit (ds ++ c ∷ more)) 0) (digit_passes d h.0) ∙ omega (arith, digits_end ds c more h.1 lt)

-- a number with a mark after it, cut after its digits
pub cut : (text : List ℕ) (n c count : ℕ) (more : List ℕ) → n < 2 ^ 64 → c < 48 → count ≡ prefix_len is_ascii_digit text → text ≡ decimal n ++ c ∷ more
    → (take count text ≡ decimal n) × (drop count text ≡ c ∷ more)
cut text n c count more h lt e is =
    let here : count ≡ length (decimal n) = e ∙ ap (prefix_len is_ascii_digit) is ∙ digits_end (decimal n) c more (decimal_digits n h) lt in (
      ap (λ (i : ℕ). take i text) here ∙ ap (take (length (decimal n))) is ∙ take-append_seam (decimal n) (c ∷ more),
      ap (λ (i : ℕ). drop i text) here ∙ ap (drop (length (decimal n))) is ∙ drop-append_seam (decimal n) (c ∷ more),
    )

-- the digits in front are digits
pub front_digits : (text : List ℕ) (count k : ℕ) → count ≡ prefix_len is_ascii_digit text → k < count → IsInRange 48 57 (get_or text k 0)
front_digits text count k e h =
    let below : k < prefix_len is_ascii_digit text = omega arith in
    let passes = prefix_len_passes is_ascii_digit text k 0 below in
    grind (arith, nat_tests, passes)

-- ---- what a number that was looked for comes to

pub found_is : (r : Option ℕ) (ds : List ℕ) (most : ℕ) → ((i : ℕ) → i < length ds → IsInRange 48 57 (get_or ds i 0)) → 0 < length ds → (get_or ds 0 0 ≡ 48 → length ds ≡ 1) → most < 2 ^ 63
    → IfSome r (λ n. n ≤ most) → IfSome r (λ n. n ≡ digits_value 10 ds) → IfSome r (λ n. ds ≡ decimal n)
found_is None ds most digits some first small h e = tt
found_is (Some n) ds most digits some first small h e = decimal_is ds digits some first (omega arith) ∙ ap decimal (sym e)

pub none_is : (r : Option ℕ) (ds : List ℕ) (most : ℕ) → most < 2 ^ 63 → IfNone r (most < digits_value 10 ds) → IfNone r ((n : ℕ) → n ≤ most → ds ≡ decimal n → ⊥)
none_is None ds most small h = λ n le e.
    let value : digits_value 10 (decimal n) ≡ n = decimal_value n (omega arith) in
    let same : digits_value 10 ds ≡ digits_value 10 (decimal n) = ap (digits_value 10) e in
    omega arith
none_is (Some n) ds most small h = tt

pub if_none : {A : Type 0} (r : Option A) (P : Type 0) → P → IfNone r P
if_none None P p = p
if_none (Some x) P p = tt

-- a number with a mark after it
abbrev pub marked : ℕ → ℕ → List ℕ → List ℕ
marked n c more = decimal n ++ c ∷ more

pub same_numbers : (m n c : ℕ) (a b : List ℕ) → m < 2 ^ 64 → n < 2 ^ 64 → c < 48 → marked m c a ≡ marked n c b → (m ≡ n) × (a ≡ b)
same_numbers m n c a b h k lt e =
    let count : length (decimal m) ≡ length (decimal n) =
    sym (digits_end (decimal m) c a (decimal_digits m h) lt) ∙ ap (prefix_len is_ascii_digit) e ∙ digits_end (decimal n) c b (decimal_digits n k) lt in
    let front : decimal m ≡ decimal n =
    sym (take-append_seam (decimal m) (c ∷ a)) ∙ ap (take (length (decimal m))) e ∙ ap (λ (i : ℕ). take i (marked n c b)) count ∙ take-append_seam (decimal n) (c ∷ b) in
    let rest_after : c ∷ a ≡ c ∷ b =
    sym (drop-append_seam (decimal m) (c ∷ a)) ∙ ap (drop (length (decimal m))) e ∙ ap (λ (i : ℕ). drop i (marked n c b)) count ∙ drop-append_seam (decimal n) (c ∷ b) in
    (decimal_injective m n h k front, cc (rest_after))
