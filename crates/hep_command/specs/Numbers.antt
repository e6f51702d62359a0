-- The number in a word: docs/MACHINE.md, "The program".
use Rattle.std.specs.Prelude.{◌&&◌, ℕ, Bool, List, Option, Some, None, if◌then◌else◌, length, nat_le, nat_lt}
use Rattle.std.specs.Char.{digit_value}
use Rattle.std.specs.List.{list_all}
use Rattle.std.specs.Str.Parse.{digits_value, without_leading_plus}

-- decimal digits, one at least, and nothing else
abbrev pub is_numeral : List ℕ → Bool
is_numeral digits = nat_lt 0 (length digits) && list_all (λ digit. nat_lt (digit_value digit) 10) digits

-- the number of the text, if it lies in the range: a plus may come first, and leading zeros are allowed; any other
-- text has none
abbrev pub number_within : ℕ → ℕ → List ℕ → Option ℕ
number_within least most text =
    let digits = without_leading_plus text in
    let number = digits_value 10 digits in
    if is_numeral digits && (nat_le least number && nat_le number most) then Some number else None

-- the number of an option: that of its word, or `other` where it isn't given
abbrev pub option_number : ℕ → ℕ → Option (List ℕ) → Option ℕ
option_number most other None = Some other
option_number most other (Some text) = number_within 1 most text
