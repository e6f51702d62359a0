-- The readers of statement labels, as functions on lists (docs/ARCHITECTURE.md, "Forms").
use Rattle.std.specs.Prelude.{ℕ, nat_eq, nat_le, ◌&&◌, if◌then◌else◌, List, length, Option, Some, None}
use Rattle.hep_expression.specs.declared.characters.Context.{Context}
use Rattle.hep_expression.specs.Characters.{is_digit, number_of_digits}
use Rattle.hep_expression.specs.Reading.{Reader, ◌>>=◌, begins, front, rest_after}
use Rattle.hep_expression.specs.Label.{most_digits}

-- the number that one to five digits at the front form, and what follows them; none for a longer run of digits
abbrev pub few_digits_at : Reader ℕ
few_digits_at s =
    if begins is_digit s && nat_le (length (front is_digit s)) most_digits
    then Some (number_of_digits (front is_digit s), rest_after is_digit s)
    else None

abbrev pub not_zero : ℕ × List ℕ → Option (ℕ × List ℕ)
not_zero x = if nat_eq x.0 0 then None else Some x

abbrev pub label_at : Reader ℕ
label_at s = few_digits_at s >>= not_zero

-- a label in a list of labels
abbrev pub label_part : Context → Reader ℕ
label_part k s = label_at s
