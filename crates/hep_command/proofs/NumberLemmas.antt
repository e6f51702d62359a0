-- The test `is_numeral` says what `IsNumeral` says, so that `number_within` is what a text parses to.
use Rattle.std.proofs.Common.{◌≡◌, ◌≤◌, ◌<◌, ◌^◌, ◌&&◌, ◌∷◌, [], ℕ}
use Rattle.std.proofs.Common.{Bool, List, Some, None, true, false, arith, refl, cond}
use Rattle.std.proofs.lemmas.Bool.{ltb-true, leb-true, lt-ltb, le-leb}
use Rattle.std.specs.Prelude.{nat_le, nat_lt}
use Rattle.std.specs.List.{list_all}
use Rattle.std.specs.Char.{digit_value}
use Rattle.std.specs.Str.Parse.{AllDigits, IsNumeral, digits_value, without_leading_plus}
use Rattle.clap.proofs.WalkLemmas.{both}
use Rattle.hep_command.specs.Numbers.{is_numeral, number_within}

digits_from : (digits : List ℕ) → list_all (λ digit. nat_lt (digit_value digit) 10) digits ≡ true → AllDigits 10 digits
digits_from [] e = tt
digits_from (digit ∷ digits) e =
    let parts = both _ _ e in
    (ltb-true _ _ parts.0, digits_from digits parts.1)

digits_back : (digits : List ℕ) → AllDigits 10 digits → list_all (λ digit. nat_lt (digit_value digit) 10) digits ≡ true
digits_back [] h = refl
digits_back (digit ∷ digits) h = rw (lt-ltb (digit_value digit) 10 h.0) (digits_back digits h.1)

numeral_from : (digits : List ℕ) → is_numeral digits ≡ true → IsNumeral 10 digits
numeral_from digits e =
    let parts = both _ _ e in
    (ltb-true _ _ parts.0, digits_from digits parts.1)

numeral_back : (digits : List ℕ) → IsNumeral 10 digits → is_numeral digits ≡ true
numeral_back digits h = rw (lt-ltb _ _ h.0) (digits_back digits h.1)

pub number_in_range : (least most : ℕ) (text : List ℕ) → IsNumeral 10 (without_leading_plus text)
    → least ≤ digits_value 10 (without_leading_plus text) → digits_value 10 (without_leading_plus text) ≤ most
    → number_within least most text ≡ Some (digits_value 10 (without_leading_plus text))
number_in_range least most text numeral low high =
    rw (numeral_back _ numeral, le-leb _ _ low, le-leb _ _ high) refl

pub no_number : (least most : ℕ) (text : List ℕ) → most < 2 ^ 64
    → ¬ (IsNumeral 10 (without_leading_plus text) × (digits_value 10 (without_leading_plus text) < 2 ^ 64))
    → number_within least most text ≡ None
no_number least most text fits none = go (is_numeral (without_leading_plus text)
    && (nat_le least (digits_value 10 (without_leading_plus text)) && nat_le (digits_value 10 (without_leading_plus text)) most)) refl
  where
    go : (b : Bool) → (is_numeral (without_leading_plus text)
        && (nat_le least (digits_value 10 (without_leading_plus text)) && nat_le (digits_value 10 (without_leading_plus text)) most)) ≡ b
        → cond b (Some (digits_value 10 (without_leading_plus text))) None ≡ None
    go false e = refl
    go true e =
        let parts = both _ _ e in
        let low_enough = leb-true (digits_value 10 (without_leading_plus text)) most (both _ _ parts.1).1 in
        absurd (none (numeral_from (without_leading_plus text) parts.0, omega (arith, low_enough, fits)))
