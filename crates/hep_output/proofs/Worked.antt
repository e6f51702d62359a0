-- Worked records: the line that each list of items gives, byte for byte.
use Rattle.std.specs.Prelude.{◌≡◌, pos, negsuc, true, false, [], ◌∷◌, codes, refl}
use Rattle.std.specs.Fmt.{digits}
use Rattle.hep_machine.specs.declared.record.Item.TheVariants.{Int, Truth, Text}
use Rattle.hep_output.specs.Records.{record_text, records_text}

-- PRINT * alone
blank_alone : record_text [] ≡ 32 ∷ 10 ∷ []
blank_alone = refl

-- PRINT *,'A=',1+2*3,.TRUE.
constant_integer_logical : record_text (Text (codes "A=") ∷ Int (pos 7) ∷ Truth true ∷ []) ≡ codes " A=7 T\n"
unfolding digits
constant_integer_logical = refl

numbers_apart : record_text (Int (pos 0) ∷ Int (negsuc 0) ∷ Int (pos 120) ∷ []) ≡ codes " 0 -1 120\n"
unfolding digits
numbers_apart = refl

constants_together : record_text (Text (codes "A") ∷ Text (codes "B ") ∷ Int (pos 3) ∷ Text (codes "C") ∷ Truth false ∷ []) ≡ codes " AB 3CF\n"
unfolding digits
constants_together = refl

smallest_integer : record_text (Int (negsuc 9223372036854775807) ∷ []) ≡ codes " -9223372036854775808\n"
unfolding digits
smallest_integer = refl

-- a constant stands as it is, with any bytes
any_bytes : record_text (Text (10 ∷ 200 ∷ []) ∷ []) ≡ 32 ∷ 10 ∷ 200 ∷ 10 ∷ []
any_bytes = refl

no_records : records_text [] ≡ []
no_records = refl

two_records : records_text ((Int (pos 1) ∷ []) ∷ [] ∷ []) ≡ codes " 1\n \n"
unfolding digits
two_records = refl
