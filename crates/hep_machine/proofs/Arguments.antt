-- Functions of integers that are given another number of arguments than they take (X3.9-1978, 15.10).
use Rattle.std.proofs.Common.{◌≡◌, pos, List, [], ◌∷◌, length, Ok, refl}
use Rattle.hep_machine.specs.Words.{AbsoluteValue, Remainder, TransferOfSign, PositiveDifference, Value, function_result, integers_of}

pub other_than_one : (vs : List Value) → (length vs ≡ 1 → ⊥) → function_result AbsoluteValue (integers_of vs) ≡ Ok (pos 0)
other_than_one [] h = refl
other_than_one (v ∷ []) h = absurd (h refl)
other_than_one (v ∷ (w ∷ vs)) h = refl

pub other_remainder : (vs : List Value) → (length vs ≡ 2 → ⊥) → function_result Remainder (integers_of vs) ≡ Ok (pos 0)
other_remainder [] h = refl
other_remainder (v ∷ []) h = refl
other_remainder (v ∷ (w ∷ [])) h = absurd (h refl)
other_remainder (v ∷ (w ∷ (x ∷ vs))) h = refl

pub other_transfer : (vs : List Value) → (length vs ≡ 2 → ⊥) → function_result TransferOfSign (integers_of vs) ≡ Ok (pos 0)
other_transfer [] h = refl
other_transfer (v ∷ []) h = refl
other_transfer (v ∷ (w ∷ [])) h = absurd (h refl)
other_transfer (v ∷ (w ∷ (x ∷ vs))) h = refl

pub other_difference : (vs : List Value) → (length vs ≡ 2 → ⊥) → function_result PositiveDifference (integers_of vs) ≡ Ok (pos 0)
other_difference [] h = refl
other_difference (v ∷ []) h = refl
other_difference (v ∷ (w ∷ [])) h = absurd (h refl)
other_difference (v ∷ (w ∷ (x ∷ vs))) h = refl
