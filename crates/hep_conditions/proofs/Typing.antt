-- Types that a test finds the same.
use Rattle.std.proofs.Common.{◌≡◌, true, refl}
use Rattle.hep_machine.specs.Words.{ValueType}
use Rattle.hep_source.specs.declared.declaration.ValueType.TheVariants.{Integer, Logical}
use Rattle.hep_conditions.specs.Words.{same_type}

-- types that are the same are equal
pub equal_types : (t u : ValueType) → same_type t u ≡ true → t ≡ u
equal_types Integer Integer e = refl
equal_types Logical Logical e = refl
equal_types _ _ e = absurd cc
