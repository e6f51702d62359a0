-- The refusal of code, and the number of subscripts of arguments.
use Rattle.std.specs.Prelude.{◌≡◌, ℕ, ◌+◌, ◌<◌, List, [], ◌∷◌}
use Rattle.hep_code.specs.declared.instruction.Argument.{Argument}
use Rattle.hep_code.specs.declared.instruction.Argument.TheVariants.{Evaluated, Referred}
use Rattle.hep_lower.specs.declared.fault.EmitFault.{EmitFault}
use Rattle.hep_lower.specs.declared.fault.EmitFault.TheVariants.{TooLong}
use Rattle.hep_lower.specs.Names.{greatest}

-- a refusal other than that of memory is made only for code of more instructions than 32 bits can count
abbrev pub IsTooLong : ℕ → EmitFault → Type 0
IsTooLong n fault = fault ≡ TooLong → greatest < n

-- ---- subscripts of actual arguments and of targets of PURGE

abbrev pub subscripts_of : Argument → ℕ
subscripts_of Evaluated = 0
subscripts_of (Referred x n) = n

abbrev pub subscripts_of_all : {A : Type 0} → (A → Argument) → List A → ℕ
subscripts_of_all f [] = 0
subscripts_of_all f (x ∷ xs) = subscripts_of (f x) + subscripts_of_all f xs
