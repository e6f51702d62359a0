-- The greatest length of code, and the refusal of longer code.
use Rattle.std.specs.Prelude.{◌≡◌, ℕ, ◌<◌}
use Rattle.hep_code.specs.Words.{most_instructions}
use Rattle.hep_lower.specs.declared.fault.EmitFault.{EmitFault}
use Rattle.hep_lower.specs.declared.fault.EmitFault.TheVariants.{TooLong}

-- a refusal other than that of memory is made only for code of more instructions than a unit may have
abbrev pub IsOverLimit : ℕ → EmitFault → Type 0
IsOverLimit n fault = fault ≡ TooLong → most_instructions < n
