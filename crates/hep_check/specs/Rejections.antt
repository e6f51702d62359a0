-- The reasons why a program isn't accepted: docs/LANGUAGE.md, 10.
use Rattle.std.specs.Prelude.{◌≡◌, [], map, Some}
use Rattle.std.specs.Option.{option_map_or}
use Rattle.hep_base.specs.declared.refusal.Refusal.{Refusal}
use Rattle.hep_base.specs.declared.refusal.Refusal.TheVariants.{NoMemory, Refused}
use Rattle.hep_conditions.specs.Words.{first_violation}
use Rattle.hep_conditions.specs.declared.violation.Violation.{Violation}
use Rattle.hep_check.specs.declared.checked.JudgeFault.{JudgeFault}
use Rattle.hep_check.specs.declared.checked.JudgeFault.TheVariants as unaccepted
use Rattle.hep_check.specs.declared.checked.Rejection.{Rejection}
use Rattle.hep_check.specs.declared.checked.Rejection.TheVariants as rejected
use Rattle.hep_check.specs.Culprits.{culprit_of}
use Rattle.hep_check.specs.Diagnostics.{as_told, further}
use Rattle.hep_machine.specs.Words.{spelling, Units}

-- The refusal reports the violation, unless memory was refused.
abbrev pub Reports : Violation → Refusal → Type 0
Reports v NoMemory = Unit {0}
Reports v (Refused number line name) = (number ≡ v.number) × (line ≡ v.line) × (name ≡ option_map_or spelling v.name [])

-- The refusal reports the first violation of a program, unless memory was refused.
abbrev pub Refuses : Units → Refusal → Type 0
Refuses program NoMemory = Unit {0}
Refuses program (Refused number line name) = (v : Violation) × (first_violation program ≡ Some v) × Reports v (Refused number line name)

-- The error has the first violation of a program, unless memory was refused.
abbrev pub IsViolatedBy : Units → JudgeFault → Type 0
IsViolatedBy program unaccepted.NoMemory = Unit {0}
IsViolatedBy program (unaccepted.Violated v) = first_violation program ≡ Some v

-- The error has the first violation of a program and those reported after it, unless memory was refused.
abbrev pub IsRejectedBy : Units → Rejection → Type 0
IsRejectedBy program rejected.NoMemory = Unit {0}
IsRejectedBy program (rejected.Violated first others) =
    (first_violation program ≡ Some first.violation) × (first.culprit ≡ culprit_of program first.violation)
    × (others.items ≡ map (as_told program) (further program first.violation))
