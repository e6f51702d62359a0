-- Why a source isn't run, in the program's form: docs/ARCHITECTURE.md, "Forms".
use Rattle.std.specs.Prelude.{ℕ, Bool, List, []}
use Rattle.std.specs.Option.{option_map_or}
use Rattle.hep_base.specs.declared.refusal.Refusal.{Refusal}
use Rattle.hep_base.specs.declared.refusal.Refusal.TheVariants.{NoMemory, Refused}
use Rattle.hep_conditions.specs.declared.violation.Violation.{Violation}
use Rattle.hep_machine.specs.Words.{spelling, Units}
use Rattle.hep_run.specs.declared.refusal.SourceFault.{SourceFault}
use Rattle.hep_run.specs.declared.refusal.SourceFault.TheVariants as source
use Rattle.hep_run.specs.Notes.{AreNotes}
use Rattle.hep_run.specs.Sources.{IsRefusedFor, IsRefusedProgram, IsViolatingProgram}

-- a violation as it is reported
abbrev pub refusal_of : Violation → Refusal
refusal_of v = Refused v.number v.line (option_map_or spelling v.name [])

-- a refusal with these notes
abbrev pub noted : (ℕ → ℕ → List ℕ → List ℕ) → Refusal → SourceFault
noted notes NoMemory = source.NoMemory
noted notes (Refused number line name) = source.Refused number line name (notes number line name)

-- why there is no program: a refusal with such a number, line, name and notes; a refusal of memory says nothing
abbrev pub Tells : (ℕ → ℕ → List ℕ → List ℕ → Type 0) → SourceFault → Type 0
Tells Is source.NoMemory = Unit {0}
Tells Is (source.Refused number line name notes) = Is number line name notes

-- why a source has no program that isn't refused so, with notes where they are asked for
abbrev pub IsRefusal : (Units → ℕ → ℕ → List ℕ → Type 0) → Bool → List ℕ → SourceFault → Type 0
IsRefusal Is long bytes fault =
    Tells (λ number line name notes. IsRefusedFor Is bytes number line name × AreNotes long bytes number line name notes) fault

-- why a source isn't accepted
abbrev pub IsCheckRefusal : Bool → List ℕ → SourceFault → Type 0
IsCheckRefusal long bytes fault = IsRefusal IsViolatingProgram long bytes fault

-- why a source isn't run
abbrev pub IsSourceRefusal : Bool → List ℕ → SourceFault → Type 0
IsSourceRefusal long bytes fault = IsRefusal IsRefusedProgram long bytes fault
