-- The lines of faults: docs/MACHINE.md, "The program".
use Rattle.std.specs.Prelude.{ℕ, List, [], ◌∷◌, ◌++◌, codes, slice_get}
use Rattle.std.specs.Fmt.{decimal}
use Rattle.hep_machine.specs.declared.event.Fault.{Fault}
use Rattle.hep_machine.specs.declared.event.Kind.{Kind}
use Rattle.hep_machine.specs.declared.event.Kind.TheVariants.{Overflow, Divide, Range, Undefined, Shape, Step}
use Rattle.hep_dump.specs.Names.{name_found}

abbrev pub kind_text : Kind → List ℕ
kind_text Overflow = codes "OVERFLOW"
kind_text Divide = codes "DIVIDE"
kind_text Range = codes "RANGE"
kind_text Undefined = codes "UNDEFINED"
kind_text Shape = codes "SHAPE"
kind_text Step = codes "STEP"

-- the place and the reason
abbrev pub cause_text : Fault → List ℕ
cause_text f = codes " LINE " ++ decimal f.line ++ codes " " ++ kind_text f.kind ++ codes "\n"

-- the line of a fault in a unit of this name
abbrev pub fault_text : List ℕ → Fault → List ℕ
fault_text unit f = codes "FAULT " ++ decimal f.process ++ codes " " ++ unit ++ cause_text f

-- the lines of faults, whose units have these names by number
abbrev pub faults_text : List (List ℕ) → List Fault → List ℕ
faults_text names [] = []
faults_text names (f ∷ fs) = fault_text (name_found (slice_get names f.unit)) f ++ faults_text names fs
