-- Worked lines of faults and of processes that wait.
use Rattle.std.proofs.Common.{◌≡◌, ℕ, Bool, true, false, List, [], ◌∷◌, refl, codes}
use Rattle.std.specs.Fmt.{digits}
use Rattle.hep_machine.specs.declared.event.Kind.TheVariants.{Undefined, Divide}
use Rattle.hep_core.specs.Listed.{Listed}
use Rattle.hep_dump.specs.Faults.{faults_text}
use Rattle.hep_dump.specs.Waiting.{listed_text}

-- of a main program and a subroutine, of a variable, and of a block and blank COMMON
names : List (List ℕ)
names = codes "QUOT" ∷ codes "SUB" ∷ codes "$I" ∷ codes "BLOCK" ∷ [] ∷ []

-- ---- faults

no_faults : faults_text names [] ≡ []
no_faults = refl

two_faults : faults_text names (record { process = 1; unit = 0; line = 9; kind = Undefined } ∷ record { process = 12; unit = 1; line = 10; kind = Divide } ∷ []) ≡ codes "FAULT 1 QUOT LINE 9 UNDEFINED\nFAULT 12 SUB LINE 10 DIVIDE\n"
unfolding digits names
two_faults = refl

unnamed_unit : faults_text [] (record { process = 1; unit = 0; line = 2; kind = Divide } ∷ []) ≡ codes "FAULT 1 MAIN LINE 2 DIVIDE\n"
unfolding digits
unnamed_unit = refl

-- ---- processes that wait

-- process 3 waits in the subroutine for a place
waits : Bool → ℕ → ℕ → ℕ → Listed
waits full name element owner = record { process = 3; unit = 1; line = 7; full = full; owner = owner; name = name; element = element }

scalar : listed_text names (waits true 2 0 2) ≡ codes "WAITING 3 SUB LINE 7 FOR FULL $I OF 2\n"
unfolding digits names waits
scalar = refl

element_of_an_array : listed_text names (waits false 2 4 10) ≡ codes "WAITING 3 SUB LINE 7 FOR EMPTY $I#4 OF 10\n"
unfolding digits names waits
element_of_an_array = refl

position_in_a_block : listed_text names (waits false 3 1 0) ≡ codes "WAITING 3 SUB LINE 7 FOR EMPTY /BLOCK/#1\n"
unfolding digits names waits
position_in_a_block = refl

position_in_blank_common : listed_text names (waits true 4 12 0) ≡ codes "WAITING 3 SUB LINE 7 FOR FULL //#12\n"
unfolding digits names waits
position_in_blank_common = refl
