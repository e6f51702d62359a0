-- Worked differences of runs of sources.
use Rattle.std.specs.Prelude.{◌≡◌, ℕ, List, [], ◌∷◌, Result, Ok, Err, refl}
use Rattle.std.specs.Fmt.{digits}
use Prim.Native.String.{String}
use Rattle.hep_machine.specs.declared.event.Entry.{Entry}
use Rattle.hep_machine.specs.Words.{Units, opening, progress_from, run, run_from, schedule_of, state_after, step_result_of}
use Rattle.hep_parse.specs.ReadingProgram.{Refusal}
use Rattle.hep_worked.proofs.Sources.{text_of, units_of}
use Rattle.hep_diff.specs.ProcessSteps.{seen_along}
use Rattle.hep_diff.specs.Differences.{diff_text}
use Rattle.hep_worked.proofs.SerialRuns.{steps}

-- ---- from the lines of a source to what differs

diff_of : Result Units Refusal → List Entry → List Entry → List ℕ
unfolding seen_along opening progress_from run run_from schedule_of state_after step_result_of
diff_of (Err e) first second = []
diff_of (Ok program) first second = diff_text program first second 1000

unfoldable diff : List String → List Entry → List Entry → List ℕ
unfolding units_of diff_of digits
diff lines first second = diff_of (units_of lines) first second

-- two processes that add to a variable in COMMON
race : List String
race =
    "      COMMON N"
    ∷ "      N = 0"
    ∷ "      CREATE ADD"
    ∷ "      CREATE ADD"
    ∷ "      END"
    ∷ "      SUBROUTINE ADD"
    ∷ "      COMMON M"
    ∷ "      M = M+1"
    ∷ "      END"
    ∷ []

one_addition_lost : diff race (steps 1 4 ∷ steps 2 4 ∷ steps 3 4 ∷ []) (steps 1 4 ∷ steps 2 1 ∷ steps 3 4 ∷ steps 2 3 ∷ [])
    ≡ text_of (
    "THE FIRST 1 ENTRIES ARE THE SAME, OF 3 AND 4"
    ∷ "PROCESS 3 DIFFERS IN STEP 1 BEHIND THEM"
    ∷ "< ENTRY 3 ADD LINE 8 READS M = 1"
    ∷ "> ENTRY 3 ADD LINE 8 READS M = 0"
    ∷ [])
unfolding diff race
one_addition_lost = refl

-- who goes first doesn't matter where nothing comes of it
nothing_differs : diff race (steps 1 4 ∷ steps 2 3 ∷ steps 2 1 ∷ steps 3 4 ∷ []) (steps 1 4 ∷ steps 2 3 ∷ steps 3 4 ∷ steps 2 1 ∷ [])
    ≡ text_of ("THE FIRST 2 ENTRIES ARE THE SAME, OF 4 AND 4" ∷ "NOTHING DIFFERS" ∷ [])
unfolding diff race
nothing_differs = refl

-- a process that isn't made, and one that ends
front : diff race (steps 1 2 ∷ []) (steps 1 4 ∷ steps 3 4 ∷ [])
    ≡ text_of (
    "THE FIRST 0 ENTRIES ARE THE SAME, OF 1 AND 2"
    ∷ "PROCESS 1 DIFFERS IN STEP 3 BEHIND THEM"
    ∷ "< AT MAIN LINE 4"
    ∷ "> ENTRY 1 MAIN LINE 4"
    ∷ "PROCESS 3 DIFFERS IN STEP 1 BEHIND THEM"
    ∷ "< WAS NOT MADE"
    ∷ "> ENTRY 2 ADD LINE 8 READS M = 0"
    ∷ [])
unfolding diff race
front = refl

-- a producer and its consumer, which prints what it took
pair : List String
pair =
    "      INTEGER $A"
    ∷ "      CREATE S($A)"
    ∷ "      I = $A"
    ∷ "      PRINT *, I"
    ∷ "      END"
    ∷ "      SUBROUTINE S($X)"
    ∷ "      INTEGER $X"
    ∷ "      $X = 1"
    ∷ "      END"
    ∷ []

one_waits : diff pair (steps 1 1 ∷ steps 2 2 ∷ steps 1 5 ∷ []) (steps 1 1 ∷ steps 1 0 ∷ [])
    ≡ text_of (
    "THE FIRST 1 ENTRIES ARE THE SAME, OF 3 AND 2"
    ∷ "PROCESS 1 DIFFERS IN STEP 1 BEHIND THEM"
    ∷ "< ENTRY 3 MAIN LINE 3 READS $A OF 1 = 1"
    ∷ "> WAITING 1 MAIN LINE 3 FOR FULL $A OF 1"
    ∷ "PROCESS 2 DIFFERS IN STEP 1 BEHIND THEM"
    ∷ "< ENTRY 2 S LINE 8"
    ∷ "> AT S LINE 8"
    ∷ "RECORD 1 DIFFERS"
    ∷ "<  1"
    ∷ "ENDS DIFFER"
    ∷ "> STILL RUNNING"
    ∷ [])
unfolding diff pair
one_waits = refl
