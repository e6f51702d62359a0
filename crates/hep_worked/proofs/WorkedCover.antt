-- Worked counts of sources.
use Rattle.std.specs.Prelude.{◌≡◌, ℕ, List, [], ◌∷◌, Result, Ok, Err, refl}
use Rattle.std.specs.Fmt.{digits}
use Prim.Native.String.{String}
use Rattle.hep_machine.specs.declared.event.Entry.{Entry}
use Rattle.hep_machine.specs.Words.{Units, opening, run, run_from, schedule_of, state_after, step_result_of}
use Rattle.hep_parse.specs.ReadingProgram.{Refusal}
use Rattle.hep_worked.proofs.Sources.{text_of, units_of}
use Rattle.hep_cover.specs.Coverage.{seen_along}
use Rattle.hep_cover.specs.Lines.{cover_text}
use Rattle.hep_worked.proofs.SerialRuns.{steps}

-- ---- from the lines of a source to the same lines with counts

cover_of : List ℕ → Result Units Refusal → List (List Entry) → List ℕ
unfolding seen_along opening run run_from schedule_of state_after step_result_of
cover_of source (Err e) histories = []
cover_of source (Ok program) histories = cover_text program source histories

unfoldable covered : List String → List (List Entry) → List ℕ
unfolding units_of cover_of digits
covered lines histories = cover_of (text_of lines) (units_of lines) histories

-- a DO of two iterations over one statement, a logical IF, and what is never reached
loop : List String
loop =
    "      DO 10 I = 1,2"
    ∷ "   10 J = J*I+1"
    ∷ "C"
    ∷ "      IF (I.EQ.0) K = 1"
    ∷ "      IF (I.GT.2) THEN"
    ∷ "      GO TO 20"
    ∷ "      ELSE"
    ∷ "      K = 2"
    ∷ "      END IF"
    ∷ "   20 END"
    ∷ []

-- J has no value: the run ends where it is read
faulted : covered loop ((steps 1 2 ∷ []) ∷ [])
    ≡ text_of (
    "        1:    1:      DO 10 I = 1,2"
    ∷ "        1:    2:   10 J = J*I+1"
    ∷ "        -:    3:C"
    ∷ "    #####:    4:      IF (I.EQ.0) K = 1"
    ∷ "    #####:    5:      IF (I.GT.2) THEN"
    ∷ "    #####:    6:      GO TO 20"
    ∷ "        -:    7:      ELSE"
    ∷ "    #####:    8:      K = 2"
    ∷ "    #####:    9:      END IF"
    ∷ "    #####:   10:   20 END"
    ∷ "LINES 8 BEGAN 2 NEVER 6"
    ∷ [])
unfolding covered loop
faulted = refl

-- two processes; who waits begins nothing, and a statement that goes on begins once
pair : List String
pair =
    "      INTEGER $A"
    ∷ "      CREATE S($A)"
    ∷ "      I = $A"
    ∷ "     1    +$A"
    ∷ "      END"
    ∷ "      SUBROUTINE S($X)"
    ∷ "      INTEGER $X"
    ∷ "      DO 10 K = 1,2"
    ∷ "   10 $X = K"
    ∷ "      END"
    ∷ []

begun_once : covered pair ((steps 1 1 ∷ steps 1 0 ∷ steps 2 3 ∷ steps 1 1 ∷ steps 1 0 ∷ []) ∷ [])
    ≡ text_of (
    "        -:    1:      INTEGER $A"
    ∷ "        1:    2:      CREATE S($A)"
    ∷ "        1:    3:      I = $A"
    ∷ "        -:    4:     1    +$A"
    ∷ "    #####:    5:      END"
    ∷ "        -:    6:      SUBROUTINE S($X)"
    ∷ "        -:    7:      INTEGER $X"
    ∷ "        1:    8:      DO 10 K = 1,2"
    ∷ "        1:    9:   10 $X = K"
    ∷ "    #####:   10:      END"
    ∷ "LINES 6 BEGAN 4 NEVER 2"
    ∷ [])
unfolding covered pair
begun_once = refl

-- two histories together
in_two : covered pair ((steps 1 1 ∷ []) ∷ (steps 1 1 ∷ steps 2 3 ∷ []) ∷ [])
    ≡ text_of (
    "        -:    1:      INTEGER $A"
    ∷ "        2:    2:      CREATE S($A)"
    ∷ "    #####:    3:      I = $A"
    ∷ "        -:    4:     1    +$A"
    ∷ "    #####:    5:      END"
    ∷ "        -:    6:      SUBROUTINE S($X)"
    ∷ "        -:    7:      INTEGER $X"
    ∷ "        1:    8:      DO 10 K = 1,2"
    ∷ "        1:    9:   10 $X = K"
    ∷ "    #####:   10:      END"
    ∷ "LINES 6 BEGAN 3 NEVER 3"
    ∷ [])
unfolding covered pair
in_two = refl
