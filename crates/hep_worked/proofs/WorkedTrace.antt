-- Worked traces of sources.
use Rattle.std.specs.Prelude.{◌≡◌, ℕ, List, [], ◌∷◌, codes, None, Some, Result, Ok, Err, refl}
use Rattle.std.specs.Fmt.{digits}
use Prim.Native.String.{String}
use Rattle.hep_machine.specs.declared.event.Entry.{Entry}
use Rattle.hep_machine.specs.Words.{Units, opening, step_result_of}
use Rattle.hep_parse.specs.ReadingProgram.{Refusal}
use Rattle.hep_why.specs.EventTraces.{LineSelection, trace_from, trace_text}
use Rattle.hep_worked.proofs.Sources.{text_of, units_of}
use Rattle.hep_worked.proofs.SerialRuns.{steps}

-- ---- from the lines of a source to the lines of its steps

all : LineSelection
all = record { first = 1; last = 1000; process = None; cell = None }

trace_of : LineSelection → Result Units Refusal → List Entry → List ℕ
unfolding trace_from opening step_result_of
trace_of shown (Err e) history = []
trace_of shown (Ok program) history = trace_text program shown history

unfoldable trace : LineSelection → List String → List Entry → List ℕ
unfolding units_of trace_of digits
trace shown lines history = trace_of shown (units_of lines) history

-- ---- a process that waits, and one that wakes it

waits : List String
waits =
    "      INTEGER $A"
    ∷ "      CREATE S($A)"
    ∷ "      I = $A+2"
    ∷ "      END"
    ∷ "      SUBROUTINE S($X)"
    ∷ "      INTEGER $X"
    ∷ "      $X = 3"
    ∷ "      END"
    ∷ []

waits_history : List Entry
waits_history = steps 1 1 ∷ steps 1 0 ∷ steps 2 2 ∷ steps 1 4 ∷ []

whole : trace all waits waits_history
    ≡ text_of (
    "1 PROCESS 1 MAIN LINE 2 creates 2 S as 2"
    ∷ "2 PROCESS 1 MAIN LINE 3 waits FOR FULL $A OF 1"
    ∷ "3 PROCESS 2 S LINE 7 fill $X = 3 [$A OF 1], wakes 1"
    ∷ "3 PROCESS 2 S LINE 8 ends, frame of 2 given back"
    ∷ "4 PROCESS 1 MAIN LINE 3 take $A = 3"
    ∷ "4 PROCESS 1 MAIN LINE 3 add 3 + 2 = 5"
    ∷ "4 PROCESS 1 MAIN LINE 3 store I = 5"
    ∷ "4 PROCESS 1 MAIN LINE 4 ends, frame of 1 given back"
    ∷ [])
unfolding trace all waits waits_history
whole = refl

-- those of process 2, and entry 2 alone
of_one : trace (record { first = 1; last = 1000; process = Some 2; cell = None }) waits waits_history
    ≡ text_of ("3 PROCESS 2 S LINE 7 fill $X = 3 [$A OF 1], wakes 1" ∷ "3 PROCESS 2 S LINE 8 ends, frame of 2 given back" ∷ [])
unfolding trace waits waits_history
of_one = refl

between : trace (record { first = 2; last = 2; process = None; cell = None }) waits waits_history ≡ text_of ("2 PROCESS 1 MAIN LINE 3 waits FOR FULL $A OF 1" ∷ [])
unfolding trace waits waits_history
between = refl

-- those that access $A, by its own name or by another one
of_cell : trace (record all { cell = Some (codes "$A") }) waits waits_history
    ≡ text_of (
    "2 PROCESS 1 MAIN LINE 3 waits FOR FULL $A OF 1"
    ∷ "3 PROCESS 2 S LINE 7 fill $X = 3 [$A OF 1], wakes 1"
    ∷ "4 PROCESS 1 MAIN LINE 3 take $A = 3"
    ∷ [])
unfolding trace all waits waits_history
of_cell = refl

-- ---- a DO, operators and functions, a PRINT, a CALL, and a fault that ends both activations

counts : List String
counts =
    "      DO 10 I=1,2"
    ∷ "   10 PRINT *, MOD(7,I+1), -I"
    ∷ "      CALL S(.TRUE.)"
    ∷ "      END"
    ∷ "      SUBROUTINE S(L)"
    ∷ "      LOGICAL L"
    ∷ "      COMMON /B/ N(3)"
    ∷ "      IF (.NOT. L) GO TO 20"
    ∷ "      N(2) = 4"
    ∷ "   20 N(N(2)) = 1"
    ∷ "      END"
    ∷ []

counted : trace all counts (steps 1 22 ∷ [])
    ≡ text_of (
    "1 PROCESS 1 MAIN LINE 1 begin DO I = 1, 2, 1"
    ∷ "1 PROCESS 1 MAIN LINE 2 read I = 1"
    ∷ "1 PROCESS 1 MAIN LINE 2 add 1 + 1 = 2"
    ∷ "1 PROCESS 1 MAIN LINE 2 apply MOD(7,2) = 1"
    ∷ "1 PROCESS 1 MAIN LINE 2 read I = 1"
    ∷ "1 PROCESS 1 MAIN LINE 2 sign - 1 = -1"
    ∷ "1 PROCESS 1 MAIN LINE 2 print 1 -1"
    ∷ "1 PROCESS 1 MAIN LINE 2 next I = 2"
    ∷ "1 PROCESS 1 MAIN LINE 2 read I = 2"
    ∷ "1 PROCESS 1 MAIN LINE 2 add 2 + 1 = 3"
    ∷ "1 PROCESS 1 MAIN LINE 2 apply MOD(7,3) = 1"
    ∷ "1 PROCESS 1 MAIN LINE 2 read I = 2"
    ∷ "1 PROCESS 1 MAIN LINE 2 sign - 2 = -2"
    ∷ "1 PROCESS 1 MAIN LINE 2 print 1 -2"
    ∷ "1 PROCESS 1 MAIN LINE 2 next I = 3"
    ∷ "1 PROCESS 1 MAIN LINE 3 calls S as 2"
    ∷ "1 PROCESS 1 S LINE 8 read L = T"
    ∷ "1 PROCESS 1 S LINE 8 negate .NOT. T = F"
    ∷ "1 PROCESS 1 S LINE 8 test F"
    ∷ "1 PROCESS 1 S LINE 9 store N(2) = 4 [/B/#2]"
    ∷ "1 PROCESS 1 S LINE 10 read N(2) = 4 [/B/#2]"
    ∷ "1 PROCESS 1 S LINE 10 FAULT RANGE, frame of 1 given back, frame of 2 given back"
    ∷ [])
unfolding trace all counts
counted = refl

-- ---- functions, and what is asked of asynchronous variables

asks : List String
asks =
    "      INTEGER $A"
    ∷ "      $A = 1+N(2)"
    ∷ "      IF (FULL($A)) I = VALUE($A)"
    ∷ "      PURGE $A"
    ∷ "      CONTINUE"
    ∷ "      STOP"
    ∷ "      END"
    ∷ "      FUNCTION N(M)"
    ∷ "      N = M*M"
    ∷ "      END"
    ∷ []

asked : trace all asks (steps 1 15 ∷ [])
    ≡ text_of (
    "1 PROCESS 1 MAIN LINE 2 calls N as 2"
    ∷ "1 PROCESS 1 N LINE 9 read M = 2"
    ∷ "1 PROCESS 1 N LINE 9 read M = 2"
    ∷ "1 PROCESS 1 N LINE 9 multiply 2 * 2 = 4"
    ∷ "1 PROCESS 1 N LINE 9 store N = 4"
    ∷ "1 PROCESS 1 N LINE 10 returns N = 4, frame of 2 given back"
    ∷ "1 PROCESS 1 MAIN LINE 2 add 1 + 4 = 5"
    ∷ "1 PROCESS 1 MAIN LINE 2 fill $A = 5"
    ∷ "1 PROCESS 1 MAIN LINE 3 ask FULL($A) = T"
    ∷ "1 PROCESS 1 MAIN LINE 3 test T"
    ∷ "1 PROCESS 1 MAIN LINE 3 ask VALUE($A) = 5"
    ∷ "1 PROCESS 1 MAIN LINE 3 store I = 5"
    ∷ "1 PROCESS 1 MAIN LINE 4 purge $A"
    ∷ "1 PROCESS 1 MAIN LINE 5 go to LINE 6"
    ∷ "1 PROCESS 1 MAIN LINE 6 stop"
    ∷ [])
unfolding trace all asks
asked = refl
