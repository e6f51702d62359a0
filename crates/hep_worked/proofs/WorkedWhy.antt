-- Worked reasons of sources.
use Rattle.std.specs.Prelude.{◌≡◌, ℕ, List, [], ◌∷◌, None, Some, Option, Result, Ok, Err, refl}
use Rattle.std.specs.Fmt.{digits}
use Prim.Native.String.{String}
use Rattle.hep_machine.specs.declared.event.Entry.{Entry}
use Rattle.hep_machine.specs.Words.{Units, opening, progress_from, run, run_from, schedule_of, state_after, step_result_of}
use Rattle.hep_parse.specs.ReadingProgram.{Refusal}
use Rattle.hep_why.specs.LatestChanges.{seen_along}
use Rattle.hep_why.specs.WaitCycles.{circle_from, circles_of}
use Rattle.hep_why.specs.Lines.{circles_text}
use Rattle.hep_why.specs.Reasons.{why_text}
use Rattle.hep_worked.proofs.Sources.{text_of, units_of}
use Rattle.hep_worked.proofs.SerialRuns.{steps}

-- ---- circles, by indexes

-- 0 leads to 2, 2 to 1 and 1 to 0; 3 leads there too, and 4 nowhere
nexts : List (Option ℕ)
nexts = Some 2 ∷ Some 0 ∷ Some 1 ∷ Some 0 ∷ None ∷ []

circle : circle_from nexts 0 5 0 ≡ Some (0 ∷ 2 ∷ 1 ∷ [])
unfolding circle_from nexts
circle = refl

-- it is told of the least one alone
told_once : circle_from nexts 1 5 1 ≡ None
unfolding circle_from nexts
told_once = refl

leads_there : circle_from nexts 3 5 3 ≡ None
unfolding circle_from nexts
leads_there = refl

-- 0 leads to the circle of 3 and 4, and 1 and 2 are another one
two : List (Option ℕ)
two = Some 3 ∷ Some 2 ∷ Some 1 ∷ Some 4 ∷ Some 3 ∷ []

in_order : circles_of two ≡ (1 ∷ 2 ∷ []) ∷ (3 ∷ 4 ∷ []) ∷ []
unfolding circle_from two
in_order = refl

alone : circle_from (Some 0 ∷ []) 0 1 0 ≡ Some (0 ∷ [])
unfolding circle_from
alone = refl

-- ---- from the lines of a source to why its processes wait

why_of : Result Units Refusal → List Entry → List ℕ
unfolding seen_along circle_from circles_text opening progress_from run run_from schedule_of state_after step_result_of
why_of (Err e) history = []
why_of (Ok program) history = why_text program history

unfoldable why : List String → List Entry → List ℕ
unfolding units_of why_of digits
why lines history = why_of (units_of lines) history

-- two processes, each of which took what the other one waits for
both : List String
both =
    "      INTEGER $A,$B"
    ∷ "      $A = 1"
    ∷ "      $B = 1"
    ∷ "      CREATE S($A,$B)"
    ∷ "      I = $B+$A"
    ∷ "      END"
    ∷ "      SUBROUTINE S($X,$Y)"
    ∷ "      INTEGER $X,$Y"
    ∷ "      J = $X+$Y"
    ∷ "      END"
    ∷ []

waits_for_each_other : why both (steps 1 3 ∷ steps 1 1 ∷ steps 2 1 ∷ steps 1 0 ∷ steps 2 0 ∷ [])
    ≡ text_of (
    "AFTER 5 ENTRIES"
    ∷ "WAITING 1 MAIN LINE 5 FOR FULL $A OF 1"
    ∷ "      | process 2, which waits, emptied $A at S LINE 9 in entry 3"
    ∷ "      | process 1, which waits, filled it last, at MAIN LINE 2 in entry 1"
    ∷ "WAITING 2 S LINE 9 FOR FULL $B OF 1"
    ∷ "      | process 1, which waits, emptied $Y at MAIN LINE 5 in entry 2"
    ∷ "      | process 1, which waits, filled it last, at MAIN LINE 3 in entry 1"
    ∷ "CIRCLE 1 WAITS FOR WHAT WAS CHANGED BY 2, 1"
    ∷ [])
unfolding why both
waits_for_each_other = refl

-- a process that wasn't found waiting has no line, and can go on
not_found : why both (steps 1 3 ∷ steps 1 1 ∷ steps 2 1 ∷ steps 2 0 ∷ [])
    ≡ text_of (
    "AFTER 4 ENTRIES"
    ∷ "WAITING 2 S LINE 9 FOR FULL $B OF 1"
    ∷ "      | process 1, which lives, emptied $Y at MAIN LINE 5 in entry 2"
    ∷ "      | process 1, which lives, filled it last, at MAIN LINE 3 in entry 1"
    ∷ "AND 1 PROCESS CAN GO ON"
    ∷ [])
unfolding why both
not_found = refl

-- places in COMMON, by the names of two units; one process that waits for what it changed itself is no circle
common : List String
common =
    "      COMMON /B/ N,$C(2)"
    ∷ "      INTEGER $C"
    ∷ "      CREATE S"
    ∷ "      $C(2) = 1"
    ∷ "      $C(2) = 2"
    ∷ "      END"
    ∷ "      SUBROUTINE S"
    ∷ "      COMMON /B/ M,$D(2)"
    ∷ "      INTEGER $D"
    ∷ "      M = $D(1)"
    ∷ "      END"
    ∷ []

by_its_own_names : why common (steps 1 2 ∷ steps 2 0 ∷ steps 1 0 ∷ [])
    ≡ text_of (
    "AFTER 3 ENTRIES"
    ∷ "WAITING 1 MAIN LINE 5 FOR EMPTY /B/#3"
    ∷ "      | process 1, which waits, filled $C(2) at MAIN LINE 4 in entry 1"
    ∷ "WAITING 2 S LINE 10 FOR FULL /B/#2"
    ∷ "      | nobody has filled or emptied $D(1)"
    ∷ [])
unfolding why common
by_its_own_names = refl

-- an element of an adjustable array, by whose name its unit waits, and a position of COMMON by a dummy argument, though the unit has a name for it there too
passed : List String
passed =
    "      COMMON /B/ $C"
    ∷ "      INTEGER $A(2,2),$C"
    ∷ "      CREATE S($A,$C,2)"
    ∷ "      END"
    ∷ "      SUBROUTINE S($R,$Q,N)"
    ∷ "      COMMON /B/ $D"
    ∷ "      INTEGER $D,$Q,$R(0:1,N)"
    ∷ "      CREATE T($Q)"
    ∷ "      I = $R(N-1,2)"
    ∷ "      END"
    ∷ "      SUBROUTINE T($Q)"
    ∷ "      COMMON /B/ $D"
    ∷ "      INTEGER $D,$Q"
    ∷ "      I = $Q"
    ∷ "      END"
    ∷ []

by_dummies : why passed (steps 1 1 ∷ steps 2 3 ∷ steps 2 0 ∷ steps 3 0 ∷ [])
    ≡ text_of (
    "AFTER 4 ENTRIES"
    ∷ "WAITING 2 S LINE 9 FOR FULL $A#4 OF 1"
    ∷ "      | nobody has filled or emptied $R(1,2)"
    ∷ "WAITING 3 T LINE 14 FOR FULL /B/#1"
    ∷ "      | nobody has filled or emptied $Q"
    ∷ "AND 1 PROCESS CAN GO ON"
    ∷ [])
unfolding why passed
by_dummies = refl
