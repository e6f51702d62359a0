-- Worked runs: what the definitions give for whole sources, from their lines to the end of the run, one of each kind. The cases of
-- tests/cases show the other rules of the language.
use Rattle.std.specs.Prelude.{◌≡◌, false, List, [], ◌∷◌, replicate, Some, None, refl}
use Prim.Native.String.{String}
use Rattle.hep_machine.specs.declared.event.Kind.TheVariants.{Undefined}
use Rattle.hep_machine.specs.Words.{is_made, is_held, common}
use Rattle.hep_worked.proofs.SerialRuns.{report, runs, history, used_along, layout_after, frames, view, all_wait, halted, arena_full}
use Rattle.hep_worked.proofs.SerialRuns.{step_limit, no_such_process, one, fault, stands, waits_for_full, asynchronous, plain, cell}
use Rattle.hep_worked.proofs.SerialRuns.{unset_cell, holds, entries_of, ended, rejected, faulted, ended_by}

-- ---- Reading

abbrev nothing : List String
nothing = []

nothing_runs : runs nothing ≡ rejected 204 0 []
unfolding runs
nothing_runs = refl

-- ---- One process

abbrev variable_without_value : List String
variable_without_value =
    "      I=3"
    ∷ "      PRINT *,I*I-1"
    ∷ "      PRINT *,J"
    ∷ "      END"
    ∷ []

record VariableWithoutValueRuns : Type 0 where
  variable_without_value_runs : runs variable_without_value ≡ faulted (one 8 ∷ []) (fault 1 0 3 Undefined) 7 3
  variable_without_value_history : history variable_without_value 65536 is_made 10000000 [] ≡ entries_of (replicate 7 (1, 1))
  variable_without_value_in_2_cells : report variable_without_value 2 is_made 10000000 []
      ≡ ended_by arena_full [] (stands 1 0 1 ∷ []) 0 3
  variable_without_value_in_3_entries : report variable_without_value 65536 is_made 3 [] ≡ ended_by step_limit [] (stands 1 0 2 ∷ []) 3 3

variable_without_value_holds : VariableWithoutValueRuns
unfolding runs history report
variable_without_value_holds = search refl parts 1

abbrev stopped : List String
stopped =
    "      PRINT *,1"
    ∷ "      STOP"
    ∷ "      END"
    ∷ []

record StoppedRuns : Type 0 where
  stopped_runs : runs stopped ≡ ended_by halted (one 1 ∷ []) (stands 1 0 2 ∷ []) 2 1
  stopped_by_no_process : report stopped 65536 is_made 10000000 (1 ∷ 2 ∷ []) ≡ ended_by no_such_process (one 1 ∷ []) (stands 1 0 2 ∷ []) 1 1

stopped_holds : StoppedRuns
unfolding runs report
stopped_holds = search refl parts 1

-- a function that calls itself
abbrev recursion : List String
recursion =
    "      PROGRAM P"
    ∷ "      INTEGER F"
    ∷ "      PRINT *,F(5)+F(0)"
    ∷ "      END"
    ∷ "      INTEGER FUNCTION F(N)"
    ∷ "      IF(N.EQ.0)THEN"
    ∷ "      F=1"
    ∷ "      ELSE"
    ∷ "      F=N*F(N-1)"
    ∷ "      END IF"
    ∷ "      END"
    ∷ []

record RecursionRuns : Type 0 where
  recursion_frames : frames recursion ≡ (1 ∷ 4 ∷ [], 0)
  recursion_runs : report recursion 65536 is_held 10000000 [] ≡ ended (one 121 ∷ []) 72 0

recursion_holds : RecursionRuns
unfolding frames report
recursion_holds = search refl parts 1

-- ---- Processes

-- two processes add to one variable, and say so by another
abbrev adders : List String
adders =
    "      PROGRAM P"
    ∷ "      INTEGER $X,$D"
    ∷ "      $X=0"
    ∷ "      CREATE ADD($X,$D)"
    ∷ "      CREATE ADD($X,$D)"
    ∷ "      I=$D"
    ∷ "      I=$D"
    ∷ "      PRINT *,$X"
    ∷ "      END"
    ∷ "      SUBROUTINE ADD($A,$B)"
    ∷ "      INTEGER $A,$B"
    ∷ "      $A=$A+1"
    ∷ "      $B=1"
    ∷ "      END"
    ∷ []

record AddersRuns : Type 0 where
  adders_runs : runs adders ≡ ended (one 2 ∷ []) 22 14
  adders_chosen_history : history adders 65536 is_made 10000000 (1 ∷ 1 ∷ 1 ∷ 2 ∷ 3 ∷ []) ≡ entries_of (
      (1, 1) ∷ (1, 1) ∷ (1, 1) ∷ (2, 1) ∷ (3, 0) ∷ (1, 0) ∷ (2, 1) ∷ (2, 1) ∷ (3, 1) ∷ (2, 1) ∷ (3, 1) ∷ (1, 1) ∷ (2, 1) ∷ (3, 1)
      ∷ (1, 1) ∷ (3, 1) ∷ (1, 1) ∷ (3, 1) ∷ (1, 1) ∷ (1, 1) ∷ (1, 1) ∷ (1, 1) ∷ [])
  adders_frames : frames adders ≡ (4 ∷ 5 ∷ [], 0)
  -- the first of the two has emptied $X, whose value stays
  adders_in_4_entries_view : view adders 65536 is_made 4 (1 ∷ 1 ∷ 1 ∷ 2 ∷ []) ≡ Some (record {
    records = [];
    faults = [];
    halted = false;
    processes =
        waits_for_full 1 0 6 (asynchronous 1 "D" 1) ∷ stands 2 1 12 ∷ waits_for_full 3 1 12 (asynchronous 1 "X" 1) ∷ [];
    common_contents = [];
    cells =
        holds (asynchronous 1 "X" 1) (cell 0 false) ∷ holds (asynchronous 1 "D" 1) (unset_cell false)
        ∷ holds (plain 1 "I" 1) (unset_cell false) ∷ [];
  })

adders_holds : AddersRuns
unfolding runs history frames view
adders_holds = search refl parts 1

-- each waits for what another one has, until all do
abbrev circle : List String
circle =
    "      PROGRAM P"
    ∷ "      INTEGER $A,$B"
    ∷ "      CREATE S($A,$B)"
    ∷ "      CREATE S($B,$A)"
    ∷ "      I=$A"
    ∷ "      END"
    ∷ "      SUBROUTINE S($U,$V)"
    ∷ "      INTEGER $U,$V"
    ∷ "      $V=$U"
    ∷ "      END"
    ∷ []

circle_runs : runs circle ≡ ended_by all_wait [] (
    waits_for_full 1 0 5 (asynchronous 1 "A" 1) ∷ waits_for_full 2 1 9 (asynchronous 1 "A" 1)
    ∷ waits_for_full 3 1 9 (asynchronous 1 "B" 1) ∷ []) 5 14
unfolding runs
circle_runs = refl

-- a subroutine that goes on beside its caller
abbrev resumed : List String
resumed =
    "      PROGRAM P"
    ∷ "      INTEGER $X"
    ∷ "      K=3"
    ∷ "      CALL S(K,$X)"
    ∷ "      K=4"
    ∷ "      $X=1"
    ∷ "      END"
    ∷ "      SUBROUTINE S(J,$Y)"
    ∷ "      INTEGER $Y"
    ∷ "      RESUME"
    ∷ "      I=$Y"
    ∷ "      PRINT *,J+I"
    ∷ "      END"
    ∷ []

record ResumedRuns : Type 0 where
  resumed_runs : report resumed 65536 is_held 10000000 [] ≡ ended (one 5 ∷ []) 14 0
  resumed_history : history resumed 65536 is_held 10000000 [] ≡ entries_of (
      (1, 1) ∷ (1, 1) ∷ (1, 1) ∷ (2, 0) ∷ (1, 1) ∷ (1, 1) ∷ (2, 1) ∷ (1, 1) ∷ (2, 1) ∷ (2, 1) ∷ (2, 1) ∷ (2, 1) ∷ (2, 1) ∷ (2, 1) ∷ [])

resumed_holds : ResumedRuns
unfolding report history
resumed_holds = search refl parts 1

-- ---- Frames

-- the frames of B, A and the main program, which have ended one after the other, stay until C has ended
abbrev creators_return : List String
creators_return =
    "      PROGRAM P"
    ∷ "      CALL A"
    ∷ "      END"
    ∷ "      SUBROUTINE A"
    ∷ "      CALL B"
    ∷ "      END"
    ∷ "      SUBROUTINE B"
    ∷ "      CREATE C(K)"
    ∷ "      END"
    ∷ "      SUBROUTINE C(J)"
    ∷ "      J=7"
    ∷ "      END"
    ∷ []

creators_return_uses : used_along creators_return is_held (1 ∷ 1 ∷ 1 ∷ 1 ∷ 1 ∷ 1 ∷ 2 ∷ 2 ∷ [])
    ≡ 1 ∷ 2 ∷ 4 ∷ 7 ∷ 7 ∷ 7 ∷ 7 ∷ 7 ∷ 0 ∷ []
unfolding used_along
creators_return_uses = refl

creators_return_layout : layout_after creators_return 7 is_held (replicate 6 1) ≡ Some (
    record { activation = 1; first = 0; cells = 1 } ∷ record { activation = 2; first = 1; cells = 1 }
    ∷ record { activation = 3; first = 2; cells = 2 } ∷ record { activation = 4; first = 4; cells = 3 } ∷ [])
unfolding layout_after
creators_return_layout = refl

-- after the frames of two As, of which the first has ended
abbrev gaps : List String
gaps =
    "      PROGRAM P"
    ∷ "      CREATE A"
    ∷ "      CREATE A"
    ∷ "      CREATE C"
    ∷ "      END"
    ∷ "      SUBROUTINE A"
    ∷ "      I=1"
    ∷ "      END"
    ∷ "      SUBROUTINE C"
    ∷ "      J=1"
    ∷ "      K=2"
    ∷ "      END"
    ∷ []

record GapsRuns : Type 0 where
  gaps_of_2_cells : report gaps 7 is_held 10000000 (1 ∷ 1 ∷ 2 ∷ 2 ∷ 1 ∷ [])
      ≡ ended_by arena_full [] (stands 1 0 4 ∷ stands 3 1 7 ∷ []) 4 3
  gaps_of_3_cells : report gaps 8 is_held 10000000 (1 ∷ 1 ∷ 2 ∷ 2 ∷ 1 ∷ []) ≡ ended [] 11 0
  -- of two that are alike the one that has ended isn't seen, and the other one is seen by its number
  gaps_second_ended_view : view gaps 65536 is_held 4 (1 ∷ 1 ∷ 3 ∷ 3 ∷ []) ≡ Some (record {
    records = [];
    faults = [];
    halted = false;
    processes = stands 1 0 4 ∷ stands 2 1 7 ∷ [];
    common_contents = [];
    cells = holds (plain 2 "I" 1) (unset_cell false) ∷ [];
  })

gaps_holds : GapsRuns
unfolding report view
gaps_holds = search refl parts 1

abbrev counters_in_common : List String
counters_in_common =
    "      PROGRAM P"
    ∷ "      CREATE S"
    ∷ "      CREATE S"
    ∷ "      END"
    ∷ "      SUBROUTINE S"
    ∷ "      COMMON N"
    ∷ "      DO 10 I=1,10"
    ∷ "   10 N=I"
    ∷ "      END"
    ∷ []

record CountersInCommonRuns : Type 0 where
  counters_in_common_frames : frames counters_in_common ≡ (1 ∷ 4 ∷ [], 1)
  counters_in_common_run : report counters_in_common 65536 is_held 10000000 [] ≡ ended [] 67 1
  counters_in_common_view : view counters_in_common 65536 is_held 10000000 [] ≡ Some (record {
    records = [];
    faults = [];
    halted = false;
    processes = [];
    common_contents = holds (common None 1) (cell 10 false) ∷ [];
    cells = [];
  })

counters_in_common_holds : CountersInCommonRuns
unfolding frames report view
counters_in_common_holds = search refl parts 1
