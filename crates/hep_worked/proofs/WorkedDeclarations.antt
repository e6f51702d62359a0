-- Further sources at the conditions of declarations: positions in COMMON, adjustable bounds, DATA and large counts; a run of a large
-- array, and a long chain of activations.
use Rattle.std.specs.Prelude.{◌≡◌, ℕ, zero, suc, true, false, List, [], ◌∷◌, ◌++◌, Option, Some, None, replicate, refl}
use Rattle.hep_machine.specs.Words.{is_held, is_made, Activation, Process, State, doing, unset_cell, End}
use Rattle.hep_worked.proofs.Reported.{spelled, reported_of, reported_by, reported, accepts, refuses, names}
use Rattle.hep_worked.proofs.SerialRuns.{numbers, report, ended}
use Rattle.hep_worked.proofs.Sources.{units_of}

record Rows : Type 0 where
  second_place_is_no_place : refuses 305 4 ("      COMMON /B/I,J" ∷ "      END" ∷ "      SUBROUTINE S" ∷ "      COMMON /B/I,I" ∷ "      END" ∷ [])
  second_place_in_a_later_block : refuses 305 4 ("      COMMON /B/I" ∷ "      END" ∷ "      SUBROUTINE S" ∷ "      COMMON /D/J,/B/J" ∷ "      END" ∷ [])
  second_place_in_an_earlier_unit : refuses 309 1 ("      COMMON /B/I,I" ∷ "      END" ∷ "      SUBROUTINE S" ∷ "      COMMON /B/I,J" ∷ "      END" ∷ [])
  second_place_beside_the_same_block : refuses 309 4 ("      COMMON /B/I,J" ∷ "      END" ∷ "      SUBROUTINE S" ∷ "      COMMON /B/I,I,J" ∷ "      END" ∷ [])
  type_after_a_second_place : refuses 305 5 ("      COMMON /B/I,J" ∷ "      END" ∷ "      SUBROUTINE S" ∷ "      LOGICAL L" ∷ "      COMMON /B/I,I,L" ∷ "      END" ∷ [])
  second_place_in_blank_common : refuses 309 4 ("      COMMON I,J" ∷ "      END" ∷ "      SUBROUTINE S" ∷ "      COMMON I,I" ∷ "      END" ∷ [])
  first_place_after_the_other_block : refuses 305 4 ("      COMMON /B/I,J" ∷ "      END" ∷ "      SUBROUTINE S" ∷ "      COMMON /B/I,/D/K,/B/K" ∷ "      END" ∷ [])
  one_place_in_each_unit : accepts ("      COMMON /B/I,J" ∷ "      END" ∷ "      SUBROUTINE S" ∷ "      COMMON /B/J,I" ∷ "      END" ∷ [])
  another_block_of_its_own : accepts ("      COMMON /B/I" ∷ "      END" ∷ "      SUBROUTINE S" ∷ "      COMMON /D/J,/B/I" ∷ "      END" ∷ [])
  bound_by_a_dummy_given_as_a_constant_later : refuses 302 2 ("      SUBROUTINE S(A,N)" ∷ "      INTEGER A(N)" ∷ "      PARAMETER (N=1)" ∷ "      END" ∷ "      END" ∷ [])
  bound_by_common_given_as_a_constant_later : refuses 302 2 ("      SUBROUTINE S(A)" ∷ "      INTEGER A(N)" ∷ "      COMMON N" ∷ "      PARAMETER (N=1)" ∷ "      END" ∷ "      END" ∷ [])
  lower_bound_by_a_dummy_given_as_a_constant_later : refuses 302 2 ("      SUBROUTINE S(A,N)" ∷ "      INTEGER A(N:*)" ∷ "      PARAMETER (N=1)" ∷ "      END" ∷ "      END" ∷ [])
  bound_by_a_dummy_given_as_a_constant_before : refuses 309 2 ("      SUBROUTINE S(A,N)" ∷ "      PARAMETER (N=1)" ∷ "      INTEGER A(N)" ∷ "      END" ∷ "      END" ∷ [])
  bound_by_a_dummy_alone : accepts ("      SUBROUTINE S(A,N)" ∷ "      INTEGER A(N)" ∷ "      END" ∷ "      END" ∷ [])
  bound_by_a_dummy_and_a_constant : accepts ("      SUBROUTINE S(A,N)" ∷ "      PARAMETER (M=2)" ∷ "      INTEGER A(N+M)" ∷ "      END" ∷ "      END" ∷ [])
  constant_as_do_variable : refuses 307 2 ("      PARAMETER (N=1)" ∷ "      DO 10 N=1,2" ∷ "   10 CONTINUE" ∷ "      END" ∷ [])
  repeat_of_ten_million : refuses 311 1 ("      DATA I/10000000*1/" ∷ "      END" ∷ [])
  repeat_of_the_greatest : refuses 311 1 ("      DATA I/9223372036854775807*1/" ∷ "      END" ∷ [])
  repeat_of_the_greatest_by_a_constant : refuses 311 2 ("      PARAMETER (N=9223372036854775807)" ∷ "      DATA I,J/1,N*1/" ∷ "      END" ∷ [])
  data_of_the_largest_array : accepts ("      INTEGER I(1048576)" ∷ "      DATA I/1048576*0/" ∷ "      END" ∷ [])
  one_value_too_few_for_the_largest_array : refuses 311 2 ("      INTEGER I(1048576)" ∷ "      DATA I/1048575*0/" ∷ "      END" ∷ [])
  last_value_of_the_other_type : refuses 311 2 ("      INTEGER I(1048576)" ∷ "      DATA I/1048575*0,.TRUE./" ∷ "      END" ∷ [])
  values_across_arrays : accepts ("      INTEGER I(1000000),J(48576)" ∷ "      DATA I,J/524288*0,524288*1/" ∷ "      END" ∷ [])
  value_of_the_other_type_across_arrays : refuses 311 3 ("      LOGICAL L" ∷ "      INTEGER I(1000000),J(48576)" ∷ "      DATA I,L,J/524288*0,524289*1/" ∷ "      END" ∷ [])
  element_of_the_largest_array_again : refuses 311 3 ("      INTEGER I(1048576)" ∷ "      DATA I/1048576*0/" ∷ "      DATA I(1048576)/1/" ∷ "      END" ∷ [])
  elements_side_by_side : accepts ("      INTEGER I(1048576)" ∷ "      DATA I(1048576)/1/" ∷ "      DATA I(1)/1/" ∷ "      END" ∷ [])
  block_of_the_largest_array : accepts ("      COMMON /B/I(1048576)" ∷ "      END" ∷ "      SUBROUTINE S" ∷ "      COMMON /B/I(1048575),J" ∷ "      END" ∷ [])
  block_of_the_largest_array_is_shorter : refuses 305 4 ("      COMMON /B/I(1048576)" ∷ "      END" ∷ "      SUBROUTINE S" ∷ "      COMMON /B/I(1048575)" ∷ "      END" ∷ [])
  last_of_the_largest_array_is_asynchronous : refuses 305 4 ("      COMMON /B/I(1048576)" ∷ "      END" ∷ "      SUBROUTINE S" ∷ "      COMMON /B/I(1048575),$J" ∷ "      END" ∷ [])
  last_of_the_largest_array_is_logical : refuses 305 5 ("      COMMON /B/I(1048576)" ∷ "      END" ∷ "      SUBROUTINE S" ∷ "      LOGICAL L" ∷ "      COMMON /B/I(1048575),L" ∷ "      END" ∷ [])
  blank_common_of_the_largest_array : accepts ("      COMMON I(1048576)" ∷ "      END" ∷ "      SUBROUTINE S" ∷ "      LOGICAL L" ∷ "      COMMON J(1048576),L" ∷ "      END" ∷ [])

rows : Rows
unfolding reported reported_by reported_of spelled accepts refuses names units_of
rows = search refl parts 1

-- ---- the first state: the value at each index of a long list

largest_array_is_given : report ("      INTEGER I(1048576)" ∷ "      DATA I/1048575*7,8/" ∷ "      PRINT *,I(1),I(1048575),I(1048576)" ∷ "      END" ∷ []) 1048577 is_made 10000000 [] ≡ ended (numbers (7 ∷ 7 ∷ 8 ∷ []) ∷ []) 5 1048577
unfolding report
largest_array_is_given = refl

-- ---- held activations: a chain in which each one is the parent of the next one

chain_from : Option ℕ → ℕ → ℕ → List Activation
chain_from parent a zero = []
chain_from parent a (suc n) = record { unit = 1; parent = parent; dummies = [] } ∷ chain_from (Some a) (suc a) n

stack_of : ℕ → Process
stack_of a = record { activation = a; statement = 0; work = doing [] End; loops = [] } ∷ []

stacks_from : ℕ → ℕ → List Process
stacks_from a zero = []
stacks_from a (suc n) = stack_of a ∷ stacks_from (suc a) n

-- a process for each of so many activations
abbrev chain : ℕ → List Process → State
chain n processes = record { processes = processes; activations = chain_from None 1 n; store = λ location. unset_cell; records = []; faults = []; halted = false }

-- all live, the last one alone, one in the middle, and none
held :
    is_held (chain 1000 (stacks_from 1 1000)) 1 ∷ is_held (chain 1000 (stacks_from 1 1000)) 1000
    ∷ is_held (chain 1000 (replicate 999 [] ++ stack_of 1000 ∷ [])) 1
    ∷ is_held (chain 1000 (replicate 499 [] ++ stack_of 500 ∷ replicate 500 [])) 499
    ∷ is_held (chain 1000 (replicate 499 [] ++ stack_of 500 ∷ replicate 500 [])) 501
    ∷ is_held (chain 1000 (replicate 1000 [])) 1
    ∷ [] ≡ true ∷ true ∷ true ∷ true ∷ false ∷ false ∷ []
unfolding chain_from stack_of stacks_from
held = refl
