-- Further sources at the edges of the conditions: several violations at once, neighbours of each rule, and cells of frames.
use Rattle.std.specs.Prelude.{◌≡◌, ℕ, codes, List, [], ◌∷◌, Result, Ok, Err, refl}
use Rattle.hep_machine.specs.Words.{Units, frame_cells}
use Rattle.hep_worked.proofs.Sources.{units_of}
use Rattle.hep_worked.proofs.Reported.{spelled, reported_of, reported_by, reported, accepts, refuses, names}

-- what has a type and a value, and of which type it is
record Values : Type 0 where
  untyped_second_dummy : names 301 1 (codes "X") ("      SUBROUTINE S(I,X)" ∷ "      X=1" ∷ "      END" ∷ "      END" ∷ [])
  untyped_target_before_value_in_data : names 301 1 (codes "A") ("      DATA A/B/" ∷ "      END" ∷ [])
  untyped_beside_unknown_list : names 301 1 (codes "Y") ("      I=X(1)+Y" ∷ "      END" ∷ [])
  typed_plain_untyped_asynchronous : names 301 2 (codes "$X") ("      INTEGER X" ∷ "      $X=1" ∷ "      END" ∷ [])
  untyped_in_a_condition : names 301 1 (codes "X") ("      IF(X.EQ.1)Y=1" ∷ "      END" ∷ [])
  untyped_do_variable : names 301 1 (codes "X") ("      DO 10 X=1,2" ∷ "   10 CONTINUE" ∷ "      END" ∷ [])
  untyped_value_in_data : names 301 1 (codes "X") ("      DATA I/X/" ∷ "      END" ∷ [])
  untyped_repeat_in_data : names 301 1 (codes "X") ("      DATA I/X*1/" ∷ "      END" ∷ [])
  untyped_bound : names 301 1 (codes "X") ("      INTEGER I(X)" ∷ "      END" ∷ [])
  implicit_for_asynchronous : accepts ("      IMPLICIT LOGICAL (A-H,O-Z)" ∷ "      A=.TRUE." ∷ "      $B=A" ∷ "      END" ∷ [])
  integer_letter_made_logical : refuses 302 2 ("      IMPLICIT LOGICAL (I)" ∷ "      I=1" ∷ "      END" ∷ [])
  called_name_has_no_type : accepts ("      CALL X" ∷ "      END" ∷ "      SUBROUTINE X" ∷ "      END" ∷ [])
  block_name_has_no_type : accepts ("      COMMON /X/ I" ∷ "      END" ∷ [])
  untyped_array : names 301 1 (codes "X") ("      DIMENSION X(2)" ∷ "      END" ∷ [])
  untyped_subscript_before_right_side : names 301 2 (codes "A") ("      INTEGER I(2)" ∷ "      I(A)=B" ∷ "      END" ∷ [])
  untyped_name_of_a_function : names 301 1 (codes "ABS") ("      I=ABS(1)+ABS" ∷ "      END" ∷ [])
  untyped_in_a_later_unit : names 301 4 (codes "X") ("      I=1" ∷ "      END" ∷ "      SUBROUTINE S" ∷ "      X=1" ∷ "      END" ∷ [])
  array_as_subscript : refuses 302 2 ("      INTEGER X(2),I(2)" ∷ "      I(X)=1" ∷ "      END" ∷ [])
  assignment_within_logical_if : refuses 302 1 ("      IF(.TRUE.)I=.TRUE." ∷ "      END" ∷ [])
  integer_condition_of_else_if : refuses 302 2 ("      IF(.TRUE.)THEN" ∷ "      ELSE IF(1)THEN" ∷ "      END IF" ∷ "      END" ∷ [])
  relation_of_logicals : refuses 302 1 ("      PRINT *,.TRUE..EQ..TRUE." ∷ "      END" ∷ [])
  equivalence_of_logicals : accepts ("      PRINT *,.TRUE..EQV.(1.LT.2)" ∷ "      END" ∷ [])
  sign_before_a_logical : refuses 302 1 ("      PRINT *,-.TRUE." ∷ "      END" ∷ [])
  adjustable_lower_bound : accepts ("      INTEGER X(3)" ∷ "      CALL S(X,1)" ∷ "      END" ∷ "      SUBROUTINE S(A,N)" ∷ "      INTEGER A(N:*)" ∷ "      END" ∷ [])
  dummy_shape_out_of_order : refuses 302 2 ("      SUBROUTINE S(A)" ∷ "      INTEGER A(3:2,*)" ∷ "      END" ∷ "      END" ∷ [])
  open_shape_of_any_size : accepts ("      SUBROUTINE S(A)" ∷ "      INTEGER A(2000000,*)" ∷ "      END" ∷ "      END" ∷ [])
  adjustable_shape_out_of_order : accepts ("      SUBROUTINE S(A,N)" ∷ "      INTEGER A(3:2,N)" ∷ "      END" ∷ "      END" ∷ [])
  bound_by_dummy_and_local : refuses 302 2 ("      SUBROUTINE S(A,N)" ∷ "      INTEGER A(N+M)" ∷ "      END" ∷ "      END" ∷ [])
  bound_by_logical_dummy : refuses 302 2 ("      SUBROUTINE S(A,N)" ∷ "      INTEGER A(N)" ∷ "      LOGICAL N" ∷ "      END" ∷ "      END" ∷ [])
  bound_by_asynchronous_dummy : refuses 302 2 ("      SUBROUTINE S(A,$N)" ∷ "      INTEGER A($N)" ∷ "      END" ∷ "      END" ∷ [])
  bound_by_element_of_dummy : refuses 302 2 ("      SUBROUTINE S(A,N)" ∷ "      INTEGER A(N(1)),N(2)" ∷ "      END" ∷ "      END" ∷ [])
  bound_by_dummy_and_function : refuses 302 2 ("      SUBROUTINE S(A,N)" ∷ "      INTEGER A(N+MAX(2,3))" ∷ "      END" ∷ "      END" ∷ [])
  bound_of_dummy_by_function_of_constants : accepts ("      SUBROUTINE S(A)" ∷ "      INTEGER A(MAX(2,3))" ∷ "      END" ∷ "      END" ∷ [])
  constant_bound_of_dummy_that_faults : refuses 302 2 ("      SUBROUTINE S(A)" ∷ "      INTEGER A(1/0)" ∷ "      END" ∷ "      END" ∷ [])
  adjustable_bound_that_faults : accepts ("      SUBROUTINE S(A,N)" ∷ "      INTEGER A(N/0)" ∷ "      END" ∷ "      END" ∷ [])
  common_named_after_the_bound : accepts ("      SUBROUTINE S(A)" ∷ "      INTEGER A(N)" ∷ "      COMMON N" ∷ "      END" ∷ "      END" ∷ [])
  constant_given_after_the_bound : refuses 302 1 ("      INTEGER I(N)" ∷ "      PARAMETER (N=2)" ∷ "      END" ∷ [])
  logical_constant : accepts ("      LOGICAL L" ∷ "      PARAMETER (L=.NOT.(1.GT.2))" ∷ "      PRINT *,L" ∷ "      END" ∷ [])
  constant_above_the_greatest : refuses 302 1 ("      PARAMETER (N=9223372036854775807+1)" ∷ "      END" ∷ [])
  constants_at_the_least : accepts ("      PARAMETER (N=-9223372036854775807-1,M=MOD(N,-1))" ∷ "      END" ∷ [])
  size_of_the_least : refuses 302 1 ("      PARAMETER (N=ABS(-9223372036854775807-1))" ∷ "      END" ∷ [])
  constant_by_state : refuses 302 1 ("      PARAMETER (N=VALUE($I))" ∷ "      END" ∷ [])
  constant_by_itself : refuses 302 1 ("      PARAMETER (N=N)" ∷ "      END" ∷ [])
  seven_dimensions : accepts ("      INTEGER I(2,2,2,2,2,2,2)" ∷ "      END" ∷ [])
  product_too_large : refuses 302 1 ("      INTEGER I(1024,1025)" ∷ "      END" ∷ [])
  product_at_the_limit : accepts ("      INTEGER I(1024,-1023:0)" ∷ "      END" ∷ [])
  extent_beyond_the_integers : refuses 302 1 ("      INTEGER I(-9223372036854775807:9223372036854775807)" ∷ "      END" ∷ [])
  array_in_arithmetic_as_actual : refuses 302 2 ("      INTEGER X(2)" ∷ "      CALL S(X+1)" ∷ "      END" ∷ "      SUBROUTINE S(I)" ∷ "      END" ∷ [])
  array_in_a_function : refuses 302 2 ("      INTEGER X(2)" ∷ "      I=MAX(X,1)" ∷ "      END" ∷ [])
  array_in_parentheses_tested : refuses 302 2 ("      INTEGER $X(2)" ∷ "      PRINT *,FULL(($X))" ∷ "      END" ∷ [])
  array_waited_for_in_print : refuses 302 2 ("      INTEGER $X(2)" ∷ "      PRINT *,$X" ∷ "      END" ∷ [])
  logical_subscript_in_purge : refuses 302 2 ("      INTEGER $X(2)" ∷ "      PURGE $X(.TRUE.)" ∷ "      END" ∷ [])
  subscript_count_in_purge : refuses 302 2 ("      INTEGER $X(2)" ∷ "      PURGE $X(1,2)" ∷ "      END" ∷ [])
  subscript_count_in_data : refuses 302 2 ("      INTEGER X(2)" ∷ "      DATA X(1,1)/1/" ∷ "      END" ∷ [])
  subscript_count_in_an_actual : refuses 302 2 ("      INTEGER X(2)" ∷ "      CALL S(X(1,1))" ∷ "      END" ∷ "      SUBROUTINE S(I)" ∷ "      END" ∷ [])
  array_given_to_an_unknown_subroutine : names 310 2 (codes "T") ("      INTEGER X(2)" ∷ "      CALL T(X)" ∷ "      END" ∷ [])
  array_operand_given_to_an_unknown_subroutine : refuses 302 2 ("      INTEGER X(2)" ∷ "      CALL T(X+1)" ∷ "      END" ∷ [])
  array_given_to_an_unknown_list : names 310 2 (codes "J") ("      INTEGER X(2)" ∷ "      I=J(X)" ∷ "      END" ∷ [])
  logical_value_to_constant_name : refuses 302 2 ("      PARAMETER (N=1)" ∷ "      N=.TRUE." ∷ "      END" ∷ [])
  value_of_the_other_type_by_test : refuses 302 2 ("      INTEGER $X" ∷ "      IF($X.EQ.FULL($X))STOP" ∷ "      END" ∷ [])

values : Values
unfolding reported reported_by reported_of spelled accepts refuses names units_of
values = search refl parts 1

-- shapes of arrays, calls, and common blocks
record Calls : Type 0 where
  value_has_its_type : accepts ("      LOGICAL $L" ∷ "      IF(WAITF($L))STOP" ∷ "      END" ∷ [])
  no_actual_for_one : refuses 303 1 ("      CALL S" ∷ "      END" ∷ "      SUBROUTINE S(I)" ∷ "      END" ∷ [])
  empty_list_for_none : accepts ("      CREATE S()" ∷ "      END" ∷ "      SUBROUTINE S" ∷ "      END" ∷ [])
  count_before_type : refuses 303 1 ("      CALL S(.TRUE.,1)" ∷ "      END" ∷ "      SUBROUTINE S(I)" ∷ "      END" ∷ [])
  count_in_a_nested_list : refuses 303 1 ("      PRINT *,MAX(1,MIN(2))" ∷ "      END" ∷ [])
  count_in_a_subscript_of_data : refuses 303 2 ("      INTEGER X(2)" ∷ "      DATA X(MAX(1))/1/" ∷ "      END" ∷ [])
  operand_before_count : refuses 302 1 ("      I=MOD(1,2,.TRUE.)" ∷ "      END" ∷ [])
  count_of_create_within_logical_if : refuses 303 1 ("      IF(.TRUE.)CREATE S(1)" ∷ "      END" ∷ "      SUBROUTINE S" ∷ "      END" ∷ [])
  asynchronous_element_for_array : accepts ("      INTEGER $X(2)" ∷ "      CALL S($X(2),$X)" ∷ "      END" ∷ "      SUBROUTINE S($A,$B)" ∷ "      INTEGER $A(*),$B(2)" ∷ "      END" ∷ [])
  plain_array_for_asynchronous_array : refuses 304 2 ("      INTEGER X(2)" ∷ "      CALL S(X)" ∷ "      END" ∷ "      SUBROUTINE S($A)" ∷ "      INTEGER $A(*)" ∷ "      END" ∷ [])
  asynchronous_array_for_scalar : refuses 304 2 ("      INTEGER $X(2)" ∷ "      CALL S($X)" ∷ "      END" ∷ "      SUBROUTINE S($I)" ∷ "      END" ∷ [])
  constant_for_scalar : accepts ("      PARAMETER (N=1)" ∷ "      CALL S(N)" ∷ "      END" ∷ "      SUBROUTINE S(I)" ∷ "      END" ∷ [])
  constant_for_array : refuses 304 2 ("      PARAMETER (N=1)" ∷ "      CALL S(N)" ∷ "      END" ∷ "      SUBROUTINE S(I)" ∷ "      INTEGER I(1)" ∷ "      END" ∷ [])
  constant_for_asynchronous : refuses 304 2 ("      PARAMETER (N=1)" ∷ "      CALL S(N)" ∷ "      END" ∷ "      SUBROUTINE S($I)" ∷ "      END" ∷ [])
  expression_for_asynchronous : refuses 304 1 ("      CALL S(($I))" ∷ "      END" ∷ "      SUBROUTINE S($I)" ∷ "      END" ∷ [])
  unknown_list_for_scalar : names 310 1 (codes "J") ("      CALL S(J(1))" ∷ "      END" ∷ "      SUBROUTINE S(I)" ∷ "      END" ∷ [])
  unknown_list_for_array : refuses 304 1 ("      CALL S(J(1))" ∷ "      END" ∷ "      SUBROUTINE S(I)" ∷ "      INTEGER I(*)" ∷ "      END" ∷ [])
  unknown_list_tested : refuses 304 1 ("      PRINT *,FULL(J(1))" ∷ "      END" ∷ [])
  constant_tested : refuses 304 2 ("      PARAMETER (N=1)" ∷ "      PRINT *,VALUE(N)" ∷ "      END" ∷ [])
  scalar_in_parentheses_tested : refuses 304 1 ("      PRINT *,FULL(($I))" ∷ "      END" ∷ [])
  sum_tested : refuses 304 1 ("      PRINT *,VALUE(1+1)" ∷ "      END" ∷ [])
  plain_list_purged : refuses 304 1 ("      PURGE I(1)" ∷ "      END" ∷ [])
  asynchronous_list_purged : refuses 304 1 ("      PURGE $I(1)" ∷ "      END" ∷ [])
  recursion : accepts ("      CALL S(1)" ∷ "      END" ∷ "      SUBROUTINE S(I)" ∷ "      CALL S(I)" ∷ "      END" ∷ [])
  type_within_logical_if : refuses 304 1 ("      IF(.TRUE.)CALL S(.TRUE.)" ∷ "      END" ∷ "      SUBROUTINE S(I)" ∷ "      END" ∷ [])
  logical_element_for_integer : refuses 304 2 ("      LOGICAL L(2)" ∷ "      CALL S(L(1))" ∷ "      END" ∷ "      SUBROUTINE S(I)" ∷ "      END" ∷ [])
  logical_by_test_for_logical : accepts ("      CALL S(FULL($I))" ∷ "      END" ∷ "      SUBROUTINE S(L)" ∷ "      LOGICAL L" ∷ "      END" ∷ [])
  array_dummy_for_scalar : refuses 304 3 ("      SUBROUTINE S(A)" ∷ "      INTEGER A(*)" ∷ "      CALL T(A)" ∷ "      END" ∷ "      SUBROUTINE T(I)" ∷ "      END" ∷ "      END" ∷ [])
  block_continued : accepts ("      COMMON /B/ I,J" ∷ "      END" ∷ "      SUBROUTINE S" ∷ "      COMMON /B/ I,/C/ K,/B/ J" ∷ "      END" ∷ [])
  type_within_an_array : refuses 305 5 ("      COMMON /B/ I(3)" ∷ "      END" ∷ "      SUBROUTINE S" ∷ "      LOGICAL L" ∷ "      COMMON /B/ I,L,J" ∷ "      END" ∷ [])
  blank_common_type_past_the_shorter : accepts ("      COMMON I" ∷ "      END" ∷ "      SUBROUTINE S" ∷ "      LOGICAL L" ∷ "      COMMON J,L" ∷ "      END" ∷ [])
  third_unit_against_the_second : refuses 305 7 ("      COMMON I" ∷ "      END" ∷ "      SUBROUTINE S" ∷ "      COMMON I,J" ∷ "      END" ∷ "      SUBROUTINE T" ∷ "      COMMON I,$J" ∷ "      END" ∷ [])
  fault_before_the_last_common_statement : names 301 5 (codes "X") ("      COMMON /B/ I,J" ∷ "      END" ∷ "      SUBROUTINE S" ∷ "      COMMON /B/ I" ∷ "      INTEGER J(2),K(X)" ∷ "      COMMON /B/ J" ∷ "      END" ∷ [])
  lengths_by_a_constant : accepts ("      PARAMETER (N=2)" ∷ "      COMMON /B/ I(N)" ∷ "      END" ∷ "      SUBROUTINE S" ∷ "      COMMON /B/ I,J" ∷ "      END" ∷ [])
  dimension_after_common : accepts ("      COMMON /B/ I" ∷ "      DIMENSION I(2)" ∷ "      END" ∷ "      SUBROUTINE S" ∷ "      COMMON /B/ I,J" ∷ "      END" ∷ [])
  bounds_refused_in_the_later_unit : refuses 302 5 ("      COMMON /B/ I(2)" ∷ "      END" ∷ "      SUBROUTINE S" ∷ "      COMMON /B/ A" ∷ "      INTEGER A(0)" ∷ "      END" ∷ [])

calls : Calls
unfolding reported reported_by reported_of spelled accepts refuses names units_of
calls = search refl parts 1

-- labels, DO and block IF, and jumps
record Blocks : Type 0 where
  blocks_in_other_order : accepts ("      COMMON /B/ I,/C/ $J" ∷ "      END" ∷ "      SUBROUTINE S" ∷ "      COMMON /C/ $J/B/ I" ∷ "      END" ∷ [])
  third_label_nowhere : refuses 306 1 ("      IF(I)10,10,20" ∷ "   10 CONTINUE" ∷ "      END" ∷ [])
  label_in_another_unit : refuses 306 1 ("      GO TO 10" ∷ "      END" ∷ "      SUBROUTINE S" ∷ "   10 CONTINUE" ∷ "      END" ∷ [])
  label_twice_on_a_declaration_too : refuses 306 2 ("   10 INTEGER I" ∷ "   10 CONTINUE" ∷ "      END" ∷ [])
  one_label_in_two_units : accepts ("   10 CONTINUE" ∷ "      END" ∷ "      SUBROUTINE S" ∷ "   10 CONTINUE" ∷ "      END" ∷ [])
  terminal_nowhere : refuses 306 1 ("      DO 10 I=1,2" ∷ "      CONTINUE" ∷ "      END" ∷ [])
  label_twice_at_its_second : refuses 306 3 ("      GO TO 10" ∷ "   10 CONTINUE" ∷ "   10 STOP" ∷ "      END" ∷ [])
  label_on_data_used : refuses 306 2 ("   10 DATA I/1/" ∷ "      IF(.TRUE.)GO TO (20,10),1" ∷ "   20 END" ∷ [])
  label_on_data_unused : accepts ("   10 DATA I/1/" ∷ "      END" ∷ [])
  leading_zeros_are_one_label : refuses 306 2 ("  010 CONTINUE" ∷ "   10 CONTINUE" ∷ "      END" ∷ [])
  first_and_third_variable : refuses 307 3 ("      DO 10 I=1,2" ∷ "      DO 10 J=1,2" ∷ "      DO 10 I=1,2" ∷ "   10 CONTINUE" ∷ "      END" ∷ [])
  one_variable_in_a_row : accepts ("      DO 10 I=1,2" ∷ "   10 CONTINUE" ∷ "      DO 20 I=1,2" ∷ "   20 CONTINUE" ∷ "      END" ∷ [])
  end_if_of_the_block_as_terminal : refuses 307 2 ("      IF(.TRUE.)THEN" ∷ "      DO 10 I=1,2" ∷ "   10 END IF" ∷ "      END" ∷ [])
  end_if_within_as_terminal : refuses 307 3 ("      DO 10 I=1,2" ∷ "      IF(.TRUE.)THEN" ∷ "   10 END IF" ∷ "      END" ∷ [])
  else_within_as_terminal : refuses 307 2 ("      DO 10 I=1,2" ∷ "      IF(.TRUE.)THEN" ∷ "   10 ELSE" ∷ "      END IF" ∷ "      END" ∷ [])
  terminal_return : refuses 307 2 ("      DO 10 I=1,2" ∷ "   10 RETURN" ∷ "      END" ∷ [])
  terminal_logical_if_with_return : accepts ("      DO 10 I=1,2" ∷ "   10 IF(I.EQ.2)RETURN" ∷ "      END" ∷ [])
  terminal_arithmetic_if : refuses 307 2 ("      DO 10 I=1,2" ∷ "   10 IF(I)20,20,20" ∷ "   20 END" ∷ [])
  terminal_logical_if_with_arithmetic_if : accepts ("      DO 10 I=1,2" ∷ "   10 IF(.TRUE.)IF(I)20,20,20" ∷ "   20 END" ∷ [])
  terminal_do : refuses 307 2 ("      DO 10 I=1,2" ∷ "   10 DO 20 J=1,2" ∷ "   20 CONTINUE" ∷ "      END" ∷ [])
  do_ends_with_itself : refuses 307 1 ("   10 DO 10 I=1,2" ∷ "      END" ∷ [])
  outer_block_lacks_its_end : refuses 307 1 ("      IF(.TRUE.)THEN" ∷ "      IF(.TRUE.)THEN" ∷ "      END IF" ∷ "      END" ∷ [])
  logical_if_holds_else : refuses 307 2 ("      IF(.TRUE.)THEN" ∷ "      IF(.TRUE.)ELSE" ∷ "      END IF" ∷ "      END" ∷ [])
  logical_if_holds_end_if : refuses 307 2 ("      IF(.TRUE.)THEN" ∷ "      IF(.TRUE.)END IF" ∷ "      END IF" ∷ "      END" ∷ [])
  range_ends_in_else : refuses 307 2 ("      DO 10 I=1,2" ∷ "      IF(.TRUE.)THEN" ∷ "      ELSE" ∷ "   10 CONTINUE" ∷ "      END IF" ∷ "      END" ∷ [])
  range_in_else : accepts ("      IF(.TRUE.)THEN" ∷ "      ELSE" ∷ "      DO 10 I=1,2" ∷ "      IF(.TRUE.)THEN" ∷ "      END IF" ∷ "   10 CONTINUE" ∷ "      END IF" ∷ "      END" ∷ [])
  second_end_if : refuses 307 3 ("      IF(.TRUE.)THEN" ∷ "      END IF" ∷ "      END IF" ∷ "      END" ∷ [])
  first_of_a_label_ends_the_range : refuses 307 2 ("   10 CONTINUE" ∷ "      DO 10 I=1,2" ∷ "   10 CONTINUE" ∷ "      END" ∷ [])
  dummy_array_as_do_variable : refuses 302 3 ("      SUBROUTINE S(I)" ∷ "      INTEGER I(2)" ∷ "      DO 10 I=1,2" ∷ "   10 CONTINUE" ∷ "      END" ∷ "      END" ∷ [])
  dummy_and_common_do_variables : accepts ("      SUBROUTINE S(I)" ∷ "      COMMON J" ∷ "      DO 10 I=1,2" ∷ "      DO 10 J=1,2" ∷ "   10 CONTINUE" ∷ "      END" ∷ "      END" ∷ [])
  asynchronous_and_plain_are_two_in_do : accepts ("      DO 10 I=1,$I" ∷ "   10 CONTINUE" ∷ "      END" ∷ [])
  jump_from_the_outer_range : refuses 308 2 ("      DO 20 I=1,2" ∷ "      GO TO 10" ∷ "      DO 20 J=1,2" ∷ "   10 CONTINUE" ∷ "   20 CONTINUE" ∷ "      END" ∷ [])
  jump_from_the_terminal_back : accepts ("      DO 20 I=1,2" ∷ "   10 CONTINUE" ∷ "   20 IF(I.EQ.1)GO TO 10" ∷ "      END" ∷ [])
  jump_to_an_inner_end_if : refuses 308 1 ("      GO TO 10" ∷ "      IF(.TRUE.)THEN" ∷ "      IF(.TRUE.)THEN" ∷ "   10 END IF" ∷ "      END IF" ∷ "      END" ∷ [])
  jump_to_an_end_if_in_a_range : refuses 308 1 ("      GO TO 10" ∷ "      DO 20 I=1,2" ∷ "      IF(.TRUE.)THEN" ∷ "   10 END IF" ∷ "   20 CONTINUE" ∷ "      END" ∷ [])
  jump_to_an_inner_if_then : refuses 308 1 ("      GO TO 10" ∷ "      IF(.TRUE.)THEN" ∷ "   10 IF(.TRUE.)THEN" ∷ "      END IF" ∷ "      END IF" ∷ "      END" ∷ [])
  jump_out_of_an_inner_block : accepts ("      IF(.TRUE.)THEN" ∷ "      IF(.TRUE.)THEN" ∷ "      GO TO 10" ∷ "      END IF" ∷ "   10 CONTINUE" ∷ "      END IF" ∷ "      END" ∷ [])
  one_label_of_a_computed_go_to : refuses 308 1 ("      GO TO (20,10),1" ∷ "      DO 20 I=1,2" ∷ "   20 CONTINUE" ∷ "   10 END" ∷ [])
  jump_to_a_stray_else : refuses 308 1 ("      GO TO 10" ∷ "   10 ELSE" ∷ "      END" ∷ [])
  jump_to_the_own_else : refuses 308 3 ("      IF(.TRUE.)THEN" ∷ "      ELSE IF(.TRUE.)THEN" ∷ "      GO TO 10" ∷ "   10 ELSE" ∷ "      END IF" ∷ "      END" ∷ [])
  jump_into_a_block_without_end : refuses 307 2 ("      GO TO 10" ∷ "      IF(.TRUE.)THEN" ∷ "   10 CONTINUE" ∷ "      END" ∷ [])
  jump_within_a_block_by_logical_if : accepts ("      IF(.TRUE.)THEN" ∷ "      IF(I.EQ.1)GO TO 10" ∷ "   10 CONTINUE" ∷ "      END IF" ∷ "      END" ∷ [])
  jump_to_a_do : accepts ("      GO TO 10" ∷ "   10 DO 20 I=1,2" ∷ "      IF(I.EQ.1)GO TO 10" ∷ "   20 CONTINUE" ∷ "      END" ∷ [])
  label_nowhere_beside_a_wrong_jump : refuses 306 1 ("      IF(1)10,30,10" ∷ "      DO 20 I=1,2" ∷ "   10 CONTINUE" ∷ "   20 CONTINUE" ∷ "      END" ∷ [])
  jump_from_if_to_else_part : refuses 308 4 ("      IF(.TRUE.)THEN" ∷ "   10 CONTINUE" ∷ "      ELSE" ∷ "      GO TO 10" ∷ "      END IF" ∷ "      END" ∷ [])

blocks : Blocks
unfolding reported reported_by reported_of spelled accepts refuses names units_of
blocks = search refl parts 1

-- what a name is used as, and DATA
record Uses : Type 0 where
  dummy_called : refuses 309 2 ("      SUBROUTINE S(K)" ∷ "      CALL K" ∷ "      END" ∷ "      SUBROUTINE K" ∷ "      END" ∷ "      END" ∷ [])
  type_twice_in_one_statement : refuses 309 1 ("      INTEGER I,I" ∷ "      END" ∷ [])
  common_twice_in_one_statement : refuses 309 1 ("      COMMON I,I" ∷ "      END" ∷ [])
  letter_within_a_range : refuses 309 1 ("      IMPLICIT INTEGER (A,B-D,C)" ∷ "      END" ∷ [])
  letter_of_two_types : refuses 309 1 ("      IMPLICIT INTEGER (A),LOGICAL (A)" ∷ "      END" ∷ [])
  variable_after_its_call : refuses 309 2 ("      CALL K" ∷ "      K=1" ∷ "      END" ∷ "      SUBROUTINE K" ∷ "      END" ∷ [])
  asynchronous_variable_beside_a_call : accepts ("      CALL K" ∷ "      $K=1" ∷ "      END" ∷ "      SUBROUTINE K" ∷ "      END" ∷ [])
  list_beside_a_call : names 310 2 (codes "K") ("      CALL K" ∷ "      I=K(1)" ∷ "      END" ∷ "      SUBROUTINE K" ∷ "      END" ∷ [])
  block_and_variable_of_one_name : accepts ("      COMMON /I/ I" ∷ "      END" ∷ [])
  main_program_and_block_of_one_name : refuses 309 2 ("      PROGRAM P" ∷ "      COMMON /P/ I" ∷ "      END" ∷ [])
  block_of_the_name_main : accepts ("      COMMON /MAIN/ I" ∷ "      END" ∷ "      SUBROUTINE S" ∷ "      COMMON /MAIN/ I" ∷ "      END" ∷ [])
  subroutine_of_the_name_main : accepts ("      CALL MAIN" ∷ "      END" ∷ "      SUBROUTINE MAIN" ∷ "      END" ∷ [])
  constant_as_dummy : refuses 309 2 ("      SUBROUTINE S(N)" ∷ "      PARAMETER (N=1)" ∷ "      END" ∷ "      END" ∷ [])
  constant_called : refuses 309 2 ("      PARAMETER (N=1)" ∷ "      CALL N" ∷ "      END" ∷ "      SUBROUTINE N" ∷ "      END" ∷ [])
  constant_assigned_within_logical_if : refuses 309 2 ("      PARAMETER (N=1)" ∷ "      IF(.TRUE.)N=2" ∷ "      END" ∷ [])
  constant_with_a_list_in_data : refuses 309 2 ("      PARAMETER (N=1)" ∷ "      DATA N(1)/5/" ∷ "      END" ∷ [])
  bounds_in_common_too : refuses 309 2 ("      INTEGER I(2)" ∷ "      COMMON I(2)" ∷ "      END" ∷ [])
  bounds_once : accepts ("      INTEGER I(2)" ∷ "      COMMON I" ∷ "      END" ∷ [])
  units_of_one_name_before_the_main_program : refuses 309 3 ("      SUBROUTINE S" ∷ "      END" ∷ "      SUBROUTINE S" ∷ "      END" ∷ "      END" ∷ [])
  dummy_of_the_name_of_its_unit : accepts ("      SUBROUTINE S(S)" ∷ "      INTEGER S" ∷ "      END" ∷ "      END" ∷ [])
  dummies_apart_by_sign : accepts ("      SUBROUTINE S(I,$I)" ∷ "      END" ∷ "      END" ∷ [])
  variable_of_the_name_of_a_function : accepts ("      INTEGER MAX" ∷ "      MAX=MAX(1,2)" ∷ "      END" ∷ [])
  unit_called_that_is_typed_after : refuses 309 3 ("      INTEGER I" ∷ "      CALL K" ∷ "      I=K" ∷ "      END" ∷ "      SUBROUTINE K" ∷ "      END" ∷ [])
  first_of_two_unknown : names 310 1 (codes "J") ("      I=J(K(1))" ∷ "      END" ∷ [])
  assigned_before_the_right_side : names 310 1 (codes "J") ("      J(1)=K(1)" ∷ "      END" ∷ [])
  subroutine_before_its_actual : names 310 1 (codes "T") ("      CALL T(J(1))" ∷ "      END" ∷ [])
  function_assigned : names 310 1 (codes "ABS") ("      ABS(1)=2" ∷ "      END" ∷ [])
  function_in_data : names 310 1 (codes "MAX") ("      DATA MAX(1)/1/" ∷ "      END" ∷ [])
  constant_with_a_list : names 310 2 (codes "N") ("      PARAMETER (N=1)" ∷ "      I=N(1)" ∷ "      END" ∷ [])
  asynchronous_name_of_a_state_function : names 310 1 (codes "$FULL") ("      PRINT *,$FULL(1)" ∷ "      END" ∷ [])
  array_of_the_name_of_a_function : accepts ("      INTEGER MAX(2)" ∷ "      MAX(1)=MAX(2)" ∷ "      END" ∷ [])
  created_without_a_subroutine : names 310 1 (codes "T") ("      IF(.TRUE.)CREATE T" ∷ "      END" ∷ [])
  one_group_too_few_one_too_many : refuses 311 1 ("      DATA I,J/1/,K/1,2/" ∷ "      END" ∷ [])
  groups_without_comma : accepts ("      DATA I,J/2*1/K/-2/" ∷ "      END" ∷ [])
  second_value_of_the_other_type : refuses 311 2 ("      LOGICAL L(2)" ∷ "      DATA L/.TRUE.,1/" ∷ "      END" ∷ [])
  array_after_its_element : refuses 311 3 ("      INTEGER X(2)" ∷ "      DATA X(1)/1/" ∷ "      DATA X/2*1/" ∷ "      END" ∷ [])
  subscript_outside_with_a_number_inside : refuses 311 2 ("      INTEGER X(2,2)" ∷ "      DATA X(3,1)/1/" ∷ "      END" ∷ [])
  repeat_by_no_constant : refuses 311 1 ("      DATA I/N*1/" ∷ "      END" ∷ [])
  array_as_value : refuses 311 2 ("      INTEGER X(2)" ∷ "      DATA I/X/" ∷ "      END" ∷ [])
  data_of_an_asynchronous_element : refuses 311 2 ("      INTEGER $X(2)" ∷ "      DATA $X(1)/1/" ∷ "      END" ∷ [])
  lower_bounds_in_data : accepts ("      INTEGER X(-1:1)" ∷ "      DATA X(-1),X(0),X(1)/1,2,3/" ∷ "      END" ∷ [])
  repeat_and_value_by_constants : accepts ("      PARAMETER (N=2)" ∷ "      INTEGER X(N)" ∷ "      DATA X/N*N/" ∷ "      END" ∷ [])
  data_between_executable_statements : accepts ("      I=1" ∷ "      DATA J/1/" ∷ "      END" ∷ [])
  data_of_a_dummy : refuses 311 2 ("      SUBROUTINE S(I)" ∷ "      DATA I/1/" ∷ "      END" ∷ "      END" ∷ [])
  same_element_by_two_subscripts : refuses 311 2 ("      INTEGER X(2)" ∷ "      DATA X(1+1),X(2)/1,2/" ∷ "      END" ∷ [])
  unknown_list_before_data_violations : names 310 2 (codes "J") ("      INTEGER X(2)" ∷ "      DATA J(1),X/1/" ∷ "      END" ∷ [])
  repeat_at_the_length : accepts ("      INTEGER X(1000)" ∷ "      DATA X/1000*0/" ∷ "      END" ∷ [])
  later_number_in_an_earlier_line : refuses 311 1 ("      DATA I/1,2/" ∷ "      READ=1" ∷ "      END" ∷ [])

uses : Uses
unfolding reported reported_by reported_of spelled accepts refuses names units_of
uses = search refl parts 1

-- units, operands, functions and bounds once more
record More : Type 0 where
  calls_across_units : refuses 304 2 ("      SUBROUTINE S(I)" ∷ "      CALL T(I)" ∷ "      END" ∷ "      CALL S(1)" ∷ "      END" ∷ "      SUBROUTINE T(L)" ∷ "      LOGICAL L" ∷ "      END" ∷ [])
  jump_and_block_in_one_line : refuses 302 2 ("      DO 10 I=1,2" ∷ "   10 IF(I)STOP" ∷ "      END" ∷ [])
  type_twice_the_first_holds : refuses 309 5 ("      CALL S(.TRUE.)" ∷ "      END" ∷ "      SUBROUTINE S(I)" ∷ "      LOGICAL I" ∷ "      INTEGER I" ∷ "      END" ∷ [])
  letter_twice_the_first_holds : refuses 309 5 ("      CALL S(.TRUE.)" ∷ "      END" ∷ "      SUBROUTINE S(A)" ∷ "      IMPLICIT LOGICAL (A)" ∷ "      IMPLICIT INTEGER (A)" ∷ "      END" ∷ [])
  unit_twice_the_first_is_called : refuses 309 5 ("      CALL S(1)" ∷ "      END" ∷ "      SUBROUTINE S(I)" ∷ "      END" ∷ "      SUBROUTINE S" ∷ "      END" ∷ [])
  main_program_of_the_called_name : refuses 309 4 ("      PROGRAM S" ∷ "      CALL S" ∷ "      END" ∷ "      SUBROUTINE S" ∷ "      END" ∷ [])
  blank_common_continued : accepts ("      COMMON I//J" ∷ "      END" ∷ "      SUBROUTINE S" ∷ "      COMMON I,J" ∷ "      END" ∷ [])
  unit_between_without_the_block : refuses 305 6 ("      COMMON /B/ I" ∷ "      END" ∷ "      SUBROUTINE S" ∷ "      END" ∷ "      SUBROUTINE T" ∷ "      COMMON /B/ $I" ∷ "      END" ∷ [])
  inner_range_leaves_its_block : refuses 307 3 ("      DO 10 I=1,2" ∷ "      IF(.TRUE.)THEN" ∷ "      DO 10 J=1,2" ∷ "      END IF" ∷ "   10 CONTINUE" ∷ "      END" ∷ [])
  jump_to_the_outer_terminal : accepts ("      DO 20 I=1,2" ∷ "      DO 10 J=1,2" ∷ "      GO TO 20" ∷ "   10 CONTINUE" ∷ "   20 CONTINUE" ∷ "      END" ∷ [])
  jump_to_the_inner_terminal : refuses 308 2 ("      DO 20 I=1,2" ∷ "      GO TO 10" ∷ "      DO 10 J=1,2" ∷ "   10 CONTINUE" ∷ "   20 CONTINUE" ∷ "      END" ∷ [])
  jump_of_a_shared_terminal_to_itself : accepts ("      DO 10 I=1,2" ∷ "      DO 10 J=1,2" ∷ "   10 IF(I.EQ.J)GO TO 10" ∷ "      END" ∷ [])
  unknown_condition : names 310 1 (codes "J") ("      IF(J(1))STOP" ∷ "      END" ∷ [])
  unknown_operands : names 310 1 (codes "J") ("      PRINT *,.NOT.J(1).AND.K(1).LT.2,-J(1)+1" ∷ "      END" ∷ [])
  unknown_do_parameter : names 310 1 (codes "J") ("      DO 10 I=1,J(1)" ∷ "   10 CONTINUE" ∷ "      END" ∷ [])
  unknown_value_assigned_to_a_logical : names 310 2 (codes "J") ("      LOGICAL L" ∷ "      L=J(1)" ∷ "      END" ∷ [])
  unknown_actual_for_logical : names 310 1 (codes "J") ("      CALL S(J(1))" ∷ "      END" ∷ "      SUBROUTINE S(L)" ∷ "      LOGICAL L" ∷ "      END" ∷ [])
  unknown_subscript : names 310 2 (codes "J") ("      INTEGER X(2)" ∷ "      X(J(1))=1" ∷ "      END" ∷ [])
  function_of_integers_to_a_logical : refuses 302 2 ("      LOGICAL L" ∷ "      L=MAX(1)" ∷ "      END" ∷ [])
  value_of_two_has_the_type_of_the_first : refuses 302 2 ("      LOGICAL $L" ∷ "      I=VALUE($L,$K)" ∷ "      END" ∷ [])
  value_of_two_of_its_type : refuses 303 1 ("      I=VALUE($J,$K)" ∷ "      END" ∷ [])
  no_shape_beside_an_open_bound : refuses 303 1 ("      INTEGER A(MAX(1),3:2)" ∷ "      END" ∷ [])
  value_of_an_expression_has_no_type : refuses 304 2 ("      LOGICAL L" ∷ "      L=VALUE(1)" ∷ "      END" ∷ [])
  full_is_logical_of_anything : refuses 302 1 ("      I=FULL(1)" ∷ "      END" ∷ [])
  second_item_of_purge : refuses 304 1 ("      PURGE $I,J" ∷ "      END" ∷ [])
  power_too_large : refuses 302 1 ("      PARAMETER (N=2**63)" ∷ "      END" ∷ [])
  powers_of_constants : accepts ("      PARAMETER (N=2**62,M=2**(-1),K=0**0)" ∷ "      END" ∷ [])
  power_of_zero_below : refuses 302 1 ("      PARAMETER (N=0**(-1))" ∷ "      END" ∷ [])
  adjustable_shape_of_any_size : accepts ("      SUBROUTINE S(A,N)" ∷ "      INTEGER A(1048577,N)" ∷ "      END" ∷ "      END" ∷ [])
  dummy_shape_too_large : refuses 302 2 ("      SUBROUTINE S(A)" ∷ "      INTEGER A(1048577)" ∷ "      END" ∷ "      END" ∷ [])
  open_bound_in_common : refuses 302 1 ("      COMMON I(*)" ∷ "      END" ∷ [])
  bounds_before_the_type : accepts ("      SUBROUTINE S(A,N)" ∷ "      DIMENSION A(N)" ∷ "      INTEGER A" ∷ "      END" ∷ "      END" ∷ [])
  bound_by_implicit_logical : refuses 302 3 ("      SUBROUTINE S(A,N)" ∷ "      IMPLICIT LOGICAL (N)" ∷ "      INTEGER A(N)" ∷ "      END" ∷ "      END" ∷ [])
  dummy_bound_by_a_later_constant : refuses 302 2 ("      SUBROUTINE S(A)" ∷ "      INTEGER A(N)" ∷ "      PARAMETER (N=2)" ∷ "      END" ∷ "      END" ∷ [])
  common_variable_called : refuses 309 2 ("      COMMON K" ∷ "      CALL K" ∷ "      END" ∷ "      SUBROUTINE K" ∷ "      END" ∷ [])
  call_after_the_variable : refuses 309 2 ("      PRINT *,K" ∷ "      CALL K" ∷ "      END" ∷ "      SUBROUTINE K" ∷ "      END" ∷ [])
  asynchronous_name_counts_its_sign : names 310 1 (codes "$J") ("      I=$J(1)+K(1)" ∷ "      END" ∷ [])
  name_in_a_continuation_line : names 301 1 (codes "A") ("      I=" ∷ "     +A+B" ∷ "      END" ∷ [])
  array_given_to_a_scalar_in_a_longer_list : refuses 303 2 ("      INTEGER X(2)" ∷ "      CALL S(X,X)" ∷ "      END" ∷ "      SUBROUTINE S(I)" ∷ "      END" ∷ [])
  terminal_before_its_do_and_forbidden : refuses 307 1 ("   10 GO TO 20" ∷ "   20 CONTINUE" ∷ "      DO 10 I=1,2" ∷ "      END" ∷ [])
  jump_over_a_second_else : refuses 307 4 ("      IF(.TRUE.)THEN" ∷ "      ELSE" ∷ "      GO TO 10" ∷ "      ELSE" ∷ "   10 CONTINUE" ∷ "      END IF" ∷ "      END" ∷ [])
  assigned_do_variable : accepts ("      DO 10 I=1,2" ∷ "      I=3" ∷ "   10 CONTINUE" ∷ "      END" ∷ [])
  block_named_by_two_units_and_a_header_between : refuses 309 3 ("      COMMON /S/ I" ∷ "      END" ∷ "      SUBROUTINE S" ∷ "      COMMON /S/ I" ∷ "      END" ∷ [])
  value_of_an_asynchronous_array : refuses 304 2 ("      INTEGER $X(2)" ∷ "      PRINT *,VALUE($X)" ∷ "      END" ∷ [])
  data_count_of_a_continued_statement : refuses 311 2 ("      INTEGER X(2)" ∷ "      DATA X(1)/1/," ∷ "     +X(2)/2,3/" ∷ "      END" ∷ [])

more : More
unfolding reported reported_by reported_of spelled accepts refuses names units_of
more = search refl parts 1

-- several violations in one source, and which is reported
record Several : Type 0 where
  unclosed_do_before_the_wrong_jump : refuses 306 1 ("      DO 10 I=1,2" ∷ "      GO TO 20" ∷ "      END" ∷ [])
  test_within_an_unknown_call : refuses 304 1 ("      CALL T(FULL(I))" ∷ "      END" ∷ [])
  test_within_an_unknown_list : refuses 304 1 ("      I=J(VALUE(K))" ∷ "      END" ∷ [])
  jump_to_end_if_from_its_else : accepts ("      IF(.TRUE.)THEN" ∷ "      GO TO 10" ∷ "      ELSE" ∷ "      I=1" ∷ "   10 END IF" ∷ "      END" ∷ [])
  doubled_division_by_constants : refuses 302 2 ("      PARAMETER (N=0)" ∷ "      PARAMETER (M=1/N)" ∷ "      END" ∷ [])
  data_subscript_that_faults : refuses 302 3 ("      PARAMETER (N=0)" ∷ "      INTEGER X(2)" ∷ "      DATA X(1/N)/1/" ∷ "      END" ∷ [])
  data_subscript_by_a_test : refuses 302 2 ("      INTEGER X(2)" ∷ "      DATA X(VALUE($I))/1/" ∷ "      END" ∷ [])
  logical_bound_of_a_dummy : refuses 302 2 ("      SUBROUTINE S(A,N)" ∷ "      INTEGER A(N.EQ.1)" ∷ "      END" ∷ "      END" ∷ [])
  constant_assigned_by_do : refuses 307 2 ("      PARAMETER (N=1)" ∷ "      DO 10 N=1,2" ∷ "   10 CONTINUE" ∷ "      END" ∷ [])
  crossing_three : refuses 307 2 ("      DO 10 I=1,2" ∷ "      DO 20 J=1,2" ∷ "      DO 30 K=1,2" ∷ "   10 CONTINUE" ∷ "   30 CONTINUE" ∷ "   20 CONTINUE" ∷ "      END" ∷ [])
  label_of_another_do_in_between : refuses 307 3 ("      DO 20 I=1,2" ∷ "      DO 10 J=1,2" ∷ "      DO 20 K=1,2" ∷ "   10 CONTINUE" ∷ "   20 CONTINUE" ∷ "      END" ∷ [])
  jump_into_the_range_from_its_do_region : accepts ("      DO 20 I=1,2" ∷ "   10 IF(I.EQ.1)GO TO 20" ∷ "   20 CONTINUE" ∷ "      GO TO 30" ∷ "   30 END" ∷ [])
  jump_back_into_a_range_after_it : refuses 308 3 ("      DO 20 I=1,2" ∷ "   20 CONTINUE" ∷ "      GO TO 20" ∷ "      END" ∷ [])
  jump_back_into_a_range_by_a_terminal_logical_if : refuses 308 4 ("      DO 20 I=1,2" ∷ "   10 CONTINUE" ∷ "   20 CONTINUE" ∷ "      IF(.TRUE.)GO TO 10" ∷ "      END" ∷ [])
  jump_and_call_in_one_unit_by_line : names 310 1 (codes "T") ("      CALL T" ∷ "      GO TO 10" ∷ "      END" ∷ [])
  bounds_twice_in_a_later_unit : refuses 309 5 ("      COMMON /B/ I(2)" ∷ "      END" ∷ "      SUBROUTINE S" ∷ "      COMMON /B/ J(2)" ∷ "      DIMENSION J(2)" ∷ "      END" ∷ [])
  common_twice_in_a_later_unit : refuses 309 4 ("      COMMON /B/ I,J" ∷ "      END" ∷ "      SUBROUTINE S" ∷ "      COMMON /B/ I,J,I" ∷ "      END" ∷ [])
  bound_by_a_later_constant : refuses 302 5 ("      COMMON /B/ I(2)" ∷ "      END" ∷ "      SUBROUTINE S" ∷ "      COMMON /B/ A" ∷ "      INTEGER A(N)" ∷ "      PARAMETER (N=3)" ∷ "      END" ∷ [])
  bound_of_the_other_type : refuses 302 5 ("      COMMON /B/ I(2)" ∷ "      END" ∷ "      SUBROUTINE S" ∷ "      COMMON /B/ A" ∷ "      INTEGER A(.TRUE.:5)" ∷ "      END" ∷ [])
  constant_of_the_other_type : refuses 302 5 ("      COMMON /B/ I(2)" ∷ "      END" ∷ "      SUBROUTINE S" ∷ "      COMMON /B/ A" ∷ "      PARAMETER (N=3+.TRUE.)" ∷ "      INTEGER A(N)" ∷ "      END" ∷ [])
  constant_by_a_wrong_count : refuses 303 5 ("      COMMON /B/ I(2)" ∷ "      END" ∷ "      SUBROUTINE S" ∷ "      COMMON /B/ A" ∷ "      PARAMETER (N=MAX(3))" ∷ "      INTEGER A(N)" ∷ "      END" ∷ [])
  constant_untyped : names 301 5 (codes "X") ("      COMMON /B/ I(2)" ∷ "      END" ∷ "      SUBROUTINE S" ∷ "      COMMON /B/ K" ∷ "      PARAMETER (X=3)" ∷ "      INTEGER K(X)" ∷ "      END" ∷ [])
  unknown_asynchronous_list_for_asynchronous : names 310 1 (codes "$J") ("      CALL S($J(1))" ∷ "      END" ∷ "      SUBROUTINE S($I)" ∷ "      END" ∷ [])
  unknown_list_for_asynchronous : names 310 1 (codes "J") ("      CALL S(J(1))" ∷ "      END" ∷ "      SUBROUTINE S($I)" ∷ "      END" ∷ [])
  shape_by_a_wrong_count : refuses 303 1 ("      INTEGER I(MOD(5))" ∷ "      END" ∷ [])
  division_by_a_wrong_count : refuses 303 1 ("      PARAMETER (N=1/MOD(5))" ∷ "      END" ∷ [])
  called_name_as_value_in_data : refuses 311 2 ("      CALL K" ∷ "      DATA I/K/" ∷ "      END" ∷ "      SUBROUTINE K" ∷ "      END" ∷ [])
  constant_with_bounds_after_a_use : refuses 302 2 ("      PARAMETER (N=1)" ∷ "      INTEGER M(N)" ∷ "      DIMENSION N(2)" ∷ "      END" ∷ [])
  common_twice_in_two_blocks : refuses 309 5 ("      COMMON /B/ I,/C/ J" ∷ "      END" ∷ "      SUBROUTINE S" ∷ "      COMMON /B/ I" ∷ "      COMMON /C/ I,K" ∷ "      END" ∷ [])
  constant_by_a_refused_one : refuses 303 1 ("      PARAMETER (N=MAX(3),M=1/(N-3))" ∷ "      END" ∷ [])
  terminal_of_a_do_in_a_logical_if : refuses 307 2 ("   10 STOP" ∷ "      IF(.TRUE.)DO 10 I=1,2" ∷ "      END" ∷ [])
  fault_beside_a_wrong_count : refuses 302 1 ("      PARAMETER (N=MAX(1)+1/0)" ∷ "      END" ∷ [])
  fault_in_a_list_of_a_wrong_count : refuses 302 1 ("      PARAMETER (N=MOD(1/0))" ∷ "      END" ∷ [])
  fault_beside_a_refused_constant : refuses 302 1 ("      PARAMETER (N=MOD(5),M=1/0+N)" ∷ "      END" ∷ [])
  value_beside_a_wrong_count : refuses 303 1 ("      PARAMETER (N=MAX(1)*(1/2))" ∷ "      END" ∷ [])
  jump_into_a_block_before_else_without_end : refuses 308 1 ("      GO TO 10" ∷ "      IF(.TRUE.)THEN" ∷ "   10 CONTINUE" ∷ "      ELSE" ∷ "      END" ∷ [])
  jump_after_else_without_end : refuses 307 2 ("      GO TO 10" ∷ "      IF(.TRUE.)THEN" ∷ "      ELSE" ∷ "   10 CONTINUE" ∷ "      END" ∷ [])
  variable_beside_a_wrong_count_in_a_constant : refuses 302 1 ("      PARAMETER (N=MOD(5)+J)" ∷ "      END" ∷ [])
  variable_beside_a_wrong_count_in_a_bound : refuses 302 1 ("      INTEGER I(MOD(5)+J)" ∷ "      END" ∷ [])
  constant_by_an_element : refuses 302 2 ("      INTEGER K(2)" ∷ "      PARAMETER (N=K(1))" ∷ "      END" ∷ [])
  bound_of_a_dummy_by_a_division_by_zero : refuses 302 3 ("      END" ∷ "      SUBROUTINE S(K)" ∷ "      PARAMETER (N=1/0)" ∷ "      INTEGER K(N)" ∷ "      END" ∷ [])
  bounds_in_common_too_in_a_later_unit : refuses 309 5 ("      COMMON /B/ I(2)" ∷ "      END" ∷ "      SUBROUTINE S" ∷ "      INTEGER J(2)" ∷ "      COMMON /B/ J(2)" ∷ "      END" ∷ [])

several : Several
unfolding reported reported_by reported_of spelled accepts refuses names units_of
several = search refl parts 1

-- ---- frames

cells_by : {E : Type 0} → Result Units E → List ℕ
cells_by (Ok program) = map_cells program where
  map_cells : Units → List ℕ
  map_cells [] = []
  map_cells (u ∷ us) = frame_cells u ∷ map_cells us
cells_by (Err e) = []

cells_of_counters_in_common : cells_by (units_of ("      PROGRAM P" ∷ "      CREATE S" ∷ "      CREATE S" ∷ "      END" ∷ "      SUBROUTINE S" ∷ "      COMMON N" ∷ "      DO 10 I=1,1000" ∷ "   10 N=I" ∷ "      END" ∷ [])) ≡ 1 ∷ 4 ∷ []
unfolding cells_by units_of
cells_of_counters_in_common = refl

cells_of_an_adjustable_array : cells_by (units_of ("      SUBROUTINE S(A,B,N,M)" ∷ "      INTEGER A(N,*),B(2,*),C(3,2),$D(2),$E" ∷ "      DO 10 I=1,2" ∷ "   10 CONTINUE" ∷ "      END" ∷ "      END" ∷ [])) ≡ 25 ∷ 1 ∷ []
unfolding cells_by units_of
cells_of_an_adjustable_array = refl

cells_of_a_typed_function : cells_by (units_of ("      INTEGER ABS" ∷ "      I=ABS(1)" ∷ "      END" ∷ [])) ≡ 3 ∷ []
unfolding cells_by units_of
cells_of_a_typed_function = refl

cells_of_an_array_by_a_constant : cells_by (units_of ("      PARAMETER (N=3)" ∷ "      INTEGER X(N)" ∷ "      DATA X/N*N/" ∷ "      END" ∷ [])) ≡ 4 ∷ []
unfolding cells_by units_of
cells_of_an_array_by_a_constant = refl

cells_of_an_actual_alone : cells_by (units_of ("      CALL S(K)" ∷ "      END" ∷ "      SUBROUTINE S(J)" ∷ "      END" ∷ [])) ≡ 2 ∷ 3 ∷ []
unfolding cells_by units_of
cells_of_an_actual_alone = refl

cells_by_lower_bound_alone : cells_by (units_of ("      END" ∷ "      SUBROUTINE S(A,N)" ∷ "      INTEGER A(N:5,3)" ∷ "      END" ∷ [])) ≡ 1 ∷ 9 ∷ []
unfolding cells_by units_of
cells_by_lower_bound_alone = refl

cells_of_open_array : cells_by (units_of ("      END" ∷ "      SUBROUTINE S(A)" ∷ "      INTEGER A(2:*)" ∷ "      END" ∷ [])) ≡ 1 ∷ 3 ∷ []
unfolding cells_by units_of
cells_of_open_array = refl

cells_of_common_and_a_label_alone : cells_by (units_of ("      COMMON I,J(5)" ∷ "   10 K=I" ∷ "      END" ∷ [])) ≡ 2 ∷ []
unfolding cells_by units_of
cells_of_common_and_a_label_alone = refl
