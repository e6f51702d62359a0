-- Worked sources: for each warning one that gets it, and a neighbour of which nothing is said. tests/cases/warnings has more of each.
use Rattle.std.specs.Prelude.{◌≡◌, ℕ, codes, List, [], ◌∷◌, Result, Ok, Err, refl}
use Prim.Native.String.{String}
use Rattle.std.specs.Fmt.{digits}
use Rattle.hep_machine.specs.Words.{Units}
use Rattle.hep_warnings.specs.Lines.{warning_text}
use Rattle.hep_warnings.specs.Warnings.{warnings}
use Rattle.hep_worked.proofs.Sources.{text_of, units_of}

-- the lines of the warnings of a source
unfoldable warned_by : {E : Type 0} → List ℕ → Result Units E → List ℕ
warned_by source (Ok program) = warning_text (warnings source program)
warned_by source (Err e) = codes "UNREAD"

unfoldable says : List String → List String → Type 0
says lines said = warned_by (text_of lines) (units_of lines) ≡ text_of said

unfoldable silent : List String → Type 0
silent lines = warned_by (text_of lines) (units_of lines) ≡ []

record Warned : Type 0 where
  -- what stands behind column 72
  behind_column_72 : says ("      PRINT *,1                                                         Z" ∷ "      END" ∷ [])
      ("WARNING LINE 1 BEHIND COLUMN 72" ∷ [])
  in_column_72 : silent ("      PRINT *,1                                                        2" ∷ "      END" ∷ [])
  -- labels
  label_that_nothing_uses : says ("   10 PRINT *,1" ∷ "      END" ∷ []) ("WARNING LINE 1 LABEL 10 UNUSED" ∷ [])
  label_of_a_go_to : silent ("   10 PRINT *,1" ∷ "      GO TO 10" ∷ "      END" ∷ [])
  -- subroutines and functions
  subroutine_that_nothing_calls : says ("      END" ∷ "      SUBROUTINE S" ∷ "      END" ∷ []) ("WARNING LINE 2 UNIT S UNUSED" ∷ [])
  subroutine_that_is_created : silent ("      CREATE S" ∷ "      END" ∷ "      SUBROUTINE S" ∷ "      END" ∷ [])
  function_that_nothing_refers_to : says ("      END" ∷ "      FUNCTION N(I)" ∷ "      N=I" ∷ "      END" ∷ [])
      ("WARNING LINE 2 UNIT N UNUSED" ∷ [])
  -- variables of DOs that are passed to processes
  variable_of_a_do_passed : says ("      DO 10 I=1,3" ∷ "   10 CREATE S(I)" ∷ "      END" ∷ "      SUBROUTINE S(I)" ∷ "      PRINT *,I"
      ∷ "      END" ∷ []) ("WARNING LINE 2 CREATE S PASSES I OF A DO" ∷ [])
  its_value_passed : silent ("      DO 10 I=1,3" ∷ "   10 CREATE S((I))" ∷ "      END" ∷ "      SUBROUTINE S(I)" ∷ "      PRINT *,I"
      ∷ "      END" ∷ [])
  -- names that are used once
  misspelled_name : says ("      NUMBER=1" ∷ "      PRINT *,NUMBRE" ∷ "      END" ∷ []) ("WARNING LINE 1 NAME NUMBER USED ONCE"
      ∷ "WARNING LINE 2 NAME NUMBRE USED ONCE" ∷ [])
  name_used_twice : silent ("      NUMBER=1" ∷ "      PRINT *,NUMBER" ∷ "      END" ∷ [])
  -- full and empty variables that nothing fills
  read_and_never_filled : says ("      INTEGER $X" ∷ "      PRINT *,$X" ∷ "      END" ∷ []) ("WARNING LINE 1 NAME $X NEVER FILLED" ∷ [])
  filled_and_read : silent ("      INTEGER $X" ∷ "      $X=1" ∷ "      PRINT *,$X" ∷ "      END" ∷ [])
  -- and those that nothing reads
  filled_and_never_read : says ("      INTEGER $X" ∷ "      $X=1" ∷ "      END" ∷ []) ("WARNING LINE 1 NAME $X NEVER READ" ∷ [])
  filled_and_looked_at : silent ("      $N=1" ∷ "      PRINT *,FULL($N)" ∷ "      END" ∷ [])
  -- several of a source
  by_line_and_kind : says ("   10 NUMBER=1                                                          Z" ∷ "      DO 20 I=1,2"
      ∷ "   20 CREATE S(I)" ∷ "      END" ∷ "   30 SUBROUTINE T" ∷ "      END" ∷ "      SUBROUTINE S(I)" ∷ "      PRINT *,I" ∷ "      END"
      ∷ []) ("WARNING LINE 1 BEHIND COLUMN 72" ∷ "WARNING LINE 1 LABEL 10 UNUSED" ∷ "WARNING LINE 1 NAME NUMBER USED ONCE"
      ∷ "WARNING LINE 3 CREATE S PASSES I OF A DO" ∷ "WARNING LINE 5 LABEL 30 UNUSED" ∷ "WARNING LINE 5 UNIT T UNUSED" ∷ [])

warned_rows : Warned
unfolding warned_by says silent units_of digits
warned_rows = search refl parts 1
