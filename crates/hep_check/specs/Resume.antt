-- The statements that violate 312: docs/LANGUAGE.md, 9.
use Rattle.std.specs.Prelude.{Bool, ◌&&◌, List}
use Rattle.std.specs.Option.{is_none}
use Rattle.hep_machine.specs.Words.{Statement, subroutine_name}
use Rattle.hep_conditions.specs.Words.{is_resume}

-- whether a statement is a RESUME in a unit that is no subroutine
abbrev pub is_misplaced : List Statement → Statement → Bool
is_misplaced unit s = is_resume s.form && is_none (subroutine_name unit)
