-- DOs and block IFs that aren't nested, by events and by variables (X3.9-1978, 11.10.1).
use Rattle.std.specs.Prelude.{ℕ, suc, Bool, false, nat_le, max, if◌then◌else◌, List, [], ◌∷◌, ◌++◌, map, Option, Some, None, option_to_list}
use Rattle.std.specs.Option.{unwrap_or}
use Rattle.hep_machine.specs.Words.{Name, Statement, same_name, line_at}
use Rattle.hep_conditions.specs.Nesting as nesting
use Rattle.hep_conditions.specs.Words.{line_when}
use Rattle.hep_control.specs.declared.blocks.BlockIf.{BlockIf}
use Rattle.hep_control.specs.declared.region.DoRange.{DoRange}
use Rattle.hep_control.specs.declared.sweep.Event.{Event}
use Rattle.hep_control.specs.declared.sweep.Event.TheVariants.{Value, Question}

-- ---- ranges in which a DO or a block IF begins but doesn't end

-- a range as a value: its key is the DO, and its value the terminal statement
abbrev pub value_of_range : DoRange → Event
value_of_range r = Value r.start r.terminal

-- the question whether an earlier range contains this DO and ends before its range ends
abbrev pub question_of_range : List Statement → DoRange → Event
question_of_range unit r = Question r.start r.start r.terminal (line_at unit r.start)

-- the question whether a range contains the beginning of this block IF and ends before it ends; a block IF without an END IF crosses none
abbrev pub question_of_block : List Statement → BlockIf → Event
question_of_block unit b = Question b.start b.start (unwrap_or b.end 0) (line_at unit b.start)

-- ---- blocks in which a range begins but doesn't end

-- the beginning of a block IF and the end of one of its blocks
pub record BlockEnd : Type 0 where
  pub start : ℕ
  pub end : ℕ

abbrev pub ends_from : ℕ → List ℕ → Option ℕ → List BlockEnd
ends_from start [] None = []
ends_from start [] (Some end) = record { start = start; end = end } ∷ []
ends_from start (k ∷ ks) end = record { start = start; end = k } ∷ ends_from start ks end

abbrev pub ends_in : BlockIf → List BlockEnd
ends_in b = ends_from b.start b.divisions.items b.end

abbrev pub value_of_end : BlockEnd → Event
value_of_end e = Value e.start e.end

abbrev pub values_in : BlockIf → List Event
values_in b = map value_of_end (ends_in b)

-- the question whether a block of an earlier block IF ends in the range of this DO
abbrev pub question_in_range : List Statement → DoRange → Event
question_in_range unit r = Question r.start (suc r.start) (suc r.terminal) (line_at unit r.start)

-- ---- ranges of one variable

-- the later of two terminal statements, where there is an earlier one
abbrev pub later : Option ℕ → ℕ → ℕ
later None t = t
later (Some s) t = max s t

-- the last terminal statement of the ranges of each variable, with one more range
abbrev pub with_range : (Name → Option ℕ) → nesting.DoRange → Name → Option ℕ
with_range last r x = if same_name r.variable x then Some (later (last r.variable) r.terminal) else last x

abbrev pub reaches : Option ℕ → ℕ → Bool
reaches None k = false
reaches (Some t) k = nat_le k t

-- the lines of all such DOs
abbrev pub lines_shared : List Statement → (Name → Option ℕ) → List nesting.DoRange → List ℕ
lines_shared unit last [] = []
lines_shared unit last (r ∷ rs) =
    option_to_list (line_when (reaches (last r.variable) r.start) (line_at unit r.start)) ++ lines_shared unit (with_range last r) rs
