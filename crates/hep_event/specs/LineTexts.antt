-- The words of a step's line, by names, numbers and values: docs/RUNS.md, "What each step did".
use Rattle.std.specs.Prelude.{ℕ, Bool, true, false, List, [], ◌∷◌, ◌++◌, codes, Option, Some, None}
use Rattle.std.specs.Fmt.{decimal}
use Rattle.hep_machine.specs.declared.record.Item.{Item}
use Rattle.hep_output.specs.Records.{items_text}
use Rattle.hep_source.specs.declared.function.PureFunction.{PureFunction}
use Rattle.hep_source.specs.declared.function.StateFunction.{StateFunction}
use Rattle.hep_source.specs.declared.operator.Operator.{Operator}
use Rattle.hep_source.specs.declared.operator.Sign.{Sign}
use Rattle.hep_source.specs.declared.value.Value.{Value}
use Rattle.hep_state_text.specs.Values.{state_text}
use Rattle.hep_event.specs.ValueTexts.{function_text, list_text, operator_text, sign_text, state_function_text, value_text, verb}

-- the entry and its process
abbrev pub entry_text : ℕ → ℕ → List ℕ
entry_text entry process = decimal entry ++ codes " PROCESS " ++ decimal process ++ codes " "

-- the place: a unit of this name, and a line
abbrev pub where_text : List ℕ → ℕ → List ℕ
where_text unit line = unit ++ codes " LINE " ++ decimal line ++ codes " "

abbrev pub head_text : ℕ → ℕ → List ℕ → ℕ → List ℕ
head_text entry process unit line = entry_text entry process ++ where_text unit line

-- ---- values that are found

-- after the word for where it comes from
abbrev pub given_text : Value → List ℕ
given_text v = codes " = " ++ value_text v

abbrev pub signed_text : Sign → Value → Value → List ℕ
signed_text s x v = codes "sign " ++ sign_text s ++ codes " " ++ value_text x ++ given_text v

abbrev pub negated_text : Value → Value → List ℕ
negated_text x v = codes "negate .NOT. " ++ value_text x ++ given_text v

abbrev pub combined_text : Operator → Value → Value → Value → List ℕ
combined_text o x y v = verb o ++ value_text x ++ codes " " ++ operator_text o ++ codes " " ++ value_text y ++ given_text v

abbrev pub applied_text : PureFunction → List Value → Value → List ℕ
applied_text f xs v = codes "apply " ++ function_text f ++ list_text xs ++ given_text v

-- ---- cells

-- a variable or an element by its name in the unit
abbrev pub reference_text : List ℕ → List Value → List ℕ
reference_text name subscripts = name ++ list_text subscripts

-- its place, where that has to be named
abbrev pub place_text : Option (List ℕ) → List ℕ
place_text None = []
place_text (Some place) = codes " [" ++ place ++ codes "]"

-- a read: of an asynchronous variable it takes the value and empties the cell
abbrev pub read_verb : Bool → List ℕ
read_verb true = codes "take "
read_verb false = codes "read "

-- an assignment: of an asynchronous variable it fills an empty cell
abbrev pub store_verb : Bool → List ℕ
store_verb true = codes "fill "
store_verb false = codes "store "

abbrev pub accessed_text : List ℕ → List ℕ → Value → Option (List ℕ) → List ℕ
accessed_text action reference v place = action ++ reference ++ given_text v ++ place_text place

abbrev pub tested_text : StateFunction → List ℕ → Value → Option (List ℕ) → List ℕ
tested_text f reference v place = codes "ask " ++ state_function_text f ++ codes "(" ++ reference ++ codes ")" ++ given_text v ++ place_text place

abbrev pub references_text : List (List ℕ) → List ℕ
references_text [] = []
references_text (r ∷ rs) = codes " " ++ r ++ references_text rs

abbrev pub purged_text : List (List ℕ) → List ℕ
purged_text references = codes "purge" ++ references_text references

-- ---- the process waits, or a fault

abbrev pub waits_text : Bool → List ℕ → List ℕ
waits_text full place = codes "waits FOR" ++ state_text full ++ codes " " ++ place

abbrev pub fault_text : List ℕ → List ℕ
fault_text kind = codes "FAULT " ++ kind

-- ---- where the process goes

-- to the statement that begins at a line
abbrev pub jump_text : ℕ → List ℕ
jump_text line = codes "go to LINE " ++ decimal line

abbrev pub choice_text : ℕ → Value → List ℕ
choice_text labels v = codes "choose " ++ value_text v ++ codes " of " ++ decimal labels

abbrev pub branch_text : Value → List ℕ
branch_text v = codes "branch by " ++ value_text v

abbrev pub condition_text : Value → List ℕ
condition_text v = codes "test " ++ value_text v

-- a DO with its variable, initial value, limit and increment
abbrev pub loop_text : List ℕ → Value → Value → Value → List ℕ
loop_text variable m n k =
    codes "begin DO " ++ variable ++ codes " = " ++ value_text m ++ codes ", " ++ value_text n ++ codes ", " ++ value_text k

abbrev pub next_text : List ℕ → Value → List ℕ
next_text variable v = codes "next " ++ variable ++ given_text v

abbrev pub stop_text : List ℕ
stop_text = codes "stop"

-- ---- activations and processes

abbrev pub named_text : List ℕ → ℕ → List ℕ
named_text unit activation = unit ++ codes " as " ++ decimal activation

-- an activation of a unit of this name begins on the process
abbrev pub call_text : List ℕ → ℕ → List ℕ
call_text unit activation = codes "calls " ++ named_text unit activation

-- and as a process of its own
abbrev pub create_text : ℕ → List ℕ → ℕ → List ℕ
create_text process unit activation = codes "creates " ++ decimal process ++ codes " " ++ named_text unit activation

-- the last activation of a process ends, or one that is above another
abbrev pub end_text : Bool → List ℕ
end_text true = codes "ends"
end_text false = codes "returns"

abbrev pub answer_text : List ℕ → Value → List ℕ
answer_text unit v = codes "returns " ++ unit ++ given_text v

-- a subroutine goes on as another process, or was one already
abbrev pub resume_text : Option ℕ → List ℕ
resume_text None = codes "resumes"
resume_text (Some process) = codes "resumes" ++ codes " as " ++ decimal process

abbrev pub print_text : List Item → List ℕ
print_text items = codes "print " ++ items_text false items

-- ---- other effects of the step

-- a number after others
abbrev pub further_text : ℕ → List ℕ
further_text n = codes ", " ++ decimal n

abbrev pub numbers_text : List ℕ → List ℕ
numbers_text [] = []
numbers_text (n ∷ ns) = further_text n ++ numbers_text ns

-- processes that have stopped waiting
abbrev pub woken_text : List ℕ → List ℕ
woken_text [] = []
woken_text (p ∷ ps) = codes ", wakes " ++ decimal p ++ numbers_text ps

-- an activation whose frame was given back
abbrev pub freed_text : ℕ → List ℕ
freed_text activation = codes ", frame of " ++ decimal activation ++ codes " given back"

abbrev pub all_freed_text : List ℕ → List ℕ
all_freed_text [] = []
all_freed_text (a ∷ activations) = freed_text a ++ all_freed_text activations
