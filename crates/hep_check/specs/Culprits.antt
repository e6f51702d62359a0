-- What in a statement violates a condition: docs/MACHINE.md, "Notes".
use Rattle.std.specs.Prelude.{ℕ, Bool, not, ◌&&◌, ◌||◌, nat_eq, find, if◌then◌else◌, List, [], ◌∷◌, ◌++◌, Option, Some, None, is_some}
use Rattle.std.specs.Option.{option_map}
use Rattle.hep_source.specs.declared.statement.Form.TheVariants as form
use Rattle.hep_machine.specs.Words.{Form, Name, Occurrence, Statement, Target, Units, function_called, function_named, is_external, subroutine_called}
use Rattle.hep_conditions.specs.declared.violation.Violation.{Violation}
use Rattle.hep_conditions.specs.Words.{Calling, FunctionTypes, NameWithList, calls_in, fits_call, function_types, is_call_counted, is_counted, is_reference_counted, names_with_lists, targets_of_jump, targets_purged, terminal_labels}
use Rattle.hep_types.specs.CallPasses.{is_given, is_purgeable}
use Rattle.hep_conditions.specs.Nesting as nesting
use Rattle.hep_check.specs.declared.culprit.Culprit.{Culprit}
use Rattle.hep_check.specs.declared.culprit.Culprit.TheVariants as culprit
use Rattle.hep_check.specs.NameClashes.{ambiguous_name}
use Rattle.hep_check.specs.FormCulprits.{mistyped}
use Rattle.hep_check.specs.SoleNames as lone
use Rattle.hep_check.specs.ExpressionCulprits.{Found, either}
use Rattle.hep_control.specs.Labels.{is_absent}

abbrev pub a_name : Occurrence → Culprit
a_name p = culprit.Name p

abbrev pub a_label : ℕ → Culprit
a_label l = culprit.Label l

-- ---- the first of several that fails a test

abbrev pub first_unmet : (NameWithList → Bool) → List NameWithList → Found
first_unmet test rs = option_map (λ (r : NameWithList). r.occurrence) (find (λ r. not (test r)) rs)

abbrev pub first_call_unmet : (Calling → Bool) → List Calling → Found
first_call_unmet test cs = option_map (λ (c : Calling). c.occurrence) (find (λ c. not (test c)) cs)

abbrev pub first_target_unmet : (Target → Bool) → List Target → Found
first_target_unmet test ts = option_map (λ (t : Target). t.occurrence) (find (λ t. not (test t)) ts)

-- ---- 303

abbrev pub is_list_counted : Units → List Statement → NameWithList → Bool
is_list_counted program unit r = is_counted unit r && is_reference_counted program unit r

-- the called subroutine, or else the first name with a list, whose number of arguments is wrong
abbrev pub miscounted : Units → List Statement → Statement → Found
miscounted program unit s =
    either (first_call_unmet (is_call_counted program) (calls_in s.form)) (first_unmet (is_list_counted program unit) (names_with_lists s))

-- ---- 304

-- the called subroutine whose arguments don't fit, or else the first such name with a list, or else the first target that may not be purged
abbrev pub misfit : Units → List Statement → Statement → Found
misfit program unit s =
    either (first_call_unmet (fits_call (function_types program) program unit) (calls_in s.form))
    (either (first_unmet (is_given program unit) (names_with_lists s)) (first_target_unmet (is_purgeable unit) (targets_purged s.form)))

-- ---- 306 and 308

abbrev pub or_own : Option ℕ → Option ℕ → Option ℕ
or_own (Some l) own = Some l
or_own None own = own

-- the first label to which a statement refers and which no executable statement has, or else the statement's own label
abbrev pub absent_label : List Statement → Statement → Option ℕ
absent_label unit s = or_own (find (is_absent unit) (targets_of_jump s.form ++ terminal_labels s.form)) s.label

abbrev pub target_label : Form → Option ℕ
target_label (form.GoTo l) = Some l
target_label _ = None

-- ---- 307

abbrev pub is_loop_variable : FunctionTypes → List Statement → Name → Bool
is_loop_variable functions unit x = nesting.is_loop_variable functions unit x

-- the variable of a DO where it may not be a DO variable, or else the label of its terminal statement; for another statement its own label
abbrev pub structure_by_form : FunctionTypes → List Statement → Option ℕ → Form → Option Culprit
structure_by_form functions unit own (form.Do c) =
    if is_loop_variable functions unit c.variable.name then Some (culprit.Label c.terminal) else Some (culprit.Name c.variable)
structure_by_form functions unit own _ = option_map a_label own

abbrev pub structure_culprit : FunctionTypes → List Statement → Statement → Option Culprit
structure_culprit functions unit s = structure_by_form functions unit s.label s.form

-- ---- 301 and 310

-- whether a name is that of a function of the program or of the language
abbrev pub is_function : Units → Name → Bool
is_function program x = is_some (function_called program x) || not (is_external (function_named x))

-- the culprit of a misused name, by what the name is
abbrev pub misused : Units → Occurrence → Culprit
misused program p =
    if is_function program p.name then culprit.Function p
    else (if is_some (subroutine_called program p.name) then culprit.Subroutine p else culprit.Name p)

abbrev pub named_culprit : Units → ℕ → Occurrence → Culprit
named_culprit program number p = if nat_eq number 310 then misused program p else culprit.Name p

-- ---- all of them

-- the part of a statement of a unit at fault, by the number of the condition
abbrev pub culprit_in : Units → List Statement → Statement → ℕ → Option Culprit
culprit_in program unit s number =
    if nat_eq number 302 then option_map a_name (mistyped (function_types program) unit s)
    else (if nat_eq number 303 then option_map a_name (miscounted program unit s)
    else (if nat_eq number 304 then option_map a_name (misfit program unit s)
    else (if nat_eq number 305 then lone.lone_block s.form
    else (if nat_eq number 306 then option_map a_label (absent_label unit s)
    else (if nat_eq number 307 then structure_culprit (function_types program) unit s
    else (if nat_eq number 308 then option_map a_label (target_label s.form)
    else (if nat_eq number 309 then option_map a_name (ambiguous_name program unit s)
    else (if nat_eq number 311 then option_map a_name (lone.lone_target s.form)
    else (if nat_eq number 312 then option_map a_name (lone.unit_header unit)
    else None)))))))))

abbrev pub is_at : ℕ → Statement → Bool
is_at line s = nat_eq s.line line

-- the part at fault in the statement of a unit, if there is one at the line, or else the one found in another unit
abbrev pub culprit_of_found : Units → List Statement → ℕ → Option Statement → Option Culprit → Option Culprit
culprit_of_found program unit number None other = other
culprit_of_found program unit number (Some s) other = culprit_in program unit s number

-- the part at fault in the first of these units that has a statement at the line of the violation
abbrev pub culprit_among : Units → Violation → Units → Option Culprit
culprit_among program v [] = None
culprit_among program v (unit ∷ units) =
    culprit_of_found program unit v.number (find (is_at v.line) unit) (culprit_among program v units)

-- the part at fault in a violation: its name, if it has one, or else that in the statement at its line
abbrev pub culprit_by : Units → Violation → Option Name → Option Culprit
culprit_by program v (Some x) = Some (named_culprit program v.number (record { name = x; position = v.position }))
culprit_by program v None = culprit_among program v program

abbrev pub culprit_of : Units → Violation → Option Culprit
culprit_of program v = culprit_by program v v.name
