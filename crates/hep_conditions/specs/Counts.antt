-- Condition 303, on the number of arguments (X3.9-1978, 15.6.2.3 and 15.10).
use Rattle.std.specs.Prelude.{ℕ, Bool, true, not, ◌&&◌, ◌||◌, nat_eq, nat_le, List, length, Option, Some, None}
use Rattle.std.specs.List.{flat_map, list_all}
use Rattle.hep_machine.specs.Words.{PureFunction, AbsoluteValue, Remainder, TransferOfSign, PositiveDifference, Largest, Smallest, Statement, Meaning, element, pure, state, external, listed_meaning, Units, unit_at, subroutine_called, function_called, is_external, dummies_of}
use Rattle.hep_conditions.specs.Statements.{count_of, NameWithList, names_with_lists, Calling, calls_in}
use Rattle.hep_conditions.specs.Violations.{Violations, at_line, when}

-- ---- functions: 15.10

abbrev pub takes : PureFunction → ℕ → Bool
takes AbsoluteValue n = nat_eq n 1
takes Remainder n = nat_eq n 2
takes TransferOfSign n = nat_eq n 2
takes PositiveDifference n = nat_eq n 2
takes Largest n = nat_le 2 n
takes Smallest n = nat_le 2 n

abbrev pub takes_list : Meaning → ℕ → Bool
takes_list element n = true
takes_list (pure f) n = takes f n
takes_list (state f) n = nat_eq n 1
takes_list external n = true

abbrev pub is_counted : List Statement → NameWithList → Bool
is_counted unit r = takes_list (listed_meaning unit r.occurrence.name) (count_of r.arguments)

-- ---- subroutines and functions of the program: 15.5.2.2 and 15.6.2.3

-- whether the unit with this index has n dummy arguments
abbrev pub takes_actuals : Units → Option ℕ → ℕ → Bool
takes_actuals program None n = true
takes_actuals program (Some u) n = nat_eq n (length (dummies_of (unit_at program u)))

abbrev pub is_call_counted : Units → Calling → Bool
is_call_counted program c = takes_actuals program (subroutine_called program c.occurrence.name) (length c.actuals)

abbrev pub is_reference_counted : Units → List Statement → NameWithList → Bool
is_reference_counted program unit r =
    not (is_external (listed_meaning unit r.occurrence.name)) || takes_actuals program (function_called program r.occurrence.name) (count_of r.arguments)

abbrev pub count_violations : Units → List Statement → Violations
count_violations program unit =
    flat_map (λ (s : Statement).
    when (not (list_all (is_counted unit) (names_with_lists s) && (list_all (is_reference_counted program unit) (names_with_lists s) && list_all (is_call_counted program) (calls_in s.form)))) (at_line 303 s.line)) unit
