-- 304, as one pass over a unit finds it.
use Rattle.std.specs.Prelude.{Bool, true, not, ◌&&◌, ◌||◌, List, Option, Some, None}
use Rattle.std.specs.List.{list_all}
use Rattle.hep_machine.specs.Words.{Tree, Target, Units, dummies_of, Statement, is_array, is_constant_name, is_nonempty}
use Rattle.hep_conditions.specs.Words.{FunctionTypes, NameWithList, function_types, all_given, fit_dummies, fits_call, fits_reference, is_reference_given, names_with_lists, targets_purged, calls_in}

-- whether these actual arguments fit the dummy arguments of the called unit
abbrev pub fits_unit : FunctionTypes → List Statement → Option (List Statement) → List Tree → Bool
fits_unit functions unit None ts = true
fits_unit functions unit (Some called) ts = fit_dummies called (dummies_of called) (all_given functions unit ts)

-- whether a target may be purged: an asynchronous variable, array or element, but no named constant
abbrev pub is_purgeable : List Statement → Target → Bool
is_purgeable unit t =
    t.occurrence.name.asynchronous && (not (is_constant_name unit t.occurrence.name) && (not (is_nonempty t.subscripts) || is_array unit t.occurrence.name))

-- whether the list of a name fits the function
abbrev pub is_given : Units → List Statement → NameWithList → Bool
is_given program unit r = fits_reference (function_types program) program unit r && is_reference_given (function_types program) unit r

abbrev pub is_mismatched : Units → List Statement → Statement → Bool
is_mismatched program unit s =
    not (list_all (fits_call (function_types program) program unit) (calls_in s.form)
    && (list_all (fits_reference (function_types program) program unit) (names_with_lists s)
    && (list_all (is_reference_given (function_types program) unit) (names_with_lists s) && list_all (is_purgeable unit) (targets_purged s.form))))
