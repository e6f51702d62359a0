-- The agreement of arguments with dummy arguments: X3.9-1978, 15.6.2.3 and 15.9.3, and docs/LANGUAGE.md, 8 and 9.
use Rattle.std.specs.Prelude.{◌≡◌, ℕ, true, List, Some, length, slice_get}
use Rattle.hep_machine.specs.Words.{Tree, Trees, no_trees, trees, Name, Statement, Units, dummies_of, is_named, function_called, function_name, subroutine_called, subroutine_name}
use Rattle.hep_conditions.specs.Words.{actual_class, count_of, fits_dummy, FunctionTypes, function_types, is_asynchronous_scalar, list_of, Calling, NameWithList}

-- each actual argument fits the dummy argument in its place: 15.9.3
abbrev pub FitPairwise : FunctionTypes → List Statement → List Statement → List Tree → Type 0
FitPairwise functions unit callee actuals =
    (j : ℕ) (x : Name) (t : Tree) → slice_get (dummies_of callee) j ≡ Some x → slice_get actuals j ≡ Some t → fits_dummy callee x (actual_class functions unit t) ≡ true

-- a call is of a subroutine of the program, by its name, with as many arguments as it has, and these fit: 15.6.2.3
abbrev pub CallsSubroutine : Units → List Statement → Calling → Type 0
CallsSubroutine program unit c =
    (v : ℕ) × (callee : List Statement)
    × (subroutine_called program c.occurrence.name ≡ Some v)
    × (slice_get program v ≡ Some callee)
    × (is_named (subroutine_name callee) c.occurrence.name ≡ true)
    × (length c.actuals ≡ length (dummies_of callee))
    × FitPairwise (function_types program) unit callee c.actuals

-- a reference is of a function of the program, by its name, with as many arguments as it has, and these fit: 15.5.2.2
abbrev pub RefersToFunction : Units → List Statement → NameWithList → Type 0
RefersToFunction program unit r =
    (v : ℕ) × (callee : List Statement)
    × (function_called program r.occurrence.name ≡ Some v)
    × (slice_get program v ≡ Some callee)
    × (is_named (function_name callee) r.occurrence.name ≡ true)
    × (count_of r.arguments ≡ length (dummies_of callee))
    × FitPairwise (function_types program) unit callee (list_of r.arguments)

-- a list of one argument, which is an asynchronous scalar or element: docs/LANGUAGE.md, 8
abbrev pub IsOneAsynchronousScalar : FunctionTypes → List Statement → Trees → Type 0
IsOneAsynchronousScalar functions unit ts = (t : Tree) × (ts ≡ trees t no_trees) × (is_asynchronous_scalar functions (actual_class functions unit t) ≡ true)
