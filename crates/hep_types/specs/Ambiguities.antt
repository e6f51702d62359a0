-- All ambiguities in a program, by names and lines: X3.9-1978, 8.5, 18.1 and 18.2.
use Rattle.std.specs.Prelude.{ℕ, Bool, false, not, nat_le, if◌then◌else◌, List, [], ◌∷◌, ◌++◌, Option, Some, None}
use Rattle.std.specs.List.{flat_map}
use Rattle.hep_machine.specs.Words.{LetterRange, Name, Statement, Units, function_named, is_external, same_name}
use Rattle.hep_conditions.specs.Words.{FunctionTypes, Use, function_types, letter_ranges_of, overlap, result_names}
use Rattle.hep_types.specs.declared.all_ambiguities.Ambiguity.{Ambiguity}
use Rattle.hep_types.specs.declared.uses.UseKind.{UseKind}
use Rattle.hep_types.specs.declared.uses.UseKind.TheVariants.{Header, Block, Dummy, Common, Constant, Called, Variable, Result, Function, Alone}
use Rattle.hep_types.specs.AmbiguityLines.{given_once, least_named, no_constants, no_results, none_seen, with_seen}
use Rattle.hep_types.specs.Uses.{uses_of}

-- the ambiguity with this name and line where the test is true, and else none
abbrev pub ambiguous_when : Bool → Option Name → ℕ → List Ambiguity
ambiguous_when b name line = if b then record { name = name; line = line } ∷ [] else []

-- ---- names and letters that are used twice

-- an ambiguity for each item that agrees with one that was seen, or with an earlier one
abbrev pub repeated_from : {A : Type 0} → (A → A → Bool) → (A → Option Name) → (A → Bool) → List (A × ℕ) → List Ambiguity
repeated_from agrees name seen [] = []
repeated_from agrees name seen (u ∷ us) = ambiguous_when (seen u.0) (name u.0) u.1 ++ repeated_from agrees name (with_seen agrees seen u.0) us

abbrev pub its_name : Name → Option Name
its_name x = Some x

abbrev pub repeated_names : List Use → List Ambiguity
repeated_names us = repeated_from same_name its_name none_seen us

abbrev pub twice_in : FunctionTypes → List Statement → UseKind → List Ambiguity
twice_in functions unit way = repeated_names (uses_of functions way unit)

-- the name of an ambiguity of letters: none
abbrev pub no_name : LetterRange → Option Name
no_name r = None

abbrev pub repeated_letters : List (LetterRange × ℕ) → List Ambiguity
repeated_letters rs = repeated_from overlap no_name none_seen rs

-- ---- names that are used in two ways

-- whether there is another line, and it isn't after this line
abbrev pub is_by : Option ℕ → ℕ → Bool
is_by None line = false
is_by (Some other) line = nat_le other line

abbrev pub met_at : (Name → Option ℕ) → Use → List Ambiguity
met_at lines u = ambiguous_when (is_by (lines u.0) u.1) (Some u.0) u.1

-- an ambiguity for each use whose name has its line or an earlier one in the table
abbrev pub met_from : (Name → Option ℕ) → List Use → List Ambiguity
met_from lines us = flat_map (met_at lines) us

-- an ambiguity for each use of either list whose name a use of the other list has, at the same line or before
abbrev pub met_both_ways : List Use → List Use → List Ambiguity
met_both_ways us ws = met_from (least_named us) ws ++ met_from (least_named ws) us

abbrev pub two_ways_in : FunctionTypes → List Statement → UseKind → UseKind → List Ambiguity
two_ways_in functions unit one other = met_both_ways (uses_of functions one unit) (uses_of functions other unit)

-- ---- a unit, and a program

abbrev pub misnamed_by : ℕ → Name → List Ambiguity
misnamed_by line x = ambiguous_when (not (is_external (function_named x))) (Some x) line

-- the ambiguities of functions with the name of a function of the language
abbrev pub misnamed_in : Statement → List Ambiguity
misnamed_in s = flat_map (misnamed_by s.line) (result_names s)

abbrev pub misused_names : FunctionTypes → List Statement → List Ambiguity
misused_names functions unit =
    flat_map (two_ways_in functions unit Constant) no_constants
    ++ (flat_map (two_ways_in functions unit Result) no_results
    ++ (flat_map misnamed_in unit
    ++ (two_ways_in functions unit Called Variable
    ++ two_ways_in functions unit Function Alone)))

abbrev pub ambiguous_in : FunctionTypes → List Statement → List Ambiguity
ambiguous_in functions unit =
    repeated_letters (letter_ranges_of unit)
    ++ (flat_map (twice_in functions unit) given_once
    ++ (two_ways_in functions unit Dummy Common
    ++ misused_names functions unit))

-- the ambiguities of two units, or a unit and a common block, with the same name
abbrev pub ambiguous_units : Units → List Ambiguity
ambiguous_units program =
    repeated_names (flat_map (uses_of (function_types program) Header) program)
    ++ met_both_ways (flat_map (uses_of (function_types program) Header) program) (flat_map (uses_of (function_types program) Block) program)

abbrev pub ambiguities : Units → List Ambiguity
ambiguities program = ambiguous_units program ++ flat_map (ambiguous_in (function_types program)) program
