-- Conditions of common blocks: 305 (X3.9-1978, 8.3.3 to 8.3.5).
use Rattle.std.specs.Prelude.{ℕ, Bool, true, false, not, ◌&&◌, if◌then◌else◌, List, [], ◌∷◌, ◌++◌, Option, Some, None, option_and_then}
use Rattle.std.specs.List.{flat_map, list_any}
use Rattle.std.specs.Option.{option_map, option_map_or}
use Rattle.hep_machine.specs.Words.{CommonBlock, ValueType, Name, Statement, same_logical, BlockName, same_block, block_of, blocks_in, blocks_of, common_block, names_in_block, type_of, is_among, Repeated, elements, Units}
use Rattle.hep_conditions.specs.Constants.{known_shape}
use Rattle.hep_conditions.specs.Known.{Known, nothing_more, known_before, same_length, holds_at_each_place}
use Rattle.hep_conditions.specs.Statements.{same_declared}
use Rattle.hep_conditions.specs.Violations.{Violations, at_line, when}

-- a position of a block: whether its variable is asynchronous, and its type
abbrev pub Position : Type 0
Position = Bool × Option ValueType

-- whether the first position of a name in COMMON is in this block, after these names
abbrev pub has_first_position : List Statement → BlockName → List Name → Name → Bool
has_first_position unit b before x = option_map_or (same_block b) (common_block unit x) false && not (is_among x before)

-- the names of a block that have their first position there, in order; a second position doesn't count
abbrev pub first_names : List Statement → BlockName → List Name → List Name → List Name
first_names unit b before [] = []
first_names unit b before (x ∷ xs) = (if has_first_position unit b before x then x ∷ [] else []) ++ first_names unit b (x ∷ before) xs

-- the positions of a name: one for each of its cells, all of the same kind
abbrev pub positions_of_name : List Statement → Name → Option (Repeated Position)
positions_of_name unit x =
    option_map (λ n. record { item = (x.asynchronous, type_of unit x); count = n }) (option_and_then elements (known_shape unit x))

abbrev pub positions_of : List Statement → List Name → Known Position
positions_of unit [] = nothing_more
positions_of unit (x ∷ xs) = known_before (positions_of_name unit x) (positions_of unit xs)

-- the positions of a block in a unit, up to the first array of unknown shape
abbrev pub positions_of_block : List Statement → BlockName → Known Position
positions_of_block unit b = positions_of unit (first_names unit b [] (names_in_block unit b))

abbrev pub same_position : Position → Position → Bool
same_position p q = same_logical p.0 q.0 && same_declared p.1 q.1

-- whether the lengths of a block in two units agree; those of blank COMMON may differ
abbrev pub same_length_of_block : BlockName → Known Position → Known Position → Bool
same_length_of_block None ps qs = true
same_length_of_block (Some x) ps qs = same_length ps qs

abbrev pub same_contents : BlockName → Known Position → Known Position → Bool
same_contents block ps qs = same_length_of_block block ps qs && holds_at_each_place same_position ps.items qs.items

abbrev pub names_block : BlockName → Statement → Bool
names_block b s = list_any (λ (c : CommonBlock). same_block (block_of c) b) (blocks_in s.form)

-- the line of the last statement of a unit that names a block
abbrev pub last_line : BlockName → List Statement → Option ℕ
last_line b [] = None
last_line b (s ∷ ss) = by_later (last_line b ss) where
  by_later : Option ℕ → Option ℕ
  by_later (Some line) = Some line
  by_later None = if names_block b s then Some s.line else None

-- the violation where a block differs between two units, at its last line in the later unit
abbrev pub block_differs : BlockName → List Statement → List Statement → Violations
block_differs b unit later = by_lines (last_line b unit) (last_line b later) where
  by_lines : Option ℕ → Option ℕ → Violations
  by_lines (Some k) (Some line) = when (not (same_contents b (positions_of_block unit b) (positions_of_block later b))) (at_line 305 line)
  by_lines _ _ = []

abbrev pub blocks_differ : List BlockName → List Statement → List Statement → Violations
blocks_differ bs unit later = flat_map (λ (b : BlockName). block_differs b unit later) bs

-- each unit with each one after it
abbrev pub differing : List BlockName → Units → Violations
differing bs [] = []
differing bs (unit ∷ units) = flat_map (blocks_differ bs unit) units ++ differing bs units

abbrev pub common_violations : Units → Violations
common_violations program = differing (blocks_of program) program
