-- The name that a unit has for a position of a common block: X3.9-1978, 8.3, and docs/MACHINE.md, "Notes".
use Rattle.std.specs.Prelude.{ℕ, ◌-◌, Bool, nat_eq, if◌then◌else◌, List, [], ◌++◌, map, Option}
use Rattle.std.specs.List.{flat_map}
use Rattle.std.specs.Option.{option_map, option_map_or, unwrap_or}
use Rattle.std.specs.Cmp.Lexicographic.{pointwise}
use Rattle.hep_machine.specs.Declarations.{block_of, blocks_in, dimensions_of, names_declared}
use Rattle.hep_machine.specs.Words.{CommonBlock, Name, Statement, bounds_of, cells_of, constant_value, spelling}
use Rattle.hep_layout.specs.Words.{owner_in}
use Rattle.hep_dump.specs.Elements.{subscripts_text}

-- ---- names

-- the block has this name; that of blank COMMON is empty
abbrev pub is_written : List ℕ → CommonBlock → Bool
is_written block c = pointwise nat_eq (option_map_or spelling (block_of c) []) block

abbrev pub names_in_list : List ℕ → CommonBlock → List Name
names_in_list block c = if is_written block c then names_declared c.entries else []

abbrev pub names_in_statement : List ℕ → Statement → List Name
names_in_statement block s = flat_map (names_in_list block) (blocks_in s.form)

-- the names that a unit has in the block of this name, in order; a block that is named again is continued
abbrev pub names_under : List ℕ → List Statement → List Name
names_under block unit = flat_map (names_in_statement block) unit

-- the variable of these names that has a cell, and which of its cells it is; all are counted from 0
abbrev pub owner_among : List Statement → List Name → ℕ → Option (Name × ℕ)
owner_among unit xs n = owner_in (map (λ (x : Name). (x, cells_of unit x)) xs) n

-- ---- texts

-- a variable or the element after the first ones, with its subscripts
abbrev pub element_text : List Statement → Name → ℕ → List ℕ
element_text unit x i = spelling x ++ subscripts_text (unwrap_or (bounds_of unit (constant_value unit) (dimensions_of unit x)) []) i

abbrev pub owner_text : List Statement → Name × ℕ → List ℕ
owner_text unit owner = element_text unit owner.0 owner.1

-- a unit's name for a position, counted from 1, of the block of this name, if it has one
abbrev pub own_name : List Statement → List ℕ → ℕ → Option (List ℕ)
own_name unit block position = option_map (owner_text unit) (owner_among unit (names_under block unit) (position - 1))
