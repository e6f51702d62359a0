-- The names of a program, which units, variables and common blocks have in lines: docs/MACHINE.md, "Names and units".
use Rattle.std.specs.Prelude.{◌≡◌, ℕ, ◌+◌, ◌<◌, ◌^◌, List, [], ◌++◌, map, length, slice_get, take, Some, None}
use Rattle.std.specs.List.{flat_map}
use Rattle.std.specs.Option.{unwrap_or}
use Rattle.hep_machine.specs.Words.{Name, Statement, index_among, index_where, block_spelling, spelling, Units, unit_at, unit_name, BlockName, blocks_of, same_block, names_of}
use Rattle.hep_image.specs.declared.names.ProgramNames.{ProgramNames}

abbrev pub spellings_of : List Statement → List (List ℕ)
spellings_of unit = map spelling (names_of unit)

-- those of its units, of the variables of each unit, and of its common blocks, all in order of first appearance
abbrev pub names_in_order : Units → List (List ℕ)
names_in_order program = map unit_name program ++ (flat_map spellings_of program ++ map block_spelling (blocks_of program))

-- ---- numbers

-- the number of the first name of a variable of unit u, and that of the first name of a block
abbrev pub first_variable : Units → ℕ → ℕ
first_variable program u = length program + length (flat_map spellings_of (take u program))

abbrev pub first_block : Units → ℕ
first_block program = length program + length (flat_map spellings_of program)

-- the number of names of its unit, and of blocks, before one
abbrev pub variable_index : List Statement → Name → ℕ
variable_index unit x = unwrap_or (index_among x (names_of unit)) 0

abbrev pub block_index : Units → BlockName → ℕ
block_index program b = unwrap_or (index_where (same_block b) (blocks_of program)) 0

-- the number of the name of a variable of unit u, and of a block
abbrev pub variable_number : Units → ℕ → Name → ℕ
variable_number program u x = first_variable program u + variable_index (unit_at program u) x

abbrev pub block_number : Units → BlockName → ℕ
block_number program b = first_block program + block_index program b

-- the names of a program, whose numbers have 32 bits, and the first number of each unit's variables and of the blocks
pub record AreNames (program : Units) (names : ProgramNames) : Type 0 where
  pub spelled : names.spelled ≡ names_in_order program
  pub few : length names.spelled < 2 ^ 32
  pub all : length names.variables ≡ length program
  pub variables_are : (u n : ℕ) → slice_get names.variables u ≡ Some n → n ≡ first_variable program u
  pub blocks_are : names.blocks ≡ first_block program
