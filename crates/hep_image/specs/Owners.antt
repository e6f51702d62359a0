-- Whose a cell of a frame or of COMMON is: docs/MACHINE.md, "Variables and frames" and "Layout".
use Rattle.std.specs.Prelude.{◌≡◌, ℕ, ◌+◌, ◌<◌, true, length, nat_le, if◌then◌else◌, List, [], ◌∷◌, ◌++◌, map, Option, Some, None}
use Rattle.std.specs.List.Sorted.{IsNonDecreasingBy}
use Rattle.std.specs.Option.{option_or}
use Rattle.hep_machine.specs.Words.{Name, Statement, is_among, Units, dummies_of, BlockName, blocks_of, is_array, is_block_among, locals_of, names_of}
use Rattle.hep_layout.specs.Words.{argument, variable, first_of_block, first_of_part}
use Rattle.hep_image.specs.Names.{block_index, variable_index}
use Rattle.hep_image.specs.declared.owners.BlockStart.{BlockStart}
use Rattle.hep_image.specs.declared.owners.FrameVariable.{FrameVariable}

-- the last of these things, with their first cells, that begins at a cell or before it
abbrev pub last_before : {A : Type 0} → (A → ℕ) → List A → ℕ → Option A
last_before first [] n = None
last_before first (x ∷ xs) n = option_or (last_before first xs n) (if nat_le (first x) n then Some x else None)

-- ---- frames

abbrev pub argument_at : List Statement → Name → FrameVariable
argument_at unit x = record { index = variable_index unit x; first = first_of_part unit (argument x); is_array = is_array unit x }

abbrev pub variable_at : List Statement → Name → FrameVariable
variable_at unit x = record { index = variable_index unit x; first = first_of_part unit (variable x); is_array = is_array unit x }

-- the dummy arguments and the local variables of a unit, in the order of their cells
abbrev pub frame_variables : List Statement → List FrameVariable
frame_variables unit = map (argument_at unit) (dummies_of unit) ++ map (variable_at unit) (locals_of unit)

-- the last of them that begins at a cell of the frame, or before it
abbrev pub variable_before : List FrameVariable → ℕ → Option FrameVariable
variable_before vs n = last_before (λ (v : FrameVariable). v.first) vs n

-- none begins before one in front of it
abbrev pub AreInOrder : List FrameVariable → Type 0
AreInOrder vs = IsNonDecreasingBy (λ (v : FrameVariable). v.first) vs

-- ---- COMMON

abbrev pub block_start : Units → BlockName → BlockStart
block_start program b = record { index = block_index program b; first = first_of_block program b }

-- the common blocks of a program, in the order of their cells
abbrev pub block_starts : Units → List BlockStart
block_starts program = map (block_start program) (blocks_of program)

-- the last of them that begins at a cell of COMMON, or before it
abbrev pub block_before : List BlockStart → ℕ → Option BlockStart
block_before ss n = last_before (λ (s : BlockStart). s.first) ss n

-- ---- the variable or block of a cell

-- cell n of the frame of a unit is the one at index i, counted from 0, of a variable of this name: it is found among the variables
pub record IsTold (unit : List Statement) (n : ℕ) (x : Name) (i : ℕ) : Type 0 where
  pub found : FrameVariable
  pub before : variable_before (frame_variables unit) n ≡ Some found
  pub index : found.index ≡ variable_index unit x
  pub named : is_among x (names_of unit) ≡ true
  pub inside : variable_index unit x < length (names_of unit)
  pub behind : found.first + i ≡ n
  pub array : found.is_array ≡ is_array unit x

-- cell n of COMMON is the one at index i, counted from 0, of this block
pub record IsBlockTold (program : Units) (n : ℕ) (b : BlockName) (i : ℕ) : Type 0 where
  pub found : BlockStart
  pub before : block_before (block_starts program) n ≡ Some found
  pub index : found.index ≡ block_index program b
  pub named : is_block_among b (blocks_of program) ≡ true
  pub inside : block_index program b < length (blocks_of program)
  pub behind : found.first + i ≡ n
