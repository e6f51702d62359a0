-- The lines of a state, except those of variables: docs/RUNS.md, "What everything holds".
use Rattle.std.specs.Prelude.{ℕ, Bool, List, ◌++◌, codes}
use Rattle.std.specs.Fmt.{decimal}
use Rattle.hep_state_text.specs.Values.{state_text}

-- the number of entries
abbrev pub head_text : ℕ → List ℕ
head_text entries = codes "AFTER " ++ decimal entries ++ codes " ENTRIES\n"

-- ---- processes

-- in an activation of the unit of this name
abbrev pub place_text : List ℕ → ℕ → ℕ → List ℕ
place_text unit line activation = unit ++ codes " LINE " ++ decimal line ++ codes " IN ACTIVATION " ++ decimal activation

-- the place of a level, and the line of the source on which its statement begins
pub record LevelText : Type 0 where
  pub place : List ℕ
  pub statement : List ℕ

-- with a function for the lines of the source
abbrev pub level_text : (ℕ → List ℕ) → List ℕ → ℕ → ℕ → LevelText
level_text shown unit line activation = record { place = place_text unit line activation; statement = shown line }

-- a process waits until what has this name is full, or is empty
abbrev pub waiting_text : Bool → List ℕ → List ℕ
waiting_text full place = codes " WAITING FOR" ++ state_text full ++ codes " " ++ place

-- an element or a position of a common block by its number, and the owner of a variable
abbrev pub element_text : List ℕ → ℕ → List ℕ
element_text name element = name ++ codes "#" ++ decimal element

abbrev pub owned_text : List ℕ → ℕ → List ℕ
owned_text name owner = name ++ codes " OF " ++ decimal owner

abbrev pub block_name : List ℕ → List ℕ
block_name name = codes "/" ++ name ++ codes "/"

-- a process at a level, with what it waits for, if it waits
abbrev pub process_text : ℕ → LevelText → List ℕ → List ℕ
process_text process level waiting = codes "PROCESS " ++ decimal process ++ codes " " ++ level.place ++ waiting ++ codes "\n" ++ level.statement

-- a level to which the process returns
abbrev pub back_text : LevelText → List ℕ
back_text level = codes "  BACK TO " ++ level.place ++ codes "\n" ++ level.statement

-- ---- storage

-- a common block, with the unit whose names its variables have
abbrev pub block_text : List ℕ → List ℕ → List ℕ
block_text name unit = codes "COMMON " ++ block_name name ++ codes " AS IN " ++ unit ++ codes "\n"

-- after a number, the name of a unit, which ends the line
abbrev pub name_text : List ℕ → List ℕ
name_text unit = codes " " ++ unit ++ codes "\n"

abbrev pub activation_text : ℕ → List ℕ → List ℕ
activation_text activation unit = codes "ACTIVATION " ++ decimal activation ++ name_text unit

-- a dummy argument, and the storage unit that it is associated with, or the first of them
abbrev pub association_text : List ℕ → List ℕ → List ℕ
association_text name place = codes "  " ++ name ++ codes " IS " ++ place ++ codes "\n"
