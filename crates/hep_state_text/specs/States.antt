-- The text of a state, by a program and its state: docs/RUNS.md, "What everything holds".
use Rattle.std.specs.Prelude.{ℕ, suc, if◌then◌else◌, Bool, nat_eq, List, [], ◌∷◌, ◌++◌, map, Option, Some, None}
use Rattle.std.specs.List.{flat_map}
use Rattle.hep_machine.specs.declared.event.Entry.{Entry}
use Rattle.hep_machine.specs.declared.slot.Slot.{Slot}
use Rattle.hep_machine.specs.Words.{Name, Statement, block_spelling, spelling, Units, unit_at, unit_name, function_name, line_at, dummies_of, locals_of, is_array, BlockName, blocks_of, block_cells, cells_of_all, names_in_block, Activation, Level, Process, State, Location, local, common, Store, unit_of, Wanted, wanted_by, level_after_statement, is_held, is_number_among, Scope, StorageSequence, own_storage, storage_of, scope_of, CellView, cells_at, is_owned, progress_after, state_after}
use Rattle.hep_layout.specs.Words.{is_stacked}
use Rattle.hep_state_text.specs.Lines as lines
use Rattle.hep_state_text.specs.Lines.{LevelText}
use Rattle.hep_state_text.specs.Contents.{variable_text}

-- the cells of storage units in a row, as the view has them
abbrev pub slots_at : Store → Location → ℕ → List Slot
slots_at store at n = map (λ (c : CellView). c.cell) (cells_at store at n)

-- the first of these units in which a block has so many cells
abbrev pub first_with : ℕ → BlockName → List (List Statement) → List Statement
first_with n b [] = []
first_with n b (unit ∷ units) = if nat_eq (cells_of_all unit (names_in_block unit b)) n then unit else first_with n b units

-- the first unit in which a block is longest
abbrev pub unit_of_block : Units → BlockName → List Statement
unit_of_block program b = first_with (block_cells program b) b program

-- the level at which execution continues after the one above has ended, by that one's result: after its CALL, or in
-- the statement that refers to the function
abbrev pub level_behind : List Statement → Option Name → Level → Level
level_behind unit None level = level_after_statement unit level
level_behind unit (Some x) level = level

module _ (program : Units) (s : State) where
  -- the unit of an activation
  abbrev pub unit_in : ℕ → List Statement
  unit_in a = unit_at program (unit_of s a)

  -- ---- processes, with a function for the lines of the source

  abbrev pub level_text : (ℕ → List ℕ) → Level → LevelText
  level_text shown level = lines.level_text shown (unit_name (unit_in level.activation)) (line_at (unit_in level.activation) level.statement) level.activation

  -- a level below one of a unit
  abbrev pub back_text : (ℕ → List ℕ) → List Statement → Level → List ℕ
  back_text shown above level = lines.back_text (level_text shown (level_behind (unit_in level.activation) (function_name above) level))

  abbrev pub levels_text : (ℕ → List ℕ) → List Statement → List Level → List ℕ
  levels_text shown above [] = []
  levels_text shown above (level ∷ levels) = back_text shown above level ++ levels_text shown (unit_in level.activation) levels

  abbrev pub place_text : Location → List ℕ
  place_text (local a x i) = lines.owned_text (if is_array (unit_in a) x then lines.element_text (spelling x) i else spelling x) a
  place_text (common b i) = lines.element_text (lines.block_name (block_spelling b)) i

  abbrev pub waiting_text : Option Wanted → List ℕ
  waiting_text None = []
  waiting_text (Some w) = lines.waiting_text w.full (place_text w.at)

  -- the lines of a process that lives, with the words for what it waits for, or none
  abbrev pub stack_text : (ℕ → List ℕ) → ℕ → List ℕ → Process → List ℕ
  stack_text shown p waiting [] = []
  stack_text shown p waiting (level ∷ levels) = lines.process_text p (level_text shown level) waiting ++ levels_text shown (unit_in level.activation) levels

  -- what it waits for is named where it is listed
  abbrev pub wait_text : ℕ → Bool → List ℕ
  wait_text p listed = if listed then waiting_text (wanted_by program p s) else []

  abbrev pub process_text : (ℕ → List ℕ) → ℕ → Bool → Process → List ℕ
  process_text shown p listed q = stack_text shown p (wait_text p listed) q

  -- the lines of processes from this number on
  abbrev pub processes_text : (ℕ → List ℕ) → List ℕ → ℕ → List Process → List ℕ
  processes_text shown listed p [] = []
  processes_text shown listed p (q ∷ qs) = process_text shown p (is_number_among p listed) q ++ processes_text shown listed (suc p) qs

  -- ---- storage

  abbrev pub storage_text : Name → StorageSequence → List ℕ
  storage_text x e = variable_text (spelling x) x.asynchronous e.shape (slots_at s.store e.start e.rest)

  -- a local variable or one in COMMON
  abbrev pub own_text : Scope → Name → List ℕ
  own_text scope x = storage_text x (own_storage scope x)

  -- a dummy argument has a storage unit of its own if it is associated with an expression
  abbrev pub value_text : Scope → Name → List ℕ
  value_text scope x =
      if is_owned scope.number (storage_of scope x).start
      then variable_text (spelling x) x.asynchronous [] (s.store (storage_of scope x).start ∷ [])
      else []

  -- another one is associated with storage units, of which the first one is named (15.9.3)
  abbrev pub association_text : Scope → Name → List ℕ
  association_text scope x =
      if is_owned scope.number (storage_of scope x).start then [] else lines.association_text (spelling x) (place_text (storage_of scope x).start)

  -- the association ends with the activation (15.8)
  abbrev pub associations_text : ℕ → List ℕ
  associations_text a = if is_stacked s a then flat_map (association_text (scope_of program s a)) (dummies_of (unit_in a)) else []

  -- the variables of an activation
  abbrev pub frame_text : ℕ → List ℕ
  frame_text a =
      lines.activation_text a (unit_name (unit_in a))
      ++ flat_map (own_text (scope_of program s a)) (locals_of (unit_in a)) ++ flat_map (value_text (scope_of program s a)) (dummies_of (unit_in a))

  abbrev pub activation_text : ℕ → List ℕ
  activation_text a = frame_text a ++ associations_text a

  -- the held ones of n activations from this number on
  abbrev pub activations_text : ℕ → List Activation → List ℕ
  activations_text a [] = []
  activations_text a (x ∷ xs) = (if is_held s a then activation_text a else []) ++ activations_text (suc a) xs

  -- the scope of a unit's names for COMMON
  abbrev pub common_scope : List Statement → Scope
  common_scope unit = record { unit = unit; number = 0; dummies = [] }

  abbrev pub block_text : BlockName → List ℕ
  block_text b =
      lines.block_text (block_spelling b) (unit_name (unit_of_block program b))
      ++ flat_map (own_text (common_scope (unit_of_block program b))) (names_in_block (unit_of_block program b) b)

  -- ---- all of it, where these processes are listed as waiting

  abbrev pub contents_text : (ℕ → List ℕ) → List ℕ → List ℕ
  contents_text shown listed =
      processes_text shown listed 1 s.processes ++ flat_map block_text (blocks_of program) ++ activations_text 1 s.activations

-- the state after a history, with the number of entries, and a function for the lines of the source
abbrev pub state_text : (ℕ → List ℕ) → Units → ℕ → List Entry → List ℕ
state_text shown program entries history =
    lines.head_text entries ++ contents_text program (state_after program history) shown (progress_after program history).listed
