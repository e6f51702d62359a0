-- The known contents of the common blocks of a unit: X3.9-1978, 8.3.
use Rattle.std.specs.Prelude.{◌≡◌, ℕ, Bool, true, false, if◌then◌else◌, List, [], ◌++◌, map, Option, Some, None}
use Rattle.std.specs.Option.{option_map, option_map_or}
use Rattle.std.specs.List.{list_any}
use Rattle.hep_machine.specs.Words.{CommonBlock, Name, Statement, is_among, same_name, Repeated, BlockName, same_block, block_of, common_block, entries_under, names_declared}
use Rattle.hep_conditions.specs.Common as conditions
use Rattle.hep_conditions.specs.Known.{Known as Items}
use Rattle.hep_storage.specs.declared.block_contents.BlockContents.{BlockContents}
use Rattle.hep_storage.specs.declared.runs.KnownRuns.{KnownRuns}
use Rattle.hep_storage.specs.Runs.{positions_in}
use Rattle.hep_storage.specs.RunItems.{repeat_before}
use Rattle.hep_storage.specs.declared.runs.Position.{Position}
use Rattle.hep_storage.specs.declared.runs.PositionRun.{PositionRun}

abbrev pub run_of : Repeated conditions.Position → PositionRun
run_of r = record { position = record { asynchronous = r.item.0; value_type = r.item.1 }; count = r.count }

-- the run of the positions of a name
abbrev pub run_of_name : List Statement → Name → Option PositionRun
run_of_name unit x = option_map run_of (conditions.positions_of_name unit x)

-- the known positions of a block, and whether these are all
pub record KnownPlaces : Type 0 where
  pub positions : List Position
  pub is_whole : Bool

abbrev pub no_run : KnownPlaces
no_run = record { positions = []; is_whole = true }

abbrev pub known : KnownRuns → KnownPlaces
known k = record { positions = positions_in k.runs.items; is_whole = k.is_whole }

-- the positions of a run
abbrev pub places_of : PositionRun → List Position
places_of r = repeat_before r.count r.position []

-- the known positions with one more run, if that is known
abbrev pub with_known_run : List Position → Option PositionRun → KnownPlaces
with_known_run ps None = record { positions = ps; is_whole = false }
with_known_run ps (Some r) = record { positions = ps ++ places_of r; is_whole = true }

abbrev pub with_run : KnownPlaces → Option PositionRun → KnownPlaces
with_run k r = if k.is_whole then with_known_run k.positions r else k

abbrev pub known_places : Items conditions.Position → KnownPlaces
known_places k = record { positions = positions_in (map run_of k.items); is_whole = k.whole }

-- the known positions of a block with these names, in order
abbrev pub places_of_names : List Statement → BlockName → List Name → KnownPlaces
places_of_names unit b xs = known_places (conditions.positions_of unit (conditions.first_names unit b [] xs))

-- the known positions of a block in a unit, and the line of the last statement that names it
pub record Block : Type 0 where
  pub list : KnownPlaces
  pub line : ℕ

abbrev pub block : BlockContents → Block
block c = record { list = known c.known; line = c.line }

abbrev pub block_in : List Statement → BlockName → Option Block
block_in unit b = option_map (λ line. record { list = known_places (conditions.positions_of_block unit b); line = line }) (conditions.last_line b unit)

-- ---- one pass

-- whether this block is the first one that has a name
abbrev pub is_first_block : List Statement → BlockName → Name → Bool
is_first_block unit b x = option_map_or (same_block b) (common_block unit x) false

-- the recorded names after one more name in a block; each name is recorded in its first block
abbrev pub with_noted : List Statement → BlockName → Name → (Name → Bool) → Name → Bool
with_noted unit b y noted x = if is_first_block unit b y then (if noted x then true else same_name x y) else noted x

-- Of the names whose first block this is, exactly those are recorded that were read in it.
abbrev pub AreNoted : List Statement → BlockName → List Name → (Name → Bool) → Type 0
AreNoted unit b xs noted = (x : Name) → is_first_block unit b x ≡ true → noted x ≡ is_among x xs

-- the names of block k for block b: all where both are the same, and else none
abbrev pub names_into : BlockName → BlockName → List Name → List Name
names_into k b xs = if same_block k b then xs else []

-- The contents are those of a block with these names.
abbrev pub Holds : List Statement → BlockName → List Name → BlockContents → Type 0
Holds unit b xs c = known c.known ≡ places_of_names unit b xs

-- The table has these contents of a block after these names, and the block was last named at this line.
abbrev pub HasContents : List Statement → BlockName → List Name → Option ℕ → Option BlockContents → Type 0
HasContents unit b xs line None = (xs ≡ []) × (line ≡ None)
HasContents unit b xs line (Some c) = Holds unit b xs c × (line ≡ Some c.line)

-- The table has these contents, and the right names are recorded.
abbrev pub Has : List Statement → (Name → Bool) → BlockName → List Name → Option ℕ → Option BlockContents → Type 0
Has unit noted b xs line o = HasContents unit b xs line o × AreNoted unit b xs noted

-- the names that these COMMON lists add to a block
abbrev pub names_under : BlockName → List CommonBlock → List Name
names_under b cs = names_declared (entries_under b cs)

-- the line of the last statement that names a block, after a statement with these lists
abbrev pub later_line : BlockName → Option ℕ → ℕ → List CommonBlock → Option ℕ
later_line b before line cs = if list_any (λ (c : CommonBlock). same_block (block_of c) b) cs then Some line else before
