-- The entries of a table of common blocks: X3.9-1978, 8.3.
use Rattle.std.specs.Prelude.{◌≡◌, ℕ, Bool, if◌then◌else◌, List, ◌++◌, Option, Some, None}
use Rattle.std.specs.Option.{option_eq, option_map}
use Rattle.indexmap.specs.IndexMap.{IndexMap, get}
use Rattle.hep_machine.specs.Words.{CommonBlock, Name, Statement, name_eq, BlockName}
use Rattle.hep_storage.specs.Agreement.{Summed, nothing_summed, summed, AreAmong}
use Rattle.hep_storage.specs.BlockContents.{Block, block, Has, names_under, later_line}
use Rattle.hep_storage.specs.declared.block_contents.BlockContents.{BlockContents}
use Rattle.hep_storage.specs.declared.block_table.BlockEntry.{BlockEntry}

-- the entry of a block
abbrev pub entry_at : {S : Type 0} → IndexMap BlockName BlockEntry S → BlockName → Option BlockEntry
entry_at table b = get (option_eq name_eq) table b

-- the contents of a block in the current unit, if the unit names it
abbrev pub contents_in : Option BlockEntry → Option BlockContents
contents_in None = None
contents_in (Some e) = if e.is_named then Some e.contents else None

abbrev pub block_at : Option BlockEntry → Option Block
block_at o = option_map block (contents_in o)

-- the summary of a block in the units before
abbrev pub summed_in : Option BlockEntry → Summed
summed_in None = nothing_summed
summed_in (Some e) = summed e.summary

-- Reading more of a unit keeps the summaries of the units before, and the recorded blocks still include all that the unit names.
pub record AreRead (old new : BlockName → Option BlockEntry) (before after : List BlockName) : Type 0 where
  pub summaries : (b : BlockName) → summed_in (new b) ≡ summed_in (old b)
  pub named : AreAmong before (λ b. block_at (old b)) → AreAmong after (λ b. block_at (new b))

-- The new table has the names of these lists of a COMMON statement at a line added, with the recorded names.
abbrev pub AreListed : List Statement → (Name → Bool) → (Name → Bool) → (BlockName → Option BlockEntry) → (BlockName → Option BlockEntry) → ℕ → List CommonBlock → Type 0
AreListed unit noted noted' old new line lists =
    (b : BlockName) (xs : List Name) (before : Option ℕ) → Has unit noted b xs before (contents_in (old b))
    → Has unit noted' b (xs ++ names_under b lists) (later_line b before line lists) (contents_in (new b))
