use Rattle.std.proofs.Common.{◌≡◌, drop}
use Rattle.std.specs.Option.{option_or}
use Rattle.indexmap.specs.IndexMap.{get}
use Rattle.hep_machine.specs.Words.{Name, name_eq}
use Rattle.hep_places.specs.StorageStarts.{length_in, no_length, offset_among}
use Rattle.hep_places.proofs.block_offsets.offset_table.Given as goal

abbrev pub invariant-loop-entry : goal.invariant-loop-entry
invariant-loop-entry l =
    (x : Name) → option_or (get name_eq l.offsets.table x) (offset_among l.symbols (length_in l.offsets.lengths) (drop l.entry-index l.entry-items) x) ≡ offset_among l.symbols no_length l.entry-items x
