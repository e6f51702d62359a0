-- The names of a common block in a unit, list by list: X3.9-1978, 8.3.
use Rattle.std.specs.Prelude.{if◌then◌else◌, List, []}
use Rattle.std.specs.List.{flat_map}
use Rattle.hep_machine.specs.Words.{BlockName, CommonBlock, Name, Statement, same_block, block_of, blocks_in, names_declared}

abbrev pub names_in_list : BlockName → CommonBlock → List Name
names_in_list b c = if same_block (block_of c) b then names_declared c.entries else []

abbrev pub names_in_statement : BlockName → Statement → List Name
names_in_statement b s = flat_map (names_in_list b) (blocks_in s.form)
