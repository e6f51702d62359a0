use Rattle.std.proofs.Common.{◌≡◌, ◌++◌, drop}
use Rattle.std.specs.List.{flat_map}
use Rattle.hep_state_text.specs.BlockNames.{names_in_statement}
use Rattle.hep_state_text.proofs.block_names.names_in_block.Given as goal

abbrev pub invariant-loop-statement : goal.invariant-loop-statement
invariant-loop-statement l = l.names.items ++ flat_map (names_in_statement l.block) (drop l.statement-index l.unit) ≡ flat_map (names_in_statement l.block) l.unit
