use Rattle.std.proofs.Common.{◌≡◌, ◌++◌, drop}
use Rattle.std.specs.List.{flat_map}
use Rattle.hep_machine.specs.Words.{CommonBlock, names_declared}
use Rattle.hep_types.proofs.uses.entries.Given as goal

abbrev pub invariant-loop-block : goal.invariant-loop-block
invariant-loop-block l = l.names.items ++ flat_map (λ (b : CommonBlock). names_declared b.entries) (drop l.block-index l.blocks) ≡ flat_map (λ (b : CommonBlock). names_declared b.entries) l.blocks
