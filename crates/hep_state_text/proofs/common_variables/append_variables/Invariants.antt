use Rattle.std.proofs.Common.{◌≡◌, ◌+◌, ◌++◌, drop, take}
use Rattle.std.specs.List.{flat_map}
use Rattle.hep_machine.specs.Words.{Layout, State, Units, cells_of_all}
use Rattle.hep_state_text.specs.States as words
use Rattle.hep_state_text.specs.Blocks.{IsBlockAt}
use Rattle.hep_state_text.proofs.common_variables.append_variables.Given as goal

abbrev pub invariant-loop-name : goal.invariant-loop-name
invariant-loop-name l =
    record {
      at : l.at ≡ l.block.first + cells_of_all l.block.symbols.now (take l.name-index l.block.list.now);
      so_far : (program : Units) (s : State) (layout : Layout) → IsBlockAt program s layout l.block l.frames.arena
          → l.text.items ++ flat_map (words.own_text program s (words.common_scope program s l.block.symbols.now)) (drop l.name-index l.block.list.now)
          ≡ l.initial.text.items ++ flat_map (words.own_text program s (words.common_scope program s l.block.symbols.now)) l.block.list.now;
    }
