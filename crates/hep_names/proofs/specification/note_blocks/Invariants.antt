use Rattle.std.proofs.Common.{◌≡◌, ◌&&◌, is_some, drop}
use Rattle.std.specs.Option.{option_or}
use Rattle.indexmap.specs.IndexMap.{get}
use Rattle.hep_machine.specs.Words.{Name, name_eq}
use Rattle.hep_machine.specs.Declarations as declarations
use Rattle.hep_names.specs.Tables as tables
use Rattle.hep_names.proofs.specification.note_blocks.Given as goal

abbrev pub invariant-loop-block : goal.invariant-loop-block
invariant-loop-block l =
    record {
      noted : (x : Name) → option_or (get name_eq l.blocks x) (declarations.block_holding x (drop l.block-index l.named)) ≡ option_or (get name_eq l.initial.blocks x) (declarations.block_holding x l.named);
      new : (l.are_new && tables.are_new (λ x. is_some (get name_eq l.blocks x)) (declarations.names_declared (declarations.entries_of_blocks (drop l.block-index l.named))))
          ≡ tables.are_new (λ x. is_some (get name_eq l.initial.blocks x)) (declarations.names_declared (declarations.entries_of_blocks l.named));
    }
