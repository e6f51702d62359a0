use Rattle.std.proofs.Common.{◌≡◌, ◌&&◌, is_some, drop}
use Rattle.std.specs.Option.{option_or}
use Rattle.indexmap.specs.IndexMap.{get}
use Rattle.hep_machine.specs.Words.{Name, name_eq, names_declared}
use Rattle.hep_names.specs.Tables as tables
use Rattle.hep_names.proofs.specification.note_block.Given as goal

abbrev pub invariant-loop-entry : goal.invariant-loop-entry
invariant-loop-entry l =
    record {
      noted : (x : Name) → option_or (get name_eq l.blocks x) (tables.by_declarators l.block (drop l.entry-index l.entries) x) ≡ option_or (get name_eq l.initial.blocks x) (tables.by_declarators l.block l.entries x);
      new : (l.are_new && tables.are_new (λ x. is_some (get name_eq l.blocks x)) (names_declared (drop l.entry-index l.entries))) ≡ tables.are_new (λ x. is_some (get name_eq l.initial.blocks x)) (names_declared l.entries);
    }
