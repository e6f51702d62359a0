use Rattle.std.proofs.Common.{◌≡◌, ◌&&◌, false, is_some, drop}
use Rattle.std.specs.Option.{option_or}
use Rattle.indexmap.specs.IndexMap.{get}
use Rattle.hep_machine.specs.Words.{Name, name_eq}
use Rattle.hep_names.specs.Tables as tables
use Rattle.hep_names.proofs.specification.common_names.Given as goal

abbrev pub invariant-loop-statement : goal.invariant-loop-statement
invariant-loop-statement l =
    record {
      noted : (x : Name) → option_or (get name_eq l.blocks.map x) (tables.first_in (tables.block_by_form x) (drop l.statement-index l.unit)) ≡ tables.first_in (tables.block_by_form x) l.unit;
      new : (l.are_once && tables.are_new (λ x. is_some (get name_eq l.blocks.map x)) (tables.names_in_common (drop l.statement-index l.unit))) ≡ tables.are_new (λ x. false) (tables.names_in_common l.unit);
    }
