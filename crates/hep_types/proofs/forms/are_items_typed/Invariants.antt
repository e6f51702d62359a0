use Rattle.std.proofs.Common.{◌≡◌, drop}
use Rattle.std.specs.List.{list_all}
use Rattle.hep_conditions.specs.Words.{is_item_typed}
use Rattle.hep_names.specs.Functions.{functions_of}
use Rattle.hep_types.proofs.forms.are_items_typed.Given as goal

abbrev pub invariant-loop-item : goal.invariant-loop-item
invariant-loop-item l = list_all (is_item_typed (functions_of l.functions) l.symbols) (drop l.item-index l.items) ≡ list_all (is_item_typed (functions_of l.functions) l.symbols) l.items
