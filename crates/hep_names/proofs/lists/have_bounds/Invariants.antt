use Rattle.std.proofs.Common.{◌≡◌, drop}
use Rattle.std.specs.List.{flat_map}
use Rattle.hep_conditions.specs.Words.{trees_in_declarator}
use Rattle.hep_names.proofs.lists.have_bounds.Given as goal

abbrev pub invariant-loop-entry : goal.invariant-loop-entry
invariant-loop-entry l = flat_map trees_in_declarator (drop l.entry-index l.entries) ≡ flat_map trees_in_declarator l.entries
