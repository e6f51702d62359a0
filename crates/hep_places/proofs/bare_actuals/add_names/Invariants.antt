use Rattle.std.proofs.Common.{◌≡◌, drop}
use Rattle.std.specs.List.{flat_map}
use Rattle.indexmap.specs.IndexSet.{contains}
use Rattle.hep_machine.specs.Words.{Name, is_among, name_eq}
use Rattle.hep_names.specs.Tables.{either}
use Rattle.hep_conditions.specs.Statements.{bare_name}
use Rattle.hep_places.proofs.bare_actuals.add_names.Given as goal

abbrev pub invariant-loop-actual : goal.invariant-loop-actual
invariant-loop-actual l = (x : Name) → either (contains name_eq l.names x) (is_among x (flat_map bare_name (drop l.actual-index l.actuals))) ≡ either (contains name_eq l.initial.names x) (is_among x (flat_map bare_name l.actuals))
