use Rattle.std.proofs.Common.{◌≡◌, drop}
use Rattle.std.specs.List.{flat_map}
use Rattle.indexmap.specs.IndexSet.{contains}
use Rattle.hep_machine.specs.Words.{Name, is_among, name_eq}
use Rattle.hep_names.specs.Tables.{either}
use Rattle.hep_image.specs.Private.{bare_actuals, bare_actuals_of}
use Rattle.hep_places.proofs.bare_actuals.bare_actuals.Given as goal

abbrev pub invariant-loop-statement : goal.invariant-loop-statement
invariant-loop-statement l = (x : Name) → either (contains name_eq l.names x) (is_among x (flat_map (bare_actuals_of l.symbols) (drop l.statement-index l.symbols))) ≡ is_among x (bare_actuals l.symbols)
