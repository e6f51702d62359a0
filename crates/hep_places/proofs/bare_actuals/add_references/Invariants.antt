use Rattle.std.proofs.Common.{◌≡◌, drop, map}
use Rattle.std.specs.List.{flat_map}
use Rattle.indexmap.specs.IndexSet.{contains}
use Rattle.hep_machine.specs.Words.{Name, is_among, name_eq}
use Rattle.hep_names.specs.Lists.{listed}
use Rattle.hep_names.specs.Tables.{either}
use Rattle.hep_image.specs.Private.{bare_in_list}
use Rattle.hep_places.proofs.bare_actuals.add_references.Given as goal

abbrev pub invariant-loop-reference : goal.invariant-loop-reference
invariant-loop-reference l =
    (x : Name) → either (contains name_eq l.names x) (is_among x (flat_map (bare_in_list l.symbols) (map listed (drop l.reference-index l.references)))) ≡ either (contains name_eq l.initial.names x) (is_among x (flat_map (bare_in_list l.symbols) (map listed l.references)))
