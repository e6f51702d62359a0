-- The variables of a unit's frame, as they are computed: docs/MACHINE.md, "Variables and frames".
use Rattle.std.specs.Prelude.{◌+◌, ◌*◌, List, ◌++◌, map}
use Rattle.std.specs.Option.{unwrap_or}
use Rattle.hep_machine.specs.Words.{Name, Statement, index_among, dummies_of, is_array}
use Rattle.hep_image.specs.Names.{variable_index}
use Rattle.hep_image.specs.declared.owners.FrameVariable.{FrameVariable}
use Rattle.hep_storage.specs.Starts.{narrowed}
use Rattle.hep_places.specs.StorageStarts.{Table}

abbrev pub argument_found : List Statement → Name → FrameVariable
argument_found unit x =
    record { index = variable_index unit x; first = narrowed (1 + 2 * unwrap_or (index_among x (dummies_of unit)) 0); is_array = is_array unit x }

-- a local variable, by a table of them
abbrev pub local_found : List Statement → Table → Name → FrameVariable
local_found unit locals x = record { index = variable_index unit x; first = unwrap_or (locals x) 0; is_array = is_array unit x }

abbrev pub variables_found : List Statement → Table → List Name → List Name → List FrameVariable
variables_found unit locals dummies names = map (argument_found unit) dummies ++ map (local_found unit locals) names
