use Rattle.std.proofs.Common.{◌≡◌, ◌++◌, drop, map}
use Rattle.hep_event.specs.Variables.{variables_of_names, variables_of_units}
use Rattle.hep_event.proofs.variables.variables_of_units.Given as goal

abbrev pub invariant-loop-index : goal.invariant-loop-index
invariant-loop-index l = l.units.items ++ map (variables_of_names l.image) (drop l.index l.image) ≡ variables_of_units l.image
