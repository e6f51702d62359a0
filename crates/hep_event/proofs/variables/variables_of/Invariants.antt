use Rattle.std.proofs.Common.{◌≡◌, ◌++◌, drop, map}
use Rattle.hep_code.specs.Placements.{variable_in}
use Rattle.hep_event.proofs.variables.variables_of.Given as goal

abbrev pub invariant-loop-name : goal.invariant-loop-name
invariant-loop-name l = l.variables.items ++ map (variable_in l.places) (drop l.name-index l.names) ≡ map (variable_in l.places) l.names
