use Rattle.std.proofs.Common.{◌≡◌, ◌++◌, drop, map}
use Rattle.std.specs.List.{flat_map}
use Rattle.hep_names.specs.Parts.{part}
use Rattle.hep_names.proofs.parts.add_all.Given as goal

abbrev pub invariant-loop-thing : goal.invariant-loop-thing
invariant-loop-thing g l = map part l.found.items ++ flat_map g.T.HasParts.parts (drop l.thing-index l.things) ≡ map part l.initial.found.items ++ flat_map g.T.HasParts.parts l.things
