use Rattle.std.proofs.Common.{◌≡◌, ◌++◌, drop}
use Rattle.std.specs.List.{flat_map}
use Rattle.hep_explore.specs.Explored.{found_text}
use Rattle.hep_explore.proofs.found.text_of.Given as goal

abbrev pub invariant-loop-found : goal.invariant-loop-found
invariant-loop-found l = l.text.items ++ flat_map found_text (drop l.found-index l.all) ≡ flat_map found_text l.all
