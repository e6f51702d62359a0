use Rattle.std.proofs.Common.{◌≡◌, ◌++◌, drop}
use Rattle.std.specs.List.{flat_map}
use Rattle.hep_outcome.specs.Tallies.{tally_text}
use Rattle.hep_outcome.proofs.tally.lines_of.Given as goal

abbrev pub invariant-loop-tally : goal.invariant-loop-tally
invariant-loop-tally l = l.text.items ++ flat_map (tally_text l.runs) (drop l.tally-index l.tallies) ≡ flat_map (tally_text l.runs) l.tallies
