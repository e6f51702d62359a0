use Rattle.std.proofs.Common.{◌≡◌, drop}
use Rattle.std.specs.List.{list_any}
use Rattle.hep_types.specs.AmbiguityLines.{reaches}
use Rattle.hep_types.proofs.letters.is_any_reaching.Given as goal

abbrev pub invariant-loop-last : goal.invariant-loop-last
invariant-loop-last l = list_any (reaches l.letter) (drop l.last-index l.lasts) ≡ list_any (reaches l.letter) l.lasts
