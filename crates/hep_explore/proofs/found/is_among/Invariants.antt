use Rattle.std.proofs.Common.{◌≡◌, drop}
use Rattle.std.specs.List.{list_any}
use Rattle.hep_explore.specs.FoundOutcomes.{is_like}
use Rattle.hep_explore.proofs.found.is_among.Given as goal

abbrev pub invariant-loop-found : goal.invariant-loop-found
invariant-loop-found l = list_any (is_like l.one) (drop l.found-index l.all) ≡ list_any (is_like l.one) l.all
