use Rattle.std.proofs.Common.{◌≡◌, ◌-◌}
use Rattle.hep_core.specs.CoreValues.{free_of}
use Rattle.hep_outcome.specs.LotDraws.{further}
use Rattle.hep_outcome.proofs.random.further.Given as goal

abbrev pub invariant-loop : goal.invariant-loop
invariant-loop l = further l.count l.p (free_of l.core.core) ≡ further (l.count - l.counter) l.at (free_of l.core.core)
