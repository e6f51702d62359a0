use Rattle.std.proofs.Common.{◌≡◌, ◌++◌, drop, map}
use Rattle.hep_outcome.specs.Tallies.{Tally}
use Rattle.hep_outcome.proofs.tally.seeds_of.Given as goal

abbrev pub invariant-loop-tally : goal.invariant-loop-tally
invariant-loop-tally l = l.seeds.items ++ map (λ (t : Tally). t.seed) (drop l.tally-index l.tallies) ≡ map (λ (t : Tally). t.seed) l.tallies
