use Rattle.std.proofs.Common.{◌≡◌, ◌++◌, length, map}
use Rattle.hep_text.specs.Line.{lines}
use Rattle.hep_text.proofs.listing.Listing.new.Given as goal

abbrev pub decreases-loop-rest : goal.decreases-loop-rest
decreases-loop-rest l = length l.rest

abbrev pub invariant-loop-rest : goal.invariant-loop-rest
invariant-loop-rest l = map (λ line. line.now) l.found.items ++ lines l.rest ≡ lines l.source
