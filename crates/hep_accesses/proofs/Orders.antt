-- What happens before is a strict order.
use Rattle.std.proofs.Common.{◌<◌, ℕ, List, arith}
use Rattle.hep_accesses.specs.Events.{Event}
use Rattle.hep_accesses.specs.HappensBefore.{IsBefore, directly, transitively}

module _ {L S : Type 0} {es : List (Event L S)} where
  -- a step is later in the run than those before it
  pub before-earlier : {i j : ℕ} → IsBefore es i j → i < j
  before-earlier (directly d) = d.earlier
  before-earlier (transitively b d) = omega (arith, before-earlier b, d.earlier)

  -- what is before a step is before those that this one is before
  pub before-transitive : {i j k : ℕ} → IsBefore es i j → IsBefore es j k → IsBefore es i k
  before-transitive a (directly d) = transitively a d
  before-transitive a (transitively b d) = transitively (before-transitive a b) d
