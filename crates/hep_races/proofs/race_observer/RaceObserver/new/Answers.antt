use Rattle.std.proofs.Common.{[], refl}
use Rattle.hep_races.specs.ObservedRuns.{none}
use Rattle.hep_races.proofs.race_observer.RaceObserver.new.Goals as goal

pub returns : goal.returns
returns c replay =
    record {
      variables = c.in_ok-variables.ensures;
      names = c.in_ok-names.ensures;
      bounds = c.in_ok-bounds.ensures;
      watches = c.in_ok-watches.ensures;
      noted = [];
      detected = c.new-3.ensures;
      same = none 0;
      counted = c.new-3.ensures.steps;
      first = λ alone. refl;
    }
