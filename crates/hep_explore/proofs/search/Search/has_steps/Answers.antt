use Rattle.std.proofs.Common.{refl}
use Rattle.hep_explore.specs.Searching.{known_of}
use Rattle.hep_explore.proofs.SearchedStates.{stays_on}
use Rattle.hep_explore.proofs.TriedSteps.{halted_try, whole_try}
use Rattle.hep_explore.proofs.search.Search.has_steps.Goals as goal

pub returns-then-machine : goal.returns-then-machine
returns-then-machine c =
    record {
      search = c.requires.search;
      goes_on = stays_on (known_of c.args.self.now);
      same = refl;
      tried = halted_try c.args.image.now c.args.machine.now (known_of c.args.self.now) c.if-machine.true;
    }

pub returns-clause-tried : goal.returns-clause-tried
returns-clause-tried c =
    whole_try c.args.image.now c.args.machine.now (known_of c.try_all.new.self) c.in_ok-try_all.field-0 c.in_ok-try_all.ensures.tried
