use Rattle.std.proofs.Common.{◌∙◌, refl}
use Rattle.hep_explore.specs.Searching.{known_of}
use Rattle.hep_explore.proofs.SearchedStates.{numbered_on, stays_on, then_on}
use Rattle.hep_explore.proofs.TriedSteps.{tried_more, tried_zero}
use Rattle.hep_explore.proofs.search.Search.try_all.Goals as goal

pub loop-before-init : goal.loop-before-init
loop-before-init c =
    record {
      search = c.requires.search;
      goes_on = stays_on (known_of c.args.self.now);
      same = refl;
      tried = tried_zero c.args.image.now c.args.machine.now (known_of c.args.self.now);
    }

pub try_step-requires-clause-numbered : goal.try_step-requires-clause-numbered
try_step-requires-clause-numbered c =
    numbered_on c.args.image.now (known_of c.args.self.now) (known_of c.loop-before.self) c.loop-before.invariant.goes_on.kept c.args.from
    c.args.machine.now c.requires.numbered

pub loop-before-preserved : goal.loop-before-preserved
loop-before-preserved c =
    let first = known_of c.args.self.now in
    let old = known_of c.loop-before.self in
    let new = known_of c.try_step.new.self in
    let on = c.in_ok-tried.ensures.goes_on in
    record {
      search = c.in_ok-tried.ensures.search;
      goes_on = then_on first old new c.loop-before.invariant.goes_on on;
      same = c.in_ok-tried.ensures.same ∙ c.loop-before.invariant.same;
      tried = tried_more c.args.image.now c.args.machine.now old new on c.loop-before.before c.loop-before.moved
          c.loop-before.invariant.tried c.in_ok-tried.tried c.in_ok-tried.ensures.tried;
    }
