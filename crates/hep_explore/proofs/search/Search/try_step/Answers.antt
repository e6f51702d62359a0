use Rattle.std.proofs.Common.{◌∷◌, ◌++◌, [], arith, refl, subst}
use Rattle.hep_explore.specs.Searching.{known_of}
use Rattle.hep_explore.specs.Successors.{IsSuccessor}
use Rattle.hep_explore.proofs.SearchedStates.{stays_on}
use Rattle.hep_explore.proofs.Paths.{counts_after}
use Rattle.hep_explore.proofs.TriedSteps.{full_step, tried_full, tried_made, tried_none, visit_of}
use Rattle.hep_explore.proofs.search.Search.try_step.Goals as goal

pub successor-requires : goal.successor-requires
successor-requires c =
    record {
      reached = (c.args.self.now.cells, c.requires.numbered.choices, c.requires.numbered.after);
      running = c.requires.running;
      countable = omega (arith, c.requires.countable);
      numerable = omega (arith, c.requires.numerable);
    }

pub make_pure_steps-requires : goal.make_pure_steps-requires
make_pure_steps-requires c =
    let program = c.args.image.now in
    let numbered = c.requires.numbered in
    let is = subst (IsSuccessor program c.args.origin.process c.args.machine.now) c.in-Machine.is c.in_ok-next.ensures in
    let after = (is c.args.self.now.cells numbered.choices numbered.after).after in
    let counts =
    counts_after program c.args.self.now.cells numbered.choices c.args.origin.process c.args.machine.now c.in-Machine.next numbered.after
    after
    in
    record {
      reached = (c.args.self.now.cells, numbered.choices ++ c.args.origin.process ∷ [], after);
      countable = omega (arith, counts.0, c.requires.countable);
      numerable = omega (arith, counts.1, c.requires.numerable);
    }

pub visit-requires-clause-visit : goal.visit-requires-clause-visit
visit-requires-clause-visit c =
    visit_of c.args.image.now c.args.machine.now (record c.args.origin { pure = c.in_ok-pure-in-Machine.pure }) c.in-Machine.next
    c.make_pure_steps.new.machine (
    subst (IsSuccessor c.args.image.now c.args.origin.process c.args.machine.now) c.in-Machine.is c.in_ok-next.ensures)
    c.in_ok-pure-in-Machine.ensures (
    c.machines_with_equal_keys_keep_the_same_states.ensures c.args.image.now) (known_of c.args.self.now) c.requires.numbered

pub returns-in_ok-visit-in-Machine : goal.returns-in_ok-visit-in-Machine
returns-in_ok-visit-in-Machine c =
    record {
      search = c.in_ok-visit-in-Machine.ensures.search;
      goes_on = c.in_ok-visit-in-Machine.ensures.goes_on;
      same = c.in_ok-visit-in-Machine.ensures.same;
      tried = tried_made c.args.image.now c.args.machine.now (record c.args.origin { pure = c.in_ok-pure-in-Machine.pure })
          c.in-Machine.next c.make_pure_steps.new.machine (
          subst (IsSuccessor c.args.image.now c.args.origin.process c.args.machine.now) c.in-Machine.is c.in_ok-next.ensures)
          c.in_ok-pure-in-Machine.ensures (known_of c.visit.new.self) c.in_ok-visit-in-Machine.ensures.found;
    }

pub returns-in-Full : goal.returns-in-Full
returns-in-Full c =
    let is = subst (IsSuccessor c.args.image.now c.args.origin.process c.args.machine.now) c.in-Full.is c.in_ok-next.ensures in
    let step =
    full_step c.args.image.now c.args.machine.now (c.machines_with_equal_keys_keep_the_same_states.ensures c.args.image.now)
    (known_of c.args.self.now) c.args.origin c.requires.numbered is
    in
    record {
      search = c.note_full.ensures.search c.args.image.now c.requires.search step;
      goes_on = c.note_full.ensures.goes_on;
      same = c.note_full.ensures.same;
      tried = tried_full c.args.image.now c.args.machine.now (known_of c.note_full.new.self) c.args.origin.process
          c.note_full.ensures.full is;
    }

pub returns-in-Nothing : goal.returns-in-Nothing
returns-in-Nothing c =
    record {
      search = c.requires.search;
      goes_on = stays_on (known_of c.args.self.now);
      same = refl;
      tried = tried_none c.args.image.now c.args.machine.now (known_of c.args.self.now) c.args.origin.process (
          subst (IsSuccessor c.args.image.now c.args.origin.process c.args.machine.now) c.in-Nothing.is c.in_ok-next.ensures);
    }
