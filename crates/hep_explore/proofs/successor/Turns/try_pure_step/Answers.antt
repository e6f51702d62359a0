use Rattle.hep_explore.proofs.PureAhead.{no_pure_steps}
use Rattle.hep_explore.proofs.successor.Turns.try_pure_step.Goals as goal

pub lives-requires : goal.lives-requires
lives-requires c = c.requires.reached.2.numbers

pub returns-then-machine : goal.returns-then-machine
returns-then-machine c = no_pure_steps c.args.image.now c.args.p c.args.machine.now

pub returns-then-not-lives : goal.returns-then-not-lives
returns-then-not-lives c = no_pure_steps c.args.image.now c.args.p c.args.machine.now

pub returns-then-not-branch : goal.returns-then-not-branch
returns-then-not-branch c = no_pure_steps c.args.image.now c.args.p c.args.machine.now

pub is_next_pure-requires : goal.is_next_pure-requires
is_next_pure-requires c =
    record { after = c.requires.reached; running = c.if-machine.false; living = c.lives.ensures.levels c.if-not-lives.false }

pub make_pure_step-requires : goal.make_pure_step-requires
make_pure_step-requires c =
    record {
      turn = record {
        after = c.requires.reached;
        running = c.if-machine.false;
        living = c.lives.ensures.levels c.if-not-lives.false;
      };
      pure = c.in_ok-is_next_pure.ensures c.if-not-branch.false;
      countable = c.requires.countable;
      numerable = c.requires.numerable;
    }

pub returns : goal.returns
returns c = c.in_ok-make_pure_step.ensures
