use Rattle.std.proofs.Common.{ℕ, Bool, sym, subst, Ok}
use Rattle.hep_replay.specs.Progress.{EntryMade, SomeMade}
use Rattle.hep_replay.proofs.ReplayTurns.{once, some_steps}
use Rattle.hep_replay.proofs.history_replay.make_some.Goals as goal

pub returns-then-entry-eq1-clause-made : goal.returns-then-entry-eq1-clause-made
returns-then-entry-eq1-clause-made c =
    let old = c.args.core.now.core in
    subst (λ (n : ℕ). SomeMade old (record { process = c.args.entry.process; steps = n }) (Ok c.in_ok-made.made) c.make_some_steps.new.core.core) (sym c.if-entry-eq1.true) (
    some_steps old c.make_some_steps.new.core.core c.args.entry.process c.in_ok-made.made c.requires.standing c.in_ok-made.ensures.made)

pub returns-then-branch-clause-made : goal.returns-then-branch-clause-made
returns-then-branch-clause-made c =
    let old = c.args.core.now.core in
    let new = c.make_entry.new.core.core in
    once c.args.entry old new (subst (λ (b : Bool). EntryMade old c.args.entry (Ok b) new) c.if-branch.true c.in_ok-make_entry.ensures)
