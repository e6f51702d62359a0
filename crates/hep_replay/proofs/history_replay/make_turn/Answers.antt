use Rattle.std.proofs.Common.{Err, subst}
use Rattle.hep_core.specs.declared.core_fault.ChooseFault.{ChooseFault}
use Rattle.hep_core.specs.CoreValues.{IsChoice}
use Rattle.hep_replay.proofs.ReplayTurns.{nobody_turns, stopped_turns, turn_made}
use Rattle.hep_replay.proofs.history_replay.make_turn.Goals as goal

pub returns-in-Ok : goal.returns-in-Ok
returns-in-Ok c = turn_made c.args.core.now.core c.choose.new.self.core c.args.process c.args.waits c.in-Ok.turn c.requires c.in-Ok.ensures.chosen

pub returns-in-Err-Stopped : goal.returns-in-Err-Stopped
returns-in-Err-Stopped c =
    let old = c.args.core.now.core in
    stopped_turns old c.choose.new.self.core c.args.process c.args.waits c.in-Err-Stopped.field-0-0 c.requires (
    subst (λ (fault : ChooseFault). IsChoice old c.args.process (Err fault) c.choose.new.self.core) c.in-Err-Stopped.field-0-is c.in-Err-Stopped.ensures.chosen)

pub returns-in-Err-NoSuchProcess : goal.returns-in-Err-NoSuchProcess
returns-in-Err-NoSuchProcess c =
    let old = c.args.core.now.core in
    nobody_turns old c.choose.new.self.core c.args.process c.args.waits (
    subst (λ (fault : ChooseFault). IsChoice old c.args.process (Err fault) c.choose.new.self.core) c.in-Err-NoSuchProcess.field-0-is c.in-Err-NoSuchProcess.ensures.chosen)
