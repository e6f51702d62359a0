use Rattle.std.proofs.Common.{Err, subst}
use Rattle.hep_core.specs.declared.core_fault.ChooseFault.{ChooseFault}
use Rattle.hep_core.specs.CoreValues.{IsChoice}
use Rattle.hep_replay.proofs.ReplayTurns.{nobody_turns, stopped_turns, turn_made}
use Rattle.hep_trace.proofs.trace_lines.make_turn.Goals as goal

pub returns-in-Ok-clause-made : goal.returns-in-Ok-clause-made
returns-in-Ok-clause-made c =
    turn_made c.args.core.now.core c.choose.new.self.core c.args.p c.args.waits c.in-Ok.turn c.requires c.in-Ok.ensures.chosen

pub returns-in-Ok-clause-turned : goal.returns-in-Ok-clause-turned
returns-in-Ok-clause-turned c is = (c.in-Ok.turn.steps, c.in-Ok.turn.blocked, c.in-Ok.ensures.chosen.3)

pub returns-in-Err-Stopped-clause-made : goal.returns-in-Err-Stopped-clause-made
returns-in-Err-Stopped-clause-made c =
    let old = c.args.core.now.core in
    stopped_turns old c.choose.new.self.core c.args.p c.args.waits c.in-Err-Stopped.field-0-0 c.requires (
    subst (λ (fault : ChooseFault). IsChoice old c.args.p (Err fault) c.choose.new.self.core) c.in-Err-Stopped.field-0-is c.in-Err-Stopped.ensures.chosen)

pub returns-in-Err-NoSuchProcess-clause-made : goal.returns-in-Err-NoSuchProcess-clause-made
returns-in-Err-NoSuchProcess-clause-made c =
    let old = c.args.core.now.core in
    nobody_turns old c.choose.new.self.core c.args.p c.args.waits (
    subst (λ (fault : ChooseFault). IsChoice old c.args.p (Err fault) c.choose.new.self.core) c.in-Err-NoSuchProcess.field-0-is c.in-Err-NoSuchProcess.ensures.chosen)
