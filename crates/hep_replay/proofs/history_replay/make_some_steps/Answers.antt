use Rattle.std.proofs.Common.{◌≡◌, ◌≤◌, ℕ, Err, Ok, false, inl, inr, subst}
use Rattle.hep_core.specs.declared.core_fault.ChooseFault.{ChooseFault}
use Rattle.hep_core.specs.declared.stop.Turns.{Turns}
use Rattle.hep_core.specs.SilentChoices.{AreTurns}
use Rattle.hep_core.specs.CoreValues.{CoreValue, IsChoice}
use Rattle.hep_replay.specs.Progress.{IsStanding, SomeStepsMade}
use Rattle.hep_replay.proofs.ReplayTurns.{nobody_turns, steps_moved, steps_turned, stopped_turns}
use Rattle.hep_replay.proofs.history_replay.make_some_steps.Goals as goal

made-so : (p : ℕ) (old : CoreValue) (turns : Turns) (new : CoreValue) → IsStanding old → 1 ≤ turns.made → turns.blocked ≡ false → AreTurns old p turns new → SomeStepsMade old p (Ok turns.made) new
made-so p old turns new h some stepped (inl made) = steps_moved p old turns.made new h some made.1
made-so p old turns new h some stepped (inr made) = steps_turned p old new made.1.0 turns.blocked turns.made made.0 h made.1.1 made.1.2 stepped

pub returns-else-turns-clause-made : goal.returns-else-turns-clause-made
returns-else-turns-clause-made c =
    made-so c.args.process c.args.core.now.core c.in-Ok.turns c.go_on.new.self.core c.requires.standing c.in-Ok.ensures.some c.if-turns.false c.in-Ok.ensures.made

pub returns-in-Err-Stopped-clause-made : goal.returns-in-Err-Stopped-clause-made
returns-in-Err-Stopped-clause-made c =
    let old = c.args.core.now.core in
    stopped_turns old c.go_on.new.self.core c.args.process false c.in-Err-Stopped.field-0-0 c.requires.standing (
    subst (λ (fault : ChooseFault). IsChoice old c.args.process (Err fault) c.go_on.new.self.core) c.in-Err-Stopped.field-0-is c.in-Err-Stopped.ensures.refused)

pub returns-in-Err-NoSuchProcess-clause-made : goal.returns-in-Err-NoSuchProcess-clause-made
returns-in-Err-NoSuchProcess-clause-made c =
    let old = c.args.core.now.core in
    nobody_turns old c.go_on.new.self.core c.args.process false (
    subst (λ (fault : ChooseFault). IsChoice old c.args.process (Err fault) c.go_on.new.self.core) c.in-Err-NoSuchProcess.field-0-is c.in-Err-NoSuchProcess.ensures.refused)
