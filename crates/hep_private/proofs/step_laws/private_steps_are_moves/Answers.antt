use Rattle.std.proofs.Common.{◌≡◌, drop, Some, subst, sym}
use Rattle.hep_step.specs.Effects.{effect_at, moves}
use Rattle.hep_private.specs.OwnState.{Values, contents_after}
use Rattle.hep_private.specs.StepRecords.{made_ahead}
use Rattle.hep_private.proofs.StepEffects.{moved-ahead}
use Rattle.hep_private.proofs.step_laws.private_steps_are_moves.Goals as goal

pub returns : goal.returns
returns c code arrays cells first contents own m same made =
    moved-ahead code arrays cells first contents own.operands own.index own.written (drop own.index code) m (
    subst (λ (v : Values). made_ahead cells (record own { values = v }) (drop own.index code) ≡ Some m) same made)
