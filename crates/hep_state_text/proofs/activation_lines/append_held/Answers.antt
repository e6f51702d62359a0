use Rattle.std.proofs.Common.{subst}
use Rattle.hep_state_text.specs.Frames.{IsHeldIfAny}
use Rattle.hep_state_text.proofs.activation_lines.append_held.Goals as goal

pub append_frame-requires : goal.append_frame-requires
append_frame-requires c = subst (IsHeldIfAny c.args.storage.now c.args.machine.now) c.in-Some.is c.requires
