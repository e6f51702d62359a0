use Rattle.hep_binding.proofs.EnteredFrames.{made-keeps}
use Rattle.hep_binding.proofs.laws.frames_are_entered.Goals as goal

pub returns : goal.returns
returns c creates call layout first cells out arena nodes lives laid = made-keeps creates call lives layout first cells laid out arena nodes
