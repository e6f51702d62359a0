use Rattle.hep_binding.proofs.Calls.{step-made}
use Rattle.hep_binding.proofs.laws.calls_make_activations.Goals as goal

pub returns : goal.returns
returns c way call x on called passing next = step-made call x on passing way called next
