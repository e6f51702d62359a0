use Rattle.hep_layout.proofs.Memory.{address-left, frame-is-out, memory-left}
use Rattle.hep_layout.proofs.laws.frames_leave.Goals as goal

pub returns : goal.returns
returns c = record {
  out = frame-is-out;
  memory = memory-left;
  addresses = λ program s a cells layout at laid other. address-left program s a layout cells at laid other;
}
