use Rattle.hep_layout.proofs.Addresses.{one-frame_cell}
use Rattle.hep_layout.proofs.Descriptors.{descriptor-apart}
use Rattle.hep_layout.proofs.laws.descriptors_are_apart.Goals as goal

pub returns : goal.returns
returns c = record {
  one = one-frame_cell;
  units = λ program s cells layout at a p d laid is k e. descriptor-apart program s cells layout at a p d laid e k is;
}
