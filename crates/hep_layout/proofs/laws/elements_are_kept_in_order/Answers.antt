use Rattle.hep_layout.proofs.Storages.{dummy-runs, element-address}
use Rattle.hep_layout.proofs.laws.elements_are_kept_in_order.Goals as goal

pub returns : goal.returns
returns c = record { element = element-address; actual = dummy-runs }
