use Rattle.hep_layout.proofs.Runs.{runs-value}
use Rattle.hep_layout.proofs.Storages.{storage-common, storage-dummy, storage-local}
use Rattle.hep_layout.proofs.laws.variables_are_kept_in_runs.Goals as goal

pub returns : goal.returns
returns c = record { local = storage-local; common = storage-common; dummy = storage-dummy; value = runs-value }
