use Rattle.hep_check.proofs.Complete.{common-complete, data-complete, jumps-complete, labels-complete, names-complete, structure-complete}
use Rattle.hep_check.proofs.diagnostics_laws.shared_violations_are_told.Goals as goal

pub returns : goal.returns
returns c = record {
  common = λ program v h. common-complete program v h;
  labels = λ program unit v there h. labels-complete program unit there v h;
  structure = λ program unit v there h. structure-complete program unit there v h;
  jumps = λ program unit v there h. jumps-complete program unit there v h;
  names = λ program v h. names-complete program v h;
  values = λ program unit v there h. data-complete program unit there v h;
}
