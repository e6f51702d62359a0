use Rattle.hep_check.proofs.Complete.{arguments-complete, counts-complete, resume-complete, types-complete, unknown-complete, untyped-complete}
use Rattle.hep_check.proofs.diagnostics_laws.violations_of_statements_are_told.Goals as goal

pub returns : goal.returns
returns c = record {
  untyped = λ program unit v there h. untyped-complete program unit there v h;
  typed = λ program unit v there d h. types-complete program unit there v d h;
  counted = λ program unit v there h. counts-complete program unit there v h;
  given = λ program unit v there d h. arguments-complete program unit there v d h;
  known = λ program unit v there h. unknown-complete program unit there v h;
  resumed = λ program unit v there h. resume-complete program unit there v h;
}
