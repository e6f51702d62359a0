use Rattle.hep_accepted_laws.proofs.NameMeanings.{reference_known, assigned_known, data_known, purged_known}
use Rattle.hep_accepted_laws.proofs.names.lists_have_meanings.Goals as goal

pub returns : goal.returns
returns c = record {
  expressions = reference_known;
  assigned = assigned_known;
  «data» = data_known;
  purged = purged_known;
}
