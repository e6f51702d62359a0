use Rattle.hep_code.proofs.Entries.{actuals_passed, references_passed, items_shown}
use Rattle.hep_code.proofs.laws.entries_stand_for_lists.Goals as goal

pub returns : goal.returns
returns c = record {
  actuals = λ variables actuals more. actuals_passed variables actuals more;
  purged = λ variables references more. references_passed variables references more;
  printed = λ items more. items_shown items more;
}
