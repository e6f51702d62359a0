use Rattle.hep_machine.specs.Words.{same_location}
use Rattle.hep_accesses.proofs.RowsAreDistinct.{rows-distinct}
use Rattle.hep_accesses.proofs.RowsAreRaces.{rows-complete, rows-sound}
use Rattle.hep_accesses.proofs.SameRows.{same-rows}
use Rattle.hep_accesses.specs.Accesses.{same_site}
use Rattle.hep_accesses.specs.RunEvents.{events_of}
use Rattle.hep_accesses.proofs.SiteTests.{site-equivalence}
use Rattle.hep_accesses.proofs.laws.rows_of_runs_are_races.Goals as goal

pub returns : goal.returns
returns c = record {
  sound = λ program processes r k. rows-sound same_location same_site site-equivalence (events_of program processes) r k;
  complete = λ program processes d y race. rows-complete same_location same_site site-equivalence (events_of program processes) d y race;
  distinct = λ program processes. rows-distinct same_location same_site site-equivalence (events_of program processes);
  clocks = λ program processes. same-rows same_location same_site site-equivalence (events_of program processes);
}
