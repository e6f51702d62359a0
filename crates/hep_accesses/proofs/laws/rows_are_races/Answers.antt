use Rattle.hep_accesses.proofs.RowsAreDistinct.{rows-distinct}
use Rattle.hep_accesses.proofs.RowsAreRaces.{rows-complete, rows-sound}
use Rattle.hep_accesses.proofs.laws.rows_are_races.Goals as goal

pub returns : goal.returns
returns c = record {
  sound = λ same alike es r laws k. rows-sound same alike laws es r k;
  complete = λ same alike es d y laws race. rows-complete same alike laws es d y race;
  distinct = λ same alike es laws. rows-distinct same alike laws es;
}
