use Rattle.std.proofs.Common.{◌≡◌, drop}
use Rattle.std.specs.Prelude.{find}
use Rattle.hep_check.specs.NameClashes.{is_named}
use Rattle.hep_check.proofs.name_clashes.first_named.Given as goal

abbrev pub invariant-loop-occurrence : goal.invariant-loop-occurrence
invariant-loop-occurrence l = find (is_named l.name) (drop l.occurrence-index l.occurrences) ≡ find (is_named l.name) l.occurrences
