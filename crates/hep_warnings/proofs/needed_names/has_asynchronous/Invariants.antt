use Rattle.std.proofs.Common.{◌≡◌, drop}
use Rattle.std.specs.List.{list_any}
use Rattle.hep_warnings.specs.SingleOccurrences.{is_asynchronous}
use Rattle.hep_warnings.proofs.needed_names.has_asynchronous.Given as goal

abbrev pub invariant-loop-occurrence : goal.invariant-loop-occurrence
invariant-loop-occurrence l = list_any is_asynchronous (drop l.occurrence-index l.occurrences) ≡ list_any is_asynchronous l.occurrences
