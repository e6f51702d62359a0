use Rattle.std.proofs.Common.{◌≡◌, ◌++◌, drop}
use Rattle.hep_machine.specs.Words.{trees_of}
use Rattle.hep_warnings.specs.Asynchronous.{names_passed}
use Rattle.hep_warnings.proofs.filled_names.add_passed.Given as goal

abbrev pub invariant-loop-actual : goal.invariant-loop-actual
invariant-loop-actual l =
    l.names.items ++ names_passed (trees_of (drop l.actual-index l.actuals)) ≡ l.initial.names.items ++ names_passed (trees_of l.actuals)
