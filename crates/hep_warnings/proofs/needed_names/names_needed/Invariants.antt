use Rattle.std.proofs.Common.{◌≡◌, ◌++◌, drop}
use Rattle.std.specs.List.{flat_map}
use Rattle.hep_machine.specs.Words.{Statement}
use Rattle.hep_warnings.specs.SingleOccurrences.{names_needed, names_needed_in}
use Rattle.hep_warnings.proofs.needed_names.names_needed.Given as goal

abbrev pub invariant-loop-statement : goal.invariant-loop-statement
invariant-loop-statement l =
    l.names.items ++ flat_map (λ (s : Statement). names_needed l.symbols s.form) (drop l.statement-index l.statement-items) ≡ names_needed_in l.symbols
