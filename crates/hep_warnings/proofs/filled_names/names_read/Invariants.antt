use Rattle.std.proofs.Common.{◌≡◌, ◌++◌, drop}
use Rattle.std.specs.List.{flat_map}
use Rattle.hep_warnings.specs.Asynchronous.{reads_in}
use Rattle.hep_warnings.proofs.filled_names.names_read.Given as goal

abbrev pub invariant-loop-statement : goal.invariant-loop-statement
invariant-loop-statement l =
    l.found.items ++ flat_map (reads_in l.symbols) (drop l.statement-index l.statement-items) ≡ flat_map (reads_in l.symbols) l.symbols
