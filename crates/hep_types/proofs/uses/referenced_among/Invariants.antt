use Rattle.std.proofs.Common.{◌≡◌, ◌++◌, drop}
use Rattle.std.specs.List.{filter}
use Rattle.hep_machine.specs.Words.{is_referenced}
use Rattle.hep_types.proofs.uses.referenced_among.Given as goal

abbrev pub invariant-loop-name : goal.invariant-loop-name
invariant-loop-name l = l.found.items ++ filter (is_referenced l.symbols) (drop l.name-index l.names) ≡ filter (is_referenced l.symbols) l.names
