use Rattle.std.proofs.Common.{◌≡◌, drop}
use Rattle.std.specs.List.{list_all}
use Rattle.hep_names.specs.Parts.{is_typed}
use Rattle.hep_names.proofs.untyped_names.are_typed.Given as goal

abbrev pub invariant-loop-name : goal.invariant-loop-name
invariant-loop-name l = list_all (is_typed l.symbols) (drop l.name-index l.names) ≡ list_all (is_typed l.symbols) l.names
