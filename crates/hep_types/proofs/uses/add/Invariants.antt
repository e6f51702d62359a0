use Rattle.std.proofs.Common.{◌≡◌, ◌++◌, drop}
use Rattle.hep_types.specs.Uses.{used_at}
use Rattle.hep_types.proofs.uses.add.Given as goal

abbrev pub invariant-loop-name : goal.invariant-loop-name
invariant-loop-name l = l.uses.items ++ used_at l.line (drop l.name-index l.names) ≡ l.initial.uses.items ++ used_at l.line l.names
