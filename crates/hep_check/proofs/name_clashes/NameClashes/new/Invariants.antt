use Rattle.std.proofs.Common.{◌≡◌, ℕ, nat_eq, drop}
use Rattle.std.specs.Option.{option_or}
use Rattle.indexmap.specs.IndexMap.{get}
use Rattle.hep_check.specs.NameClashes.{name_at}
use Rattle.hep_check.proofs.name_clashes.NameClashes.new.Given as goal

abbrev pub invariant-loop-ambiguity : goal.invariant-loop-ambiguity
invariant-loop-ambiguity l =
    (line : ℕ) → option_or (get nat_eq l.names.map line) (name_at line (drop l.ambiguity-index l.ambiguity-items)) ≡ name_at line l.ambiguity-items
