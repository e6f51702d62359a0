use Rattle.std.proofs.Common.{◌≡◌, ◌++◌, drop}
use Rattle.std.specs.List.{flat_map}
use Rattle.hep_machine.specs.Words.{ImplicitGroup}
use Rattle.hep_types.specs.AmbiguityLines.{ranges_at}
use Rattle.hep_types.proofs.letters.add_groups.Given as goal

abbrev pub invariant-loop-group : goal.invariant-loop-group
invariant-loop-group l =
    l.found.items ++ ranges_at l.line (flat_map (λ (g : ImplicitGroup). g.letters) (drop l.group-index l.groups))
    ≡ l.initial.found.items ++ ranges_at l.line (flat_map (λ (g : ImplicitGroup). g.letters) l.groups)
