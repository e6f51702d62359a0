use Rattle.std.proofs.Common.{◌≡◌, ◌++◌, drop, option_to_list}
use Rattle.std.specs.List.{flat_map}
use Rattle.hep_control.specs.declared.region.Jump.{Jump}
use Rattle.hep_control.specs.Jumps.{line_to_division}
use Rattle.hep_control.proofs.labels.add_to_division.Given as goal

abbrev pub invariant-loop-jump : goal.invariant-loop-jump
invariant-loop-jump l =
    l.lines.items ++ flat_map (λ (j : Jump). option_to_list (line_to_division l.unit j)) (drop l.jump-index l.jumps)
    ≡ l.initial.lines.items ++ flat_map (λ (j : Jump). option_to_list (line_to_division l.unit j)) l.jumps
