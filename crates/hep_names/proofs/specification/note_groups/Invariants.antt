use Rattle.std.proofs.Common.{◌≡◌, ◌<◌, ℕ, drop, get_or, None}
use Rattle.std.specs.Option.{option_or}
use Rattle.hep_machine.specs.Declarations as declarations
use Rattle.hep_names.proofs.specification.note_groups.Given as goal

abbrev pub invariant-loop-group : goal.invariant-loop-group
invariant-loop-group l = (c : ℕ) → c < 256 → option_or (get_or l.types c None) (declarations.type_by_groups c (drop l.group-index l.groups)) ≡ option_or (get_or l.initial.types c None) (declarations.type_by_groups c l.groups)
