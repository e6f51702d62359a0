use Rattle.std.proofs.Common.{◌≡◌, ◌<◌, ℕ, drop, get_or, None}
use Rattle.std.specs.Option.{option_or}
use Rattle.std.specs.List.{list_any}
use Rattle.hep_machine.specs.Declarations as declarations
use Rattle.hep_names.specs.Tables.{given}
use Rattle.hep_names.proofs.specification.note_ranges.Given as goal

abbrev pub invariant-loop-range : goal.invariant-loop-range
invariant-loop-range l = (c : ℕ) → c < 256 → option_or (get_or l.types c None) (given (list_any (declarations.is_letter_in c) (drop l.range-index l.ranges)) l.value_type) ≡ option_or (get_or l.initial.types c None) (given (list_any (declarations.is_letter_in c) l.ranges) l.value_type)
