use Rattle.std.proofs.Common.{◌≡◌, ◌<◌, ◌≤◌, ◌+◌, max, ℕ, get_or, None, ◌&&◌, nat_le, nat_lt}
use Rattle.std.specs.Option.{option_or}
use Rattle.hep_names.specs.Tables.{given}
use Rattle.hep_names.proofs.specification.note_range.Given as goal

abbrev pub invariant-loop-letter : goal.invariant-loop-letter
invariant-loop-letter l =
    record {
      types : (c : ℕ) → c < 256 → get_or l.types c None ≡ option_or (get_or l.initial.types c None) (given (nat_le l.range.first c && nat_lt c l.letter) l.value_type);
      until : l.letter ≤ max l.range.first (l.range.last + 1);
    }
