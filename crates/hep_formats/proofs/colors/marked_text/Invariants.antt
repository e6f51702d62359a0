use Rattle.std.proofs.Common.{◌≡◌, ◌++◌, length}
use Rattle.hep_formats.specs.Colors.{colored, colored_from}
use Rattle.hep_formats.proofs.colors.marked_text.Given as goal

abbrev pub invariant-loop-byte : goal.invariant-loop-byte
invariant-loop-byte l = l.colored.items ++ colored_from l.kind l.place l.rest ≡ colored l.kind l.text

abbrev pub decreases-loop-byte : goal.decreases-loop-byte
decreases-loop-byte l = length l.rest
