use Rattle.std.proofs.Common.{◌≡◌, ◌++◌, map, take}
use Rattle.hep_text.specs.LineDisplay.{shown}
use Rattle.hep_text.proofs.line_display.append_shown.Given as goal

abbrev pub invariant-loop-byte : goal.invariant-loop-byte
invariant-loop-byte l = l.text.items ≡ l.fn.text.items ++ map shown (take l.byte-index l.bytes)
