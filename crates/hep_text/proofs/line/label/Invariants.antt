use Rattle.std.proofs.Common.{◌≡◌, ◌<◌, take}
use Rattle.std.specs.Prelude.{unwrap_or}
use Rattle.hep_text.specs.Line.{label}
use Rattle.hep_text.proofs.Labels.{limit}
use Rattle.hep_text.proofs.line.label.Given as goal

abbrev pub invariant-loop-byte : goal.invariant-loop-byte
invariant-loop-byte l = record {
  value : l.number ≡ label (take l.byte-index l.field);
  small : unwrap_or l.number 0 < limit l.byte-index;
}
