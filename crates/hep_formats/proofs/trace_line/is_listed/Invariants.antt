use Rattle.std.proofs.Common.{◌≡◌, drop}
use Rattle.std.specs.List.{fold}
use Rattle.hep_formats.specs.TraceLines.{is_among, scan_after, is_listed}
use Rattle.hep_formats.proofs.trace_line.is_listed.Given as goal

abbrev pub invariant-loop-byte : goal.invariant-loop-byte
invariant-loop-byte l = is_among l.sought (fold (scan_after l.sought) l.scan (drop l.byte-index l.list)) ≡ is_listed l.sought l.list
