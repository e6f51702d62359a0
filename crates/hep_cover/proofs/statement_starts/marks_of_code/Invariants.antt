use Rattle.std.proofs.Common.{◌≡◌, ◌++◌, drop}
use Rattle.hep_cover.specs.StartMarks.{marks}
use Rattle.hep_cover.proofs.statement_starts.marks_of_code.Given as goal

abbrev pub invariant-loop-index : goal.invariant-loop-index
invariant-loop-index l = l.lines.items ++ marks l.operations (drop l.index l.code) ≡ marks l.operations l.code
