use Rattle.std.proofs.Common.{◌≡◌, ◌+◌, ◌-◌, drop}
use Rattle.hep_text.specs.Progress.{started, longer}
use Rattle.hep_text.specs.Reading.{columns}
use Rattle.hep_text.proofs.reading.take_text.Given as goal

abbrev pub invariant-loop-index : goal.invariant-loop-index
invariant-loop-index l =
    longer (started l.pending) (columns (66 - l.index) l.number (l.index + 7) (drop l.index l.body)) ≡ longer (started l.initial.pending) (columns 66 l.number 7 l.body)
