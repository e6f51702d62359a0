use Rattle.std.proofs.Common.{◌≡◌, ◌++◌, drop}
use Rattle.hep_state_text.specs.Contents.{runs_text}
use Rattle.hep_state_text.proofs.variable.append_variable.Given as goal

abbrev pub invariant-loop-index : goal.invariant-loop-index
invariant-loop-index l =
    l.text.items ++ runs_text l.variable.name l.variable.asynchronous l.variable.bounds.items l.first l.index (drop l.index l.slots)
    ≡ l.initial.text.items ++ runs_text l.variable.name l.variable.asynchronous l.variable.bounds.items 0 0 l.slots
