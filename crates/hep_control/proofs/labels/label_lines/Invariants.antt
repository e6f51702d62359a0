use Rattle.std.proofs.Common.{◌≡◌, ◌++◌, nat_eq, false, drop}
use Rattle.indexmap.specs.IndexSet.{contains}
use Rattle.hep_control.specs.Labels.{lines_from}
use Rattle.hep_control.proofs.labels.label_lines.Given as goal

abbrev pub invariant-loop-statement : goal.invariant-loop-statement
invariant-loop-statement l =
    l.lines.items ++ lines_from l.labels (contains nat_eq l.seen.set) (drop l.statement-index l.statement-items) ≡ lines_from l.labels (λ k. false) l.statement-items
