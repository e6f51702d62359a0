use Rattle.std.proofs.Common.{◌∙◌, nat_eq}
use Rattle.indexmap.specs.IndexSet.{contains}
use Rattle.hep_check.proofs.LineSets.{with-line}
use Rattle.hep_check.proofs.violation_lines.add.Goals as goal

pub returns : goal.returns
returns c = λ k. c.in_ok-insert.ensures.updates.0 k ∙ with-line (contains nat_eq c.args.lines.now k) (nat_eq c.args.line k)
