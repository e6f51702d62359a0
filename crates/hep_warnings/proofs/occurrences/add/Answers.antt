use Rattle.std.proofs.Common.{cond, Some, ap, ◌∙◌}
use Rattle.indexmap.specs.IndexMap.{get}
use Rattle.hep_machine.specs.Words.{name_eq}
use Rattle.hep_warnings.specs.SingleOccurrences.{also_at}
use Rattle.hep_warnings.proofs.NamesByLine.{added}
use Rattle.hep_warnings.proofs.occurrences.add.Goals as goal

pub returns : goal.returns
returns c = λ x.
    let old = get name_eq c.args.map.now in
    let is = c.also_at-standing.ensures ∙ ap (also_at c.args.line) c.standing_of-so_far.ensures in
    c.in_ok-insert.ensures.updates.0 x ∙ (ap (λ s. cond (name_eq c.args.name x) (Some s) (old x)) is ∙ added c.args.line c.args.name x old)
