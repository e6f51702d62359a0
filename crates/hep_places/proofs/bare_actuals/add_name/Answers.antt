use Rattle.std.proofs.Common.{ap, sym, ◌∙◌}
use Rattle.indexmap.specs.IndexSet.{contains}
use Rattle.hep_machine.specs.Words.{is_among, name_eq, node_tree}
use Rattle.hep_names.specs.Tables.{either}
use Rattle.hep_names.proofs.Notes.{added}
use Rattle.hep_conditions.specs.Statements.{bare_name}
use Rattle.hep_places.proofs.GatheredStarts.{among-one}
use Rattle.hep_places.proofs.bare_actuals.add_name.Goals as goal

pub returns-in_ok-insert : goal.returns-in_ok-insert
returns-in_ok-insert c = λ x.
    let old = contains name_eq c.args.names.now x in
    let name = c.in-Occurrence.occurrence.name in
    c.in_ok-insert.ensures.updates.0 x
    ∙ (added name x old
    ∙ (ap (either old) (among-one x name)
    ∙ ap (λ t. either old (is_among x (bare_name t))) (sym (sym c.actual.view_is ∙ ap node_tree c.in-Occurrence.is))))
