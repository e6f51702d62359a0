use Rattle.std.proofs.Common.{◌++◌, ◌∙◌, append_assoc}
use Rattle.hep_types.specs.Ambiguities.{met_from}
use Rattle.hep_types.specs.AmbiguityLines.{least_named}
use Rattle.hep_types.proofs.all_ambiguities.add_both_ways.Goals as goal

pub returns : goal.returns
returns c =
    let us = c.args.one.now in
    let ws = c.args.other.now in
    c.in_ok-add_met_by-2.ensures
    ∙ ((λ i. c.in_ok-add_met_by.ensures i ++ met_from (least_named ws) us) ∙ append_assoc c.args.found.now.items (met_from (least_named us) ws) (met_from (least_named ws) us))
