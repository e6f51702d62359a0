use Rattle.std.proofs.Common.{◌++◌, ◌∙◌, ap}
use Rattle.indexmap.specs.IndexMap.{get}
use Rattle.hep_machine.specs.Words.{name_eq}
use Rattle.hep_types.specs.AmbiguityLines.{least_named}
use Rattle.hep_types.proofs.Reported.{met_from-same}
use Rattle.hep_types.proofs.all_ambiguities.add_met_by.Goals as goal

pub returns : goal.returns
returns c =
    let us = c.args.one.now in
    let same = met_from-same (get name_eq c.in_ok-lines.lines.map) (least_named us) c.in_ok-lines.ensures c.args.other.now in
    c.in_ok-add_met.ensures ∙ ap (λ fs. c.args.found.now.items ++ fs) same
