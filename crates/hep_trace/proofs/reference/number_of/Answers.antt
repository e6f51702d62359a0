use Rattle.std.proofs.Common.{Some, sym, ap, ◌∙◌}
use Rattle.hep_image.specs.Names.{variable_number}
use Rattle.hep_image.specs.Places.{variable_of}
use Rattle.hep_machine.specs.Words.{unit_at}
use Rattle.hep_event.proofs.FoundVariables.{levels-of}
use Rattle.hep_trace.proofs.TopLevels.{inside, unit}
use Rattle.hep_trace.proofs.reference.number_of.Goals as goal

pub top_level-level-requires-clause-living : goal.top_level-level-requires-clause-living
top_level-level-requires-clause-living c = levels-of c.requires.3.lives

pub number_of-requires-clause-unit : goal.number_of-requires-clause-unit
number_of-requires-clause-unit c = inside c.requires.3.lives.after c.requires.3.lives.lives c.top_level-level.result c.top_level-level.ensures

pub returns : goal.returns
returns c cells choices top x ahead named =
    let program = c.args.ahead.now.image.now in
    let same = unit ahead.lives.after ahead.lives.lives c.top_level-level.result c.top_level-level.ensures in
    c.number_of.ensures x (ap (λ u. variable_of program (unit_at program u) x) (sym same) ∙ named.0) named.1
    ∙ ap (λ u. Some (variable_number program u x)) (sym same)
