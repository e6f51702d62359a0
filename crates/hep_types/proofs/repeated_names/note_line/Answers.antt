use Rattle.std.proofs.Common.{Some, ◌∙◌, ap}
use Rattle.indexmap.specs.IndexMap.{get}
use Rattle.hep_machine.specs.Words.{name_eq}
use Rattle.hep_conditions.specs.Words.{least_line}
use Rattle.hep_types.proofs.Ways.{noted-line}
use Rattle.hep_types.proofs.repeated_names.note_line.Goals as goal

pub returns : goal.returns
returns c = λ x.
    c.in_ok-insert.ensures.updates.0 x
    ∙ noted-line c.args.name x c.args.line c.lesser_line-least.result (get name_eq c.args.lines.now) (c.lesser_line-least.ensures ∙ ap (λ o. least_line o (Some c.args.line)) (c.copied.ensures ∙ c.get.ensures.value))
