use Rattle.std.proofs.Common.{◌∙◌, ap, sym, length}
use Rattle.std.specs.Bool.{◌==◌}
use Rattle.std.specs.Option.{option_or}
use Rattle.indexmap.specs.IndexMap.{get}
use Rattle.hep_machine.specs.Words.{name_eq}
use Rattle.hep_names.proofs.Notes.{not-empty}
use Rattle.hep_types.specs.Bounds.{shape_given}
use Rattle.hep_types.proofs.KnownShapes.{noted}
use Rattle.hep_types.proofs.shapes.note_shape.Goals as goal

pub returns-in_ok-note : goal.returns-in_ok-note
returns-in_ok-note c = λ x.
    let n = not-empty c.args.declarator.now.dimensions (ap (λ ds. length ds == 0) (sym c.as_slice.ensures) ∙ sym c.is_empty.ensures ∙ c.if-not-is_empty.true) in
    c.in_ok-note.ensures x
    ∙ ap (option_or (get name_eq c.args.shapes.now x)) (noted (shape_given c.args.scope.now.symbols.now c.args.scope.now.parameters.now) x c.args.declarator.now c.in_ok-shape.shape n (c.in_ok-shape.ensures n))
