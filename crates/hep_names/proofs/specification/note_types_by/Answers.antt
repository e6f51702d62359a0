use Rattle.std.proofs.Common.{◌∙◌, ap, sym}
use Rattle.std.specs.Option.{option_or}
use Rattle.indexmap.specs.IndexMap.{get}
use Rattle.hep_machine.specs.Words.{name_eq}
use Rattle.hep_machine.specs.Declarations.{type_by_statement}
use Rattle.hep_names.proofs.Notes.{header-given}
use Rattle.hep_names.proofs.specification.note_types_by.Goals as goal

pub returns-in_ok-note_type-in-Function : goal.returns-in_ok-note_type-in-Function
returns-in_ok-note_type-in-Function c = λ x.
    c.in_ok-note_type-in-Function.ensures x
    ∙ ap (option_or (get name_eq c.args.types.now x)) (header-given x c.in-Function.value_type c.in-Function.occurrence c.in-Function.field-2 ∙ ap (type_by_statement x) (sym c.in-Function.is))
