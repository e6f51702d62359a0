use Rattle.std.proofs.Common.{◌∙◌, ap, sym}
use Rattle.std.specs.Option.{option_or}
use Rattle.indexmap.specs.IndexMap.{get}
use Rattle.hep_machine.specs.Words.{name_eq}
use Rattle.hep_names.specs.Tables.{by_header}
use Rattle.hep_names.proofs.Notes.{called-noted}
use Rattle.hep_names.proofs.specification.note_type.Goals as goal

pub returns-in_ok-note : goal.returns-in_ok-note
returns-in_ok-note c = λ x.
    c.in_ok-note.ensures x
    ∙ ap (option_or (get name_eq c.args.types.now x)) (called-noted x c.args.name c.in-Some.value_type ∙ ap (λ o. by_header o c.args.name x) (sym c.in-Some.is))
