use Rattle.std.proofs.Common.{◌∙◌, ap, sym}
use Rattle.std.specs.Option.{option_or}
use Rattle.indexmap.specs.IndexMap.{get}
use Rattle.hep_machine.specs.Words.{is_named, name_eq}
use Rattle.hep_names.specs.Tables.{given}
use Rattle.hep_names.proofs.Notes.{called-noted}
use Rattle.hep_names.proofs.program.note_unit.Goals as goal

pub returns-in_ok-note : goal.returns-in_ok-note
returns-in_ok-note c = λ x.
    c.in_ok-note.ensures x
    ∙ ap (option_or (get name_eq c.args.numbers.now x)) (called-noted x c.in-Some.name c.args.number ∙ ap (λ o. given (is_named o x) c.args.number) (sym c.in-Some.is))
