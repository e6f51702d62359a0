use Rattle.std.proofs.Common.{◌∙◌, sym, ap, length}
use Rattle.std.specs.Bool.{◌==◌}
use Rattle.indexmap.specs.IndexMap.{get}
use Rattle.hep_machine.specs.Words.{name_eq}
use Rattle.hep_names.proofs.Notes.{array-noted, not-empty}
use Rattle.hep_names.proofs.specification.note_array.Goals as goal

pub returns-in_ok-note : goal.returns-in_ok-note
returns-in_ok-note c = λ x. array-noted x c.args.declarator (get name_eq c.args.arrays.now x) (get name_eq c.note.new.table x) (c.in_ok-note.ensures x) (not-empty c.args.declarator.now.dimensions (ap (λ ds. length ds == 0) (sym c.as_slice.ensures) ∙ sym c.is_empty.ensures ∙ c.if-not-is_empty.true))
