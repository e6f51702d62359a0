use Rattle.std.proofs.Common.{◌∙◌, sym}
use Rattle.indexmap.specs.IndexMap.{get}
use Rattle.hep_machine.specs.Words.{name_eq}
use Rattle.hep_names.proofs.Notes.{noted, put-back}
use Rattle.hep_names.proofs.table.note_first.Goals as goal

pub returns-in_ok-insert-in-Some-clause-noted : goal.returns-in_ok-insert-in-Some-clause-noted
returns-in_ok-insert-in-Some-clause-noted g c = λ x.
    put-back c.args.name x c.args.value (get name_eq c.args.table.now) c.in-Some.before (get name_eq c.insert.new.self x) (get name_eq c.insert-in-Some.new.self x)
    (sym c.in_ok-before.ensures.old ∙ c.in-Some.is) (c.in_ok-before.ensures.updates.0 x) (c.in_ok-insert-in-Some.ensures.updates.0 x)

pub returns-in-None-clause-noted : goal.returns-in-None-clause-noted
returns-in-None-clause-noted g c = λ x.
    c.in_ok-before.ensures.updates.0 x ∙ noted c.args.name x c.args.value (get name_eq c.args.table.now) (sym c.in_ok-before.ensures.old ∙ c.in-None.is)
