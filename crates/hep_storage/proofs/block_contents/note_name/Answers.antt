use Rattle.std.proofs.Common.{ap, sym, true, ◌∙◌, if◌then◌else◌}
use Rattle.indexmap.specs.IndexSet.{contains}
use Rattle.hep_machine.specs.Words.{name_eq, same_name}
use Rattle.hep_storage.proofs.Listings.{name-added}
use Rattle.hep_storage.proofs.block_contents.note_name.Goals as goal

pub returns-clause-noted : goal.returns-clause-noted
returns-clause-noted c = λ x.
    let name = c.args.name.now in
    let old = contains name_eq c.args.noted.now x in
    c.in_ok-insert.ensures.updates.0 x
    ∙ (name-added name x old ∙ ap (λ t. if t then (if old then true else same_name x name) else old) (sym c.if-not-is_held.false ∙ c.is_held.ensures))
