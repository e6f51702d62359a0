use Rattle.std.proofs.Common.{[], ◌∷◌, Some, ap, ◌∙◌, if◌then◌else◌, map, nat_eq, not, sym}
use Rattle.std.specs.List.{filter}
use Rattle.indexmap.specs.IndexMap.{get}
use Rattle.hep_accesses.specs.Detector.{is_repeated}
use Rattle.hep_races.specs.Observed.{step_access_in, unit_eq}
use Rattle.hep_races.specs.Tables.{accesses_from}
use Rattle.hep_races.proofs.UnitEntries.{latest-after}
use Rattle.hep_races.proofs.table.RaceTable.note_access.Goals as goal

pub returns-clause-latest : goal.returns-clause-latest
returns-clause-latest c =
    let y = c.args.y.now in
    let old = c.args.self.now.latest in
    let list = c.put_first-2.new.list in
    latest-after (get unit_eq old) (get unit_eq c.insert.new.self) y [] list (ap accesses_from (sym c.in_default.ensures.value)) (
    c.in_ok-put_first.ensures
    ∙ ap (λ ds. step_access_in y ∷ filter (λ d. not (is_repeated unit_eq nat_eq (step_access_in y) d)) (map step_access_in ds)) (
    c.new-list.ensures.items)) (λ at.
    c.in_ok-insert.ensures.updates.0 at
    ∙ ap (λ m. if unit_eq y.access.at at then Some list else get unit_eq m at) c.get_mut.follows.holds-at-none)
