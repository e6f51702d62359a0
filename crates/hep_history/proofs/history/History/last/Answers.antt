use Rattle.std.proofs.Common.{rules, ◌≡◌, ◌-◌, ◌<◌, ap, sym, ◌∙◌, length, slice_get, subst, Some}
use Rattle.hep_history.specs.Runs.{runs_in, entry_of}
use Rattle.hep_history.specs.Entries.{EntriesLeft}
use Rattle.hep_history.proofs.InRuns.{last_entry}
use Rattle.hep_history.proofs.history.History.last.Goals as goal

pub returns : goal.returns
returns c =
    let some : 0 < c.self.inside.last.count = search rules in
    let P : EntriesLeft → Type 0 = λ (k : EntriesLeft). Some (entry_of c.self.inside.last) ≡ slice_get k.items (length k.items - 1) in
    ap (λ e. Some e) c.entry.ensures
    ∙ subst P c.self.view_is (sym (last_entry (runs_in c.self.inside.shorts.items c.self.inside.longs.items) c.self.inside.last some))
