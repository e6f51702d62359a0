use Rattle.std.proofs.Common.{rules, ◌≡◌, ◌++◌, refl, sym, ap, replicate, ◌∙◌}
use Rattle.hep_machine.specs.declared.event.Entry.{Entry}
use Rattle.hep_history.specs.Runs.{runs_in, entry_of}
use Rattle.hep_history.specs.Entries.{EntriesLeft}
use Rattle.hep_history.proofs.InRuns.{run_grows}
use Rattle.hep_history.proofs.history.History.push_many.Goals as goal

pub returns-then-count-self-clause-items : goal.returns-then-count-self-clause-items
returns-then-count-self-clause-items c =
    let same : c.args.entry ≡ entry_of c.self.inside.last = search rules in
    run_grows (runs_in c.self.inside.shorts.items c.self.inside.longs.items) c.self.inside.last _ c.args.count refl refl
    ∙ ap (λ es. es ++ replicate c.args.count (entry_of c.self.inside.last)) (ap (λ (k : EntriesLeft). k.items) c.self.view_is)
    ∙ ap (λ (e : Entry). c.args.self.now.items ++ replicate c.args.count e) (sym same)
