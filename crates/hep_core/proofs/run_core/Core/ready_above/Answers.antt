use Rattle.std.proofs.Common.{ap, ◌∙◌, None}
use Rattle.hep_machine.specs.Words.{schedule_of, first_above, progress_after}
use Rattle.hep_blocked.specs.Rosters.{want_of}
use Rattle.hep_core.proofs.run_core.Core.ready_above.Goals as goal

pub returns : goal.returns
returns c =
    let i = c.self.inside in
    let h = i.history.items in
    let k = c.self.invariant in
    let ready = c.lists_are_those_of_definitions.ensures.ready i.image i.cells i.roster.last (schedule_of h) (progress_after i.image h) (want_of i.roster.waiting) i.roster.ready k.listed c.first_above.ensures.rising in
    rw (← c.self.view_is) (c.first_above.ensures.next ∙ ap (λ ns. first_above c.args.p ns None) ready)
