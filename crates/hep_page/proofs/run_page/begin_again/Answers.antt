use Rattle.std.proofs.Common.{ℕ, ◌∙◌, ◌-◌, arith, subst, ap}
use Rattle.hep_machine.specs.Words.{Units}
use Rattle.hep_replay.specs.declared.replay_fault.ReplayFault.{ReplayFault}
use Rattle.hep_replay.specs.declared.replay_fault.ReplayFault.TheVariants.{Refused}
use Rattle.hep_replay.specs.HistoryPrefix.{first_of}
use Rattle.hep_replay.specs.Replays.{IsUnmade, replayed}
use Rattle.hep_page.proofs.PagesOfCores.{front-never-refused}
use Rattle.hep_page.proofs.run_page.begin_again.Goals as goal

pub replay_first-requires-clause-some : goal.replay_first-requires-clause-some
replay_first-requires-clause-some c = omega (arith, c.requires.replayed.some, c.cells.ensures)

pub replay_first-requires-clause-few : goal.replay_first-requires-clause-few
replay_first-requires-clause-few c = omega (arith, c.requires.replayed.few, c.cells.ensures)

pub returns-in-Ok : goal.returns-in-Ok
returns-in-Ok c =
    let program = c.in_ok-image.ensures ∙ c.image.ensures in
    c.in-Ok.ensures.made ∙ (λ i. replayed (program i) (c.cells.ensures i) (c.entries_before-before.ensures i))

pub unreachable-requires-in-Err-Refused : goal.unreachable-requires-in-Err-Refused
unreachable-requires-in-Err-Refused c =
    let core = c.args.core.now.core in
    let shown = c.args.shown.now in
    let before = first_of c.entries_before-before.result in
    let refused = c.in-Err-Refused in
    front-never-refused core.program core.cells (first_of shown.entries) before (shown.first - 1) refused.field-0-0 refused.field-0-1
    c.entries_before-before.ensures c.requires.possible (
    subst (λ (us : Units). IsUnmade us core.cells before (Refused refused.field-0-0 refused.field-0-1)) (c.in_ok-image.ensures ∙ c.image.ensures) (
    subst (λ (n : ℕ). IsUnmade c.in_ok-image.image n before (Refused refused.field-0-0 refused.field-0-1)) c.cells.ensures (
    subst (λ (fault : ReplayFault). IsUnmade c.in_ok-image.image c.cells.result before fault) refused.field-0-is refused.ensures.unmade)))
