use Rattle.std.proofs.lemmas.Result.{IfOk-weaker}
use Rattle.hep_machine.specs.Words.{is_number_among, progress_after}
use Rattle.hep_page.proofs.StateViews.{waits-so}
use Rattle.hep_page.proofs.state_view.wait_of.Goals as goal

pub returns-in-Some : goal.returns-in-Some
returns-in-Some c =
    let core = c.args.core.now.core in
    IfOk-weaker c.waiting_text.result _ _ (λ text told.
    waits-so core.program c.image.result.now core.history core.cells c.args.p c.machine.result.now c.in-Some.want text.items (is_number_among c.args.p (progress_after core.program core.history).listed)
    c.image.ensures c.machine.ensures.after c.in-Some.ensures.want told c.in-Some.ensures.listed) c.waiting_text.ensures
