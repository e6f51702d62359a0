use Rattle.std.proofs.Common.{◌∙◌, sym}
use Rattle.hep_state_text.specs.LineDisplay.{line_shown}
use Rattle.hep_machine.specs.Words.{is_number_among, progress_after}
use Rattle.hep_page.proofs.StateViews.{has-levels, process-so}
use Rattle.hep_page.proofs.state_view.append_one.Goals as goal

pub append_process-requires-clause-levels : goal.append_process-requires-clause-levels
append_process-requires-clause-levels c =
    let core = c.args.core.now.core in
    has-levels core.program core.history core.cells c.args.p c.machine.result.now c.machine.ensures.after (sym c.lives.ensures ∙ c.if-not-lives.false)

pub returns : goal.returns
returns c q there =
    let core = c.args.core.now.core in
    process-so core.program c.image.result.now (line_shown c.args.lines.now) core.history core.cells c.args.p c.machine.result.now q c.args.text.now.items c.append_process.new.text.items c.deref.result.now c.in_ok-waiting.waiting.items
    (is_number_among c.args.p (progress_after core.program core.history).listed) c.image.ensures c.machine.ensures.after there c.in_ok-append_process.ensures c.deref.ensures.value c.in_ok-waiting.ensures
