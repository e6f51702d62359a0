use Rattle.std.proofs.Common.{◌∙◌, ap, sym}
use Rattle.hep_machine.specs.Words.{is_held, used_cells, run, schedule_of}
use Rattle.hep_proc.specs.FrameTable.{frames_in}
use Rattle.hep_core.proofs.Histories.{state-is}
use Rattle.hep_core.proofs.run_core.Core.used.Goals as goal

pub returns : goal.returns
returns c =
    let i = c.self.inside in
    let choices = schedule_of i.history.items in
    let s = run i.image choices in
    let after = c.self.invariant.after.after in
    rw (← c.self.view_is) (
    c.used.ensures.used (frames_in i.image s (is_held s) after.layout) after.shows.keeps
    ∙ sym (c.layouts_have_what_is_held.ensures.used i.image i.cells choices after.layout after.laid)
    ∙ ap (used_cells i.image is_held) (sym (state-is i.image i.history.items)))
