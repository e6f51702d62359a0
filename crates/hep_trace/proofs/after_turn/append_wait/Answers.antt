use Rattle.std.proofs.Common.{◌∙◌, ◌++◌, ap}
use Rattle.std.proofs.lemmas.Result.{on_ok_weaker}
use Rattle.hep_image.specs.Names.{names_in_order}
use Rattle.hep_state_text.specs.WaitTexts.{place_seen}
use Rattle.hep_event.specs.LineTexts as lines
use Rattle.hep_trace.proofs.WaitLines.{wait-told}
use Rattle.hep_trace.proofs.after_turn.append_wait.Goals as goal

pub returns : goal.returns
returns c =
    let core = c.args.core.now.core in
    let x = c.image-image.result.now in
    on_ok_weaker c.append_waits.result (λ told w wanted.
    let it = wait-told core.program x core.history core.cells c.args.p c.machine.result.now c.in-Some.want c.image-image.ensures c.is_runnable.ensures.accepted c.is_runnable.ensures.main c.machine.ensures.after c.in-Some.ensures.want
    c.listed-listed.result c.listed-listed.ensures w wanted in
    let place = c.deref.ensures.value ∙ c.in_ok-place.ensures ∙ ap (place_seen (names_in_order x)) c.place_listed.ensures ∙ it.1 in
    told ∙ (λ i. c.args.text.now.items ++ lines.waits_text (it.0 i) (place i))) c.append_waits.ensures
