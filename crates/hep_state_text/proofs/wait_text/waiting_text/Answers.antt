use Rattle.std.proofs.Common.{◌++◌, ◌∙◌, ap}
use Rattle.hep_image.specs.Names.{names_in_order}
use Rattle.hep_state_text.specs.Lines as lines
use Rattle.hep_state_text.specs.WaitTexts.{place_seen}
use Rattle.hep_views.proofs.WaitingPlaces.{blocked-waits}
use Rattle.hep_state_text.proofs.WaitTexts.{text-is}
use Rattle.hep_state_text.proofs.wait_text.waiting_text.Goals as goal

pub returns : goal.returns
returns c cells choices after blocked =
    let program = c.args.image.now in
    let m = c.args.machine.now in
    let w = blocked-waits program cells choices m after c.args.p c.args.want blocked in
    c.in_ok-append_waiting.ensures
    ∙ (λ i. c.new-text.ensures.items i ++ lines.waiting_text c.listed-listed.result.full ((c.deref.ensures.value ∙ (c.in_ok-place.ensures ∙ ap (place_seen (names_in_order program)) c.place_listed.ensures)) i))
    ∙ text-is program cells choices m c.is_runnable.ensures.accepted c.is_runnable.ensures.main after c.args.p c.args.want w c.listed-listed.result (c.listed-listed.ensures cells choices after blocked)
