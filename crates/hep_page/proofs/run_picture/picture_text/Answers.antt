use Rattle.std.proofs.Common.{◌∙◌, ap}
use Rattle.hep_event.specs.Traces.{trace_text}
use Rattle.hep_replay.specs.HistoryPrefix.{first_of}
use Rattle.hep_page.specs.Pages.{all_shown}
use Rattle.hep_page.specs.Pictures.{picture_of}
use Rattle.hep_page.proofs.run_picture.picture_text.Goals as goal

pub returns-in-Ok-clause-told : goal.returns-in-Ok-clause-told
returns-in-Ok-clause-told c =
    c.in-Ok.ensures
    ∙ ap picture_of (
    c.deref.ensures.value ∙ c.in_ok-trace.ensures.told ∙ ap (λ n. trace_text c.args.image (all_shown n) (first_of c.args.entries.now)) c.len.ensures.count
    )
