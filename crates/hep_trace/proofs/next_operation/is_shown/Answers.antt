use Rattle.std.proofs.Common.{◌∙◌, ap, sym}
use Rattle.hep_trace.specs.References.{top_after}
use Rattle.hep_event.specs.Traces.{is_accessed}
use Rattle.hep_trace.specs.Observations.{name_sought}
use Rattle.hep_trace.proofs.next_operation.is_shown.Goals as goal

pub returns-in-Some : goal.returns-in-Some
returns-in-Some c cells choices top ahead =
    let program = c.args.ahead.now.image.now in
    c.touches.ensures cells choices top ahead
    ∙ ap (λ cell. is_accessed program (name_sought cell) (top_after program choices c.args.ahead.now.process top)) (sym c.in-Some.is)
