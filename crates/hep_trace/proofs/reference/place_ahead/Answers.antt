use Rattle.std.proofs.Common.{sym, ap, ◌∙◌}
use Rattle.std.proofs.lemmas.Result.{IfOk-weaker}
use Rattle.hep_image.specs.Names.{names_in_order}
use Rattle.hep_proc.proofs.Slabs.{some-value}
use Rattle.hep_event.proofs.FoundVariables.{levels-of}
use Rattle.hep_trace.specs.References.{shown_by}
use Rattle.hep_trace.proofs.TopLevels.{there}
use Rattle.hep_trace.proofs.reference.place_ahead.Goals as goal

pub top_level-level-requires-clause-living : goal.top_level-level-requires-clause-living
top_level-level-requires-clause-living c = levels-of c.requires.3.lives

pub activation-activation-requires : goal.activation-activation-requires
activation-activation-requires c =
    let it = there c.requires.3.lives.after c.requires.3.lives.lives c.top_level-level.result c.top_level-level.ensures in
    some-value c.args.ahead.now.machine.now.frames.nodes c.top_level-level.result.key it.0 it.1

pub returns : goal.returns
returns c =
    IfOk-weaker c.place_shown.result _ _ (λ place is cells choices top ahead.
    let it = there ahead.lives.after ahead.lives.lives c.top_level-level.result c.top_level-level.ensures in
    is ∙ ap (λ a. shown_by (names_in_order c.args.ahead.now.image.now) a c.args.name c.args.site) (c.activation-activation.ensures it.0 it.1 ∙ sym it.2)) c.place_shown.ensures
