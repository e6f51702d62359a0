use Rattle.std.proofs.Common.{◌∙◌, sym, ap}
use Rattle.std.proofs.lemmas.Result.{IfOk-weaker}
use Rattle.hep_machine.specs.Words.{run}
use Rattle.hep_event.proofs.FoundVariables.{levels-of}
use Rattle.hep_trace.specs.Ancestry as words
use Rattle.hep_trace.proofs.TopLevels.{there}
use Rattle.hep_trace.proofs.freed_frames.ancestry.Goals as goal

pub top_level-top-requires-clause-living : goal.top_level-top-requires-clause-living
top_level-top-requires-clause-living c = levels-of c.requires.3.lives

pub ancestors-requires : goal.ancestors-requires
ancestors-requires c =
    let lives = c.requires.3.lives in
    let it = there lives.after lives.lives c.top_level-top.result c.top_level-top.ensures in
    (c.args.ahead.now.image.now, c.requires.0, c.requires.1, lives.after, it.0, it.1)

pub returns : goal.returns
returns c =
    IfOk-weaker c.ancestors.result _ _ (λ activations is cells choices top ahead.
    let it = there ahead.lives.after ahead.lives.lives c.top_level-top.result c.top_level-top.ensures in
    is c.args.ahead.now.image.now cells choices it.0 ahead.lives.after it.1
    ∙ ap (λ a. words.ancestry (run c.args.ahead.now.image.now choices) a a) (sym it.2)) c.ancestors.ensures
