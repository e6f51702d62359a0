use Rattle.std.proofs.Common.{◌≡◌, ◌∙◌, rules, sym, ap, true, false}
use Rattle.hep_machine.specs.Words.{living, run}
use Rattle.hep_proc.proofs.Slabs.{some-value}
use Rattle.hep_source.proofs.Tests.{none-from-not}
use Rattle.hep_views.proofs.WaitingPlaces.{living-top}
use Rattle.hep_trace.specs.Ancestry.{activation_on}
use Rattle.hep_trace.proofs.TopLevels.{there}
use Rattle.hep_trace.proofs.freed_frames.top_activation.Goals as goal

pub returns-then-not-lives : goal.returns-then-not-lives
returns-then-not-lives c program cells choices after =
    let dead : c.lives.result ≡ false = search rules in
    sym (ap activation_on (none-from-not (living (run program choices) c.args.p) (sym (c.lives.ensures.lives program cells choices after.after) ∙ dead)))

pub activation-requires : goal.activation-requires
activation-requires c =
    let lives : c.lives.result ≡ true = search rules in
    let it = living-top c.requires.0 c.requires.1 c.requires.2 c.args.machine.now c.requires.3 c.args.p (sym (c.lives.ensures.lives c.requires.0 c.requires.1 c.requires.2 c.requires.3.after) ∙ lives) in
    let kept = there c.requires.3 it.lives c.top_level.result c.top_level.ensures in
    some-value c.args.machine.now.frames.nodes c.top_level.result.key kept.0 kept.1

pub returns : goal.returns
returns c program cells choices after =
    let lives : c.lives.result ≡ true = search rules in
    let it = living-top program cells choices c.args.machine.now after c.args.p (sym (c.lives.ensures.lives program cells choices after.after) ∙ lives) in
    let kept = there after it.lives c.top_level.result c.top_level.ensures in
    c.activation.ensures kept.0 kept.1 ∙ sym kept.2 ∙ sym (ap activation_on it.lives)
