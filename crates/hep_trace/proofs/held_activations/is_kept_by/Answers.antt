use Rattle.std.proofs.Common.{◌≡◌, ◌∙◌, ap, false, rules, sym, true}
use Rattle.hep_machine.specs.Words.{is_number_among, living, run}
use Rattle.hep_source.proofs.Tests.{none-from-not}
use Rattle.hep_views.proofs.WaitingPlaces.{living-top}
use Rattle.hep_trace.specs.Ancestry.{ancestry, has_above}
use Rattle.hep_trace.proofs.TopLevels.{there}
use Rattle.hep_trace.proofs.held_activations.is_kept_by.Goals as goal

pub returns-then-not-lives : goal.returns-then-not-lives
returns-then-not-lives c program cells choices after =
    let dead : c.lives.result ≡ false = search rules in
    sym (ap (has_above (run program choices) c.args.a) (none-from-not (living (run program choices) c.args.p) (sym (c.lives.ensures.lives program cells choices after.after) ∙ dead)))

pub is_above-requires : goal.is_above-requires
is_above-requires c =
    let lives : c.lives.result ≡ true = search rules in
    let it = living-top c.requires.0 c.requires.1 c.requires.2 c.args.machine.now c.requires.3 c.args.p (sym (c.lives.ensures.lives c.requires.0 c.requires.1 c.requires.2 c.requires.3.after) ∙ lives) in
    let kept = there c.requires.3 it.lives c.top_level.result c.top_level.ensures in
    (c.requires.0, c.requires.1, c.requires.2, c.requires.3, kept.0, kept.1)

pub returns : goal.returns
returns c program cells choices after =
    let lives : c.lives.result ≡ true = search rules in
    let it = living-top program cells choices c.args.machine.now after c.args.p (sym (c.lives.ensures.lives program cells choices after.after) ∙ lives) in
    let kept = there after it.lives c.top_level.result c.top_level.ensures in
    c.is_above.ensures program cells choices kept.0 after kept.1
    ∙ ap (λ b. is_number_among c.args.a (ancestry (run program choices) b b)) (sym kept.2)
    ∙ sym (ap (has_above (run program choices) c.args.a) it.lives)
