use Rattle.std.proofs.Common.{◌≡◌, ◌++◌, Some, ap, ◌∙◌, arith, length, length-append}
use Rattle.std.proofs.lemmas.Bool.Decides.{Decides-eqb}
use Rattle.std.proofs.lemmas.Slice.Eq.{strip_prefix_is}
use Rattle.hep_replay.specs.Lines.{repeated}
use Rattle.hep_replay.proofs.Readings.{repeated_more}
use Rattle.hep_replay.proofs.lines.past_repeated.Goals as goal

pub loop-rest_after-preserved : goal.loop-rest_after-preserved
loop-rest_after-preserved c =
    let line = c.args.line.now in
    let before = c.loop-rest_after.count in
    let rest = c.in-Some.rest_after.now in
    let front : c.loop-rest_after.rest.now ≡ line ++ rest = strip_prefix_is Decides-eqb c.loop-rest_after.rest.now line (Some c.in-Some.rest_after) c.in-Some.ensures.cases in
    record {
      split = c.loop-rest_after.invariant.split ∙ ap (λ l. repeated before line ++ l) front ∙ repeated_more before line rest;
      few = omega (arith, c.loop-rest_after.invariant.few, c.requires.filled, ap length front, length-append line rest);
    }
