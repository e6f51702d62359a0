use Rattle.std.proofs.Common.{◌+◌, ◌∙◌, List, ap, subst, sym}
use Rattle.hep_outcome.specs.Outcome.{Outcome}
use Rattle.hep_outcome.specs.Tallies.{Tally, counted, tally_of}
use Rattle.hep_run.specs.Samples.{IsTallied}
use Rattle.hep_outcome.specs.Transcripts.{outcome_of}
use Rattle.hep_run.proofs.Counts.{tallied-run}
use Rattle.hep_run.proofs.sample.tallies_of.Goals as goal

pub loop-run-preserved : goal.loop-run-preserved
loop-run-preserved g c =
    let options = c.args.options.now in
    let source = c.args.source.now in
    let run = c.loop-run.run in
    let ts : List Tally = c.loop-run.tallies.items in
    let o : Outcome = outcome_of c.in_ok-transcript.transcript in
    let nth = c.nth_options-by.ensures in
    let more = tallied-run c.args.long options source run ts o c.loop-run.invariant (c.nth_options-by.result, nth, c.in_ok-transcript.ensures.made) in
    let made = c.in_ok-count.ensures ∙ ap (λ (t : Tally). counted t ts) (c.in_ok-new.ensures ∙ ap (λ s. tally_of s o) nth.2) in
    subst (IsTallied c.args.long options source (run + 1)) (sym made) more
