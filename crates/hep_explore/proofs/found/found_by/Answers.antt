use Rattle.std.proofs.Common.{◌<◌, ◌∙◌, arith, false, length, subst, sym}
use Rattle.hep_machine.specs.Words.{AreSteps, Units, opening}
use Rattle.hep_outcome.specs.Outcome.{IsProgramOutcome, Outcome}
use Rattle.hep_outcome.specs.Transcripts.{outcome_of}
use Rattle.hep_outcome.specs.declared.options.Options.{Options}
use Rattle.hep_explore.proofs.RunEnds.{uncut}
use Rattle.hep_explore.proofs.found.found_by.Goals as goal

pub returns-clause-found : goal.returns-clause-found
returns-clause-found c =
    let program = c.args.image.now in
    let options : Options = c.in_ok-options.options in
    let o : Outcome = outcome_of c.in_ok-transcript.transcript in
    let outcome = subst (λ (us : Units). IsProgramOutcome false us options o) c.in_ok-copy.ensures c.in_ok-transcript.ensures.made in
    let chosen = c.in_ok-options.ensures.choices ∙ c.deref.ensures.value in
    let made = subst (AreSteps program (opening program)) (sym chosen) c.requires.made in
    let few : length o.history < options.steps = omega (arith, c.len.ensures.few, c.len.ensures.count, c.in_ok-options.ensures.steps) in
    let whole = uncut program options o outcome made few in
    record {
      outcome = o;
      possible = record {
        possible = record {
          options = options;
          arena = c.in_ok-options.ensures.arena;
          outcome = outcome;
          unlimited = whole.0;
          accepted = whole.1;
        };
        by = chosen ∙ sym c.in_ok-found_of.ensures.by;
      };
      is_found = c.in_ok-found_of.ensures.found;
    }
