use Rattle.std.proofs.Common.{◌∙◌, [], ap, if◌then◌else◌, inl, inr, subst}
use Rattle.hep_accesses.specs.RunEvents.{races_of}
use Rattle.hep_inspection.proofs.RaceStatuses.{status-is}
use Rattle.hep_inspection.specs.ReplayResults.{IsMadeOrRefused}
use Rattle.hep_inspection.specs.Races.{outcome_of_races}
use Rattle.hep_inspection.proofs.races.image_races.Goals as goal
use Rattle.hep_machine.specs.Words.{Units, schedule_of}
use Rattle.hep_outcome.specs.declared.status.Status.TheVariants.{Done, Raced}

pub core_races-requires : goal.core_races-requires
core_races-requires c =
    let asked = c.args.asked.now in
    let made = subst (IsMadeOrRefused asked.long asked.options.now.arena c.args.image.now asked.options.now.origin) c.in-Made.is
    c.in_ok-core.ensures in
    made.1

pub returns-in_ok-report-in-Made : goal.returns-in_ok-report-in-Made
returns-in_ok-report-in-Made c =
    let asked = c.args.asked.now in
    let made = subst (IsMadeOrRefused asked.long asked.options.now.arena c.args.image.now asked.options.now.origin) c.in-Made.is
    c.in_ok-core.ensures in
    let entries = c.in-Made.entries.items in
    let source = c.args.source.now in
    let report = c.in_ok-report-in-Made.report in
    inr (
      entries,
      made.0,
      c.races_transcript.ensures
          ∙ (λ i. record {
            output = c.in_ok-report-in-Made.ensures.text i;
            messages = [];
            status = (ap (λ b. if b then Raced else Done) c.in_ok-report-in-Made.ensures.found
                ∙ status-is (races_of c.in-Made.core.core.program (schedule_of entries))) i;
            history = [];
          })
          ∙ ap (λ (us : Units). outcome_of_races asked.long source us entries) made.2,
    )

pub returns-in-Refused : goal.returns-in-Refused
returns-in-Refused c =
    let asked = c.args.asked.now in
    inl (subst (IsMadeOrRefused asked.long asked.options.now.arena c.args.image.now asked.options.now.origin) c.in-Refused.is
    c.in_ok-core.ensures)
