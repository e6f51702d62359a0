use Rattle.std.proofs.Common.{subst}
use Rattle.hep_inspection.specs.ReplayResults.{IsMadeOrRefused}
use Rattle.hep_inspection.proofs.ComparedRuns.{both-made}
use Rattle.hep_inspection.proofs.diff.second_diff.Goals as goal

pub returns-in_ok-text-in-Made : goal.returns-in_ok-text-in-Made
returns-in_ok-text-in-Made c =
    let long = c.args.asked.now.long in
    let options = c.args.asked.now.options.now in
    let made = subst (IsMadeOrRefused long options.arena c.args.image.now options.second) c.in-Made.is c.in_ok-core.ensures in
    both-made long options.arena options.first options.second c.args.image.now c.args.first.core c.args.entries.now.items
    c.in-Made.others.items c.text_transcript.result c.in_ok-text-in-Made.text.items
    c.requires.program c.requires.cells made.0 c.text_transcript.ensures c.in_ok-text-in-Made.ensures
