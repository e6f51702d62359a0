use Rattle.std.proofs.Common.{subst}
use Rattle.hep_inspection.specs.ReplayResults.{IsMadeOrRefused}
use Rattle.hep_inspection.proofs.ComparedRuns.{first-made}
use Rattle.hep_inspection.proofs.diff.image_diff.Goals as goal

pub returns-in-Made : goal.returns-in-Made
returns-in-Made c =
    let long = c.args.asked.now.long in
    let options = c.args.asked.now.options.now in
    let made = subst (IsMadeOrRefused long options.arena c.args.image.now options.first) c.in-Made.is c.in_ok-core.ensures in
    first-made long options.arena options.first options.second c.args.image.now c.in-Made.entries.items c.second_diff.result
    made.0 c.second_diff.ensures
