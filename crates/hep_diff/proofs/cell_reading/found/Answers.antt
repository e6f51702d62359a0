use Rattle.std.proofs.Common.{◌∙◌, sym}
use Rattle.hep_machine.specs.Words.{run, scope_of}
use Rattle.hep_event.proofs.TopPositions.{settled-there, settled-turn}
use Rattle.hep_event.proofs.FoundVariables.{levels-of}
use Rattle.hep_diff.proofs.CellReadings.{asked-here, none-found}
use Rattle.hep_diff.proofs.cell_reading.found.Goals as goal

pub returns-in-None : goal.returns-in-None
returns-in-None c cells choices top lives =
    let program = c.args.image.now in
    let m = c.args.machine.now in
    let coming = c.args.coming.now in
    let s = run program choices in
    let levels = levels-of lives in
    let k = c.requires.coming levels in
    let runs =
    c.tops_are_running.ensures.running (settled-turn m lives.after lives.running levels coming k) c.is_runnable.ensures.accepted c.is_runnable.ensures.main (settled-there m lives.after lives.running levels coming k) in
    none-found program s (scope_of program s top.0.activation) _ (asked-here m lives coming c.requires.coming runs ∙ sym c.in-None.ensures)
