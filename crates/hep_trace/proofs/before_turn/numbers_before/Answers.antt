use Rattle.std.proofs.Common.{◌+◌}
use Rattle.hep_core.proofs.GoodTickets.{as-many}
use Rattle.hep_state.proofs.Processes.{process-at}
use Rattle.hep_event.proofs.FoundVariables.{levels-of}
use Rattle.hep_trace.proofs.StackHeights.{alone-is}
use Rattle.hep_trace.proofs.before_turn.numbers_before.Goals as goal

pub place-requires-clause-living : goal.place-requires-clause-living
place-requires-clause-living c = levels-of c.requires.ahead.3.lives

pub returns : goal.returns
returns c cells choices top ahead =
    let program = c.args.ahead.now.image.now in
    let m = c.args.ahead.now.machine.now in
    let lives = ahead.lives in
    let w = levels-of lives in
    let it = process-at m c.args.ahead.now.process lives.after.numbers c.place.ensures w.kept c.index-process.ensures in
    let made = as-many program cells choices m lives.after.after in
    let alone = alone-is lives w c.index-process.result.now c.len.result it.stack c.len.ensures in
    λ i. record { activation = lives.after.after.shows.activations i + 1; process = made i + 1; alone = alone i }
