use Rattle.hep_state.specs.Words.{turn_with}
use Rattle.hep_state.proofs.TakenTurns.{gap-kept}
use Rattle.hep_state.proofs.TopActivations.{turning}
use Rattle.hep_state.proofs.laws.other_steps_find_gaps.Goals as goal

pub returns : goal.returns
returns c program cells choices m p accepted main after running none =
    let turn = turning p after none.levels running in
    let runs = c.tops_are_running.ensures.running (turn_with program cells choices none.levels turn.0) accepted main turn.1 in
    gap-kept turn.1 runs none.past none.plain
