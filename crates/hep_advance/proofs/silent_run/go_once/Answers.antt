use Rattle.std.proofs.Common.{◌≡◌, ◌+◌, ◌∙◌, subst, arith}
use Rattle.hep_state.specs.Words.{snapshot_of}
use Rattle.hep_state.proofs.OtherProcesses.{beside-again}
use Rattle.hep_advance.specs.SilentRuns.{MakesMoves}
use Rattle.hep_advance.proofs.SilentTurns.{more-made}
use Rattle.hep_advance.proofs.silent_run.go_once.Goals as goal

-- by the table none was made, and the machine lives on as it was
pub go_along-requires-clause-turn : goal.go_along-requires-clause-turn
go_along-requires-clause-turn c =
    let lives = c.turn_by_table-made.ensures.lives in
    let h = c.requires.turn.turn.after in
    let there = c.turn_by_table-made.ensures.gone h.0 h.1 h.2 in
    record { turn = record { after = (h.0, there.0, there.2); running = lives.running ∙ c.requires.turn.turn.running; living = lives.living }; tables = c.requires.turn.tables }

pub returns-clause-gone : goal.returns-clause-gone
returns-clause-gone c =
    let program = c.args.tabled.now.image.now in
    let same : c.turn_by_table-made.result + c.go_along.result ≡ c.go_along.result = omega arith in
    subst (λ n. MakesMoves program c.args.p c.args.machine.now n c.go_along.new.machine) same
    (more-made program c.args.p c.args.machine.now c.turn_by_table-made.new.machine c.go_along.new.machine c.turn_by_table-made.result c.go_along.result c.turn_by_table-made.ensures.gone c.go_along.ensures.gone)

pub returns-clause-others : goal.returns-clause-others
returns-clause-others c =
    beside-again c.args.p (snapshot_of c.args.machine.now) (snapshot_of c.turn_by_table-made.new.machine) (snapshot_of c.go_along.new.machine) c.turn_by_table-made.ensures.lives.others c.go_along.ensures.others
