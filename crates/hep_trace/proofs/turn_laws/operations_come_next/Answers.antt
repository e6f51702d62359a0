use Rattle.std.proofs.Common.{◌≡◌, ℕ, subst}
use Rattle.hep_code.specs.Words.{IsNext}
use Rattle.hep_machine.specs.Words.{Level, Process, next_of, run, unit_at, unit_of}
use Rattle.hep_step.specs.Simulation.{unit_addressed}
use Rattle.hep_event.proofs.Answered as answered
use Rattle.hep_event.proofs.TopPositions.{settled-there, settled-turn, turn}
use Rattle.hep_event.proofs.FoundVariables.{levels-of, same-top}
use Rattle.hep_trace.proofs.turn_laws.operations_come_next.Goals as goal

pub returns : goal.returns
returns c program cells choices m p top coming accepted main lives is =
    let levels = levels-of lives in
    let after = lives.after in
    let running = lives.running in
    let k = is levels in
    let s = run program choices in
    let same : (turn m after running levels).0 ≡ top = same-top lives levels in
    let runs = c.tops_are_running.ensures.running (settled-turn m after running levels coming k) accepted main (settled-there m after running levels coming k) in
    subst (λ (z : Level × Process). (index : ℕ)
    × IsNext (unit_addressed program (unit_of s z.0.activation)) z.0.statement z.0.work coming.operands.items index
    (next_of (unit_at program (unit_of s z.0.activation)) z.0.work) coming.operation coming.behind.now) same (
    (k.index, answered.comes m after running levels coming k runs))
