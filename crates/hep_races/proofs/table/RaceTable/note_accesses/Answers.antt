use Rattle.std.proofs.Common.{sym, ◌∙◌, arith}
use Rattle.hep_races.specs.Vectors.{clock_in}
use Rattle.hep_races.proofs.ObservedMore.{accesses-next}
use Rattle.hep_races.proofs.table.RaceTable.note_accesses.Goals as goal

pub loop-access-preserved : goal.loop-access-preserved
loop-access-preserved c = λ x.
    sym (
    accesses-next (clock_in c.args.clock.now) c.args.step c.args.event.now.process c.args.event.now.accesses.now
    c.loop-access.access-index _ x
    c.loop-access.self c.note_access.new.self (omega arith) c.in_ok-note_access.ensures.rows c.in_ok-note_access.ensures.latest)
    ∙ c.loop-access.invariant x
