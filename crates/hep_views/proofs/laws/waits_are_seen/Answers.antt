use Rattle.std.proofs.Common.{◌≡◌, true, is_some, subst, sym}
use Rattle.hep_machine.specs.Words.{main_among}
use Rattle.hep_conditions.specs.Words.{IsAccepted}
use Rattle.hep_views.proofs.Waits.{waits-seen}
use Rattle.hep_views.proofs.laws.waits_are_seen.Goals as goal

pub returns : goal.returns
returns c program cells choices m p accepted main after =
    let taken = c.turns_are_taken.ensures in
    waits-seen program cells (
    record {
      turning = taken.turning program cells;
      ended = taken.ended program cells;
      none = taken.none program cells;
      settled = c.settled_machines_show_the_same.ensures;
      running = λ t same turning.
          c.tops_are_running.ensures.running t (subst IsAccepted (sym same) accepted) (subst (λ units. is_some (main_among units) ≡ true) (sym same) main) turning;
      simulated = c.operations_do_what_the_machine_does.ensures;
    }
    ) choices m p after
