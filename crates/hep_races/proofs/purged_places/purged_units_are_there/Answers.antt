use Rattle.std.proofs.Common.{is_some, subst, sym, true, ◌≡◌}
use Rattle.hep_conditions.specs.Words.{IsAccepted}
use Rattle.hep_event.proofs.FoundVariables.{itself, levels-of, turns}
use Rattle.hep_machine.specs.Words.{main_among}
use Rattle.hep_races.proofs.PurgedThere.{purged-there}
use Rattle.hep_races.proofs.purged_places.purged_units_are_there.Goals as goal

pub returns : goal.returns
returns c cells choices top h targets next =
    let a = c.args.ahead.now in
    let m = a.machine.now in
    let program = a.image.now in
    let accepted = c.is_runnable.ensures.accepted in
    let main = c.is_runnable.ensures.main in
    let w = levels-of h.lives in
    let placed = c.tops_are_running.ensures.arrays (itself m h.lives.after h.lives.running w) accepted main
    (turns m h.lives.after h.lives.running w) in
    purged-there cells choices a top h (
    record {
      closed = c.programs_are_closed.ensures.closed program accepted;
      units = λ choices a one made. c.units_are_there.ensures program choices a accepted main one made;
      bound = λ choices a one made. c.activations_are_bound_in_runs.ensures program choices a accepted main one made;
      running = λ t same turning.
          c.tops_are_running.ensures.running t (subst IsAccepted (sym same) accepted) (subst (λ units. is_some (main_among units)
          ≡ true) (sym same) main) turning;
    }) (
    record {
      accepted = accepted;
      main = main;
      running = c.tops_are_running.ensures.running;
      placed = c.variables_of_the_code_are_placed.ensures.all;
    }) placed targets next
