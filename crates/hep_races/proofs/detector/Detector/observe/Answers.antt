use Rattle.std.proofs.Common.{ap, ◌∙◌, nat_eq}
use Rattle.hep_accesses.specs.Detector.{detector_after_accesses}
use Rattle.hep_races.specs.Observed.{event_in, unit_eq}
use Rattle.hep_races.specs.Tables.{detector_with}
use Rattle.hep_races.specs.Vectors.{clock_in, clocks_in}
use Rattle.hep_races.proofs.ObservedMore.{observed-more}
use Rattle.hep_races.proofs.detector.Detector.observe.Goals as goal

pub returns : goal.returns
returns c = λ n es h.
    observed-more n es (event_in c.args.event.now) c.args.self.now (
    record { steps = c.in_ok-self.field-0; clocks = c.put_after.new.self; table = c.note_accesses.new.self }) h
    (clock_in c.in_ok-clock.clock.items) (clock_in c.tick.new.clock.items) (clocks_in c.take_before.new.self) c.in_ok-self.ensures
    c.in_ok-clock.ensures.taken c.in_ok-clock.ensures.others c.in_ok-clock.ensures.units (λ x.
    c.in_ok-note_accesses.ensures x
    ∙ ap (λ clock.
    detector_after_accesses unit_eq nat_eq (clock_in clock) c.args.self.now.steps c.args.event.now.process
    (event_in c.args.event.now).accesses (
    detector_with x c.args.self.now.table)) c.deref.ensures.value) c.in_ok-tick.ensures
    c.in_ok-put_after.ensures.processes c.in_ok-put_after.ensures.units
