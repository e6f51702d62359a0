use Rattle.std.proofs.Common.{IsSome, List, None, length, refl, sym, ap, subst}
use Rattle.hep_machine.specs.declared.event.Fault.{Fault}
use Rattle.hep_races.proofs.LookedAhead.{looked}
use Rattle.hep_races.proofs.step_event.look_ahead.Goals as goal

pub returns : goal.returns
returns c cells choices top ahead =
    let a = c.args.ahead.now in
    let m = a.machine.now in
    let come = c.operations_come_next.ensures a.image.now cells choices m a.process top a.coming.now c.is_runnable.ensures.accepted
    c.is_runnable.ensures.main ahead.lives ahead.coming in
    looked cells choices a top ahead come.0 come.1 c.named_ahead-named.result (c.named_ahead-named.ensures.named cells choices top ahead)
    c.whereabouts-place.result (c.whereabouts-place.ensures cells choices ahead.lives.after (subst IsSome (sym ahead.lives.lives) refl)) (
    record {
      process = a.process;
      makes = None;
      needs = c.need_by.result;
      changes = c.in_ok-changes.changes;
      access = c.access_by-access.result;
      bounds = c.in_ok-bounds.bounds;
      fault_access = c.fault_access.result;
      made = m.made;
      faults = length c.as_slice.result.now;
    }) (
    record {
      process = refl;
      made = refl;
      faults = ap (λ (fs : List Fault). length fs) c.as_slice.ensures.value;
      needs = c.need_by.ensures;
      changes = c.in_ok-changes.ensures cells choices top ahead (c.named_ahead-named.ensures.named cells choices top ahead)
          c.is_named_full-full.ensures;
      access = c.access_by-access.ensures;
      fault = c.fault_access.ensures;
    }) (c.in_ok-bounds.ensures cells choices top ahead) (c.purged_units_are_there.ensures cells choices top ahead)
