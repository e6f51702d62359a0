use Rattle.std.proofs.Common.{◌≡◌, ◌++◌, ◌∷◌, [], ◌∙◌, ap, arith, false, length, refl, true}
use Rattle.std.proofs.lemmas.Bool.{le-ltb, lt-ltb}
use Rattle.hep_core.proofs.GoodTickets.{as-many}
use Rattle.hep_machine.specs.Words.{run}
use Rattle.hep_races.specs.StepChanges.{has_failed}
use Rattle.hep_races.proofs.ObservedSteps.{made-same, made-state, observed}
use Rattle.hep_races.proofs.step_event.ObservedStep.end.Goals as goal

pub returns-then-self-faults : goal.returns-then-self-faults
returns-then-self-faults c program cells choices p top lives steps looked after =
    let s = run program choices in
    let u = run program (choices ++ p ∷ []) in
    let m = c.args.machine.now in
    let old = c.args.self.now in
    let more = as-many program cells (choices ++ p ∷ []) m after.after in
    let failed : has_failed s u ≡ true = lt-ltb (length s.faults) (length u.faults) (
    omega (arith, c.if-self-faults.true, ap length c.as_slice-faults.ensures.value, looked.faults, ap length after.after.shows.faults)) in
    observed program p s u top lives (made-state program choices p steps) old (
    record {
      process = old.process;
      makes = c.made_since-self.result;
      needs = old.needs;
      changes = c.clear.new.self;
      access = old.fault_access;
      bounds = old.bounds;
      fault_access = old.fault_access;
      made = old.made;
      faults = old.faults;
    }) true looked failed refl (c.made_since-self.ensures
    ∙ made-same s u old.made m.made looked.made more) refl c.clear.ensures.items refl refl

pub returns-else-self-faults : goal.returns-else-self-faults
returns-else-self-faults c program cells choices p top lives steps looked after =
    let s = run program choices in
    let u = run program (choices ++ p ∷ []) in
    let m = c.args.machine.now in
    let old = c.args.self.now in
    let more = as-many program cells (choices ++ p ∷ []) m after.after in
    let failed : has_failed s u ≡ false = le-ltb (length s.faults) (length u.faults) (
    omega (arith, c.if-self-faults.false, ap length c.as_slice-faults.ensures.value, looked.faults, ap length after.after.shows.faults)) in
    observed program p s u top lives (made-state program choices p steps) old (
    record {
      process = old.process;
      makes = c.made_since-self.result;
      needs = old.needs;
      changes = old.changes;
      access = old.access;
      bounds = old.bounds;
      fault_access = old.fault_access;
      made = old.made;
      faults = old.faults;
    }) false looked failed refl (c.made_since-self.ensures ∙ made-same s u old.made m.made looked.made more) refl refl refl refl
