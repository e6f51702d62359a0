use Rattle.std.proofs.Common.{◌≡◌, Some, refl, sym, ◌∙◌, subst}
use Rattle.std.proofs.lemmas.Option.{same_Some}
use Rattle.hep_code.specs.Words.{is_asynchronous}
use Rattle.hep_image.specs.Places.{variable_of}
use Rattle.hep_layout.specs.Words.{address}
use Rattle.hep_machine.specs.Words.{Layout, Level, Process, location_of_name, next_of, run, scope_of, unit_at, unit_of}
use Rattle.hep_event.specs.NextAccesses.{IsAccessed, IsOfLocation}
use Rattle.hep_event.proofs.AccessedVariables.{found-so}
use Rattle.hep_event.proofs.TopPositions.{settled-there, settled-turn, turn}
use Rattle.hep_step.specs.Simulation.{variable_in}
use Rattle.hep_event.proofs.next_laws.accesses_are_found.Goals as goal

pub returns-clause-named : goal.returns-clause-named
returns-clause-named c program cells choices p m coming levels top x accepted main running after is lives accessed =
    let k = is levels in
    let s = run program choices in
    let t = turn m after running levels in
    let same : t.0 ≡ top = same_Some t.0 top (sym t.1.lives ∙ lives) in
    let settled = settled-there m after running levels coming k in
    let runs = c.tops_are_running.ensures.running (settled-turn m after running levels coming k) accepted main settled in
    let there = subst (λ (z : Level × Process). IsAccessed (next_of (unit_at program (unit_of s z.0.activation)) z.0.work) x) (sym same) accessed in
    let f = found-so m after running levels coming k runs (next_of (unit_at program (unit_of s t.0.0.activation)) t.0.0.work) x refl there in
    subst (λ (z : Level × Process). (variable_in coming.operation ≡ Some (variable_of program (unit_at program (unit_of s z.0.activation)) x.0)) × (is_asynchronous (variable_of program (unit_at program (unit_of s z.0.activation)) x.0) ≡ x.0.asynchronous)) same (
    (f.variable, f.addressed.0))

pub returns-clause-kept : goal.returns-clause-kept
returns-clause-kept c program cells choices p m coming levels top x accepted main running after is lives accessed =
    let k = is levels in
    let s = run program choices in
    let t = turn m after running levels in
    let same : t.0 ≡ top = same_Some t.0 top (sym t.1.lives ∙ lives) in
    let settled = settled-there m after running levels coming k in
    let runs = c.tops_are_running.ensures.running (settled-turn m after running levels coming k) accepted main settled in
    let there = subst (λ (z : Level × Process). IsAccessed (next_of (unit_at program (unit_of s z.0.activation)) z.0.work) x) (sym same) accessed in
    let laid : settled.after.layout ≡ after.after.layout = same_Some settled.after.layout after.after.layout (sym settled.after.laid ∙ after.after.laid) in
    let f = found-so m after running levels coming k runs (next_of (unit_at program (unit_of s t.0.0.activation)) t.0.0.work) x refl there in (
      f.reply,
      f.replied,
      subst (λ (z : Level × Process). IsOfLocation (address program s after.after.layout) f.reply (location_of_name (scope_of program s z.0.activation) x.0 x.1)) same (
          subst (λ (l : Layout). IsOfLocation (address program s l) f.reply (location_of_name (scope_of program s t.0.0.activation) x.0 x.1)) laid f.kept),
    )
