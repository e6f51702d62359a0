use Rattle.std.proofs.Common.{◌≡◌, ◌≢◌, ℕ, Some, refl, sym, ◌∙◌, subst, IsSome}
use Rattle.std.proofs.lemmas.Option.{same_Some}
use Rattle.hep_code.specs.declared.variable.Variable.TheVariants.{Absent}
use Rattle.hep_code.specs.Words.{Stands}
use Rattle.hep_code.proofs.ControlFlow.{next_is_ahead}
use Rattle.hep_event.specs.NextAccesses.{IsAccessed}
use Rattle.hep_event.proofs.TopPositions.{on-top}
use Rattle.hep_image.specs.Places.{variable_of}
use Rattle.hep_machine.specs.Words.{Level, Process, next_of, run, unit_at, unit_of}
use Rattle.hep_step.specs.Simulation.{unit_addressed, unit_code}
use Rattle.hep_views.proofs.WaitingPlaces.{living-top}
use Rattle.hep_event.specs.NamedVariables.{named_by}
use Rattle.hep_event.proofs.AccessedAhead.{named-placed, names-accessed}
use Rattle.hep_event.proofs.site_laws.accesses_name_variables.Goals as goal
use Rattle.hep_source.proofs.Tests.{dropped-first}

pub returns : goal.returns
returns c program cells choices m p top coming x accepted after lives is accessed =
    let s = run program choices in
    let levels = (living-top program cells choices m after p (subst IsSome (sym lives) refl)).is_top.levels in
    let u = levels.level.unit in
    let here = on-top m after levels in
    let same : here.top ≡ top = same_Some here.top top (sym here.lives ∙ lives) in
    let unit : unit_of s top.0.activation ≡ u = subst (λ (z : Level × Process). unit_of s z.0.activation ≡ u) same here.stands.here.unit in
    let k = is levels in
    let old = subst (λ (z : Level × Process). Stands (unit_addressed program u) z.0.statement z.0.work levels.operands levels.level.index) same here.stands.stands in
    let stands : Stands (unit_addressed program u) top.0.statement top.0.work coming.operands.items k.index = record { fits = old.fits; rest = old.rest; same = old.same ∙ sym k.same } in
    let next = (next_is_ahead (unit_addressed program u) top.0.statement top.0.work coming.operands.items k.index stands coming.line coming.operation coming.behind.now k.ahead).1 in
    let there : IsAccessed (next_of (unit_at program u) top.0.work) x = subst (λ (v : ℕ). IsAccessed (next_of (unit_at program v) top.0.work) x) unit accessed in
    let named = names-accessed (unit_addressed program u) top.0.statement top.0.work coming.operands.items k.index coming.operation coming.behind.now (next_of (unit_at program u) top.0.work) x next there in
    let first = dropped-first (unit_code program u) k.index _ coming.behind.now k.ahead in
    let placed = named-placed coming.operation coming.operands.items (variable_of program (unit_at program u) x.0) x.1
    (c.variables_of_the_code_are_placed.ensures.operations program u k.index coming.line coming.operation accepted here.stands.here.inside first) named in
    subst (λ (v : ℕ). (named_by coming.operation coming.operands.items ≡ Some (variable_of program (unit_at program v) x.0, x.1)) × (variable_of program (unit_at program v) x.0 ≢ Absent)) (sym unit) (
    (named, placed))
