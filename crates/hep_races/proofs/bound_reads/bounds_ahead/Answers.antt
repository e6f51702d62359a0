use Rattle.std.proofs.Common.{◌∙◌, Some, ap, arith, length, map, slice_get, subst, sym}
use Rattle.std.proofs.lemmas.List.{length-map}
use Rattle.std.proofs.lemmas.Option.{same_Some, slice_get-map}
use Rattle.std.proofs.lemmas.Result.{IfOk-weaker}
use Rattle.std.specs.Option.{option_map}
use Rattle.hep_accesses.specs.Exchanges.{next_on_top}
use Rattle.hep_image.proofs.Numbers.{unit-there}
use Rattle.hep_machine.specs.Words.{run, unit_at, unit_of}
use Rattle.hep_races.proofs.BegunSteps.{uncalled-reads}
use Rattle.hep_races.proofs.ReadBounds.{range-reads}
use Rattle.hep_races.proofs.bound_reads.bounds_ahead.Goals as goal
use Rattle.hep_races.specs.BoundReads.{IsGivenAhead}
use Rattle.hep_races.specs.NamesInBounds.{bounds_of_unit}
use Rattle.hep_races.specs.StepEvents.{AreThere, access_seen}
use Rattle.hep_step.specs.Simulation.{unit_addressed}
use Rattle.hep_trace.specs.References.{top_after}

pub returns-in_default : goal.returns-in_default
returns-in_default c cells choices top h =
    let a = c.args.ahead.now in
    let program = a.image.now in
    let s = run program choices in
    let t = top_after program choices a.process top in
    let come = c.operations_come_next.ensures program cells choices a.machine.now a.process top a.coming.now
    c.is_runnable.ensures.accepted c.is_runnable.ensures.main h.lives h.coming in
    let none = uncalled-reads (unit_addressed program (unit_of s top.0.activation)) top.0.statement top.0.work a.coming.now.operands.items
    come.0
    a.coming.now.operation a.coming.now.behind.now program t (next_on_top program t) come.1 (sym c.called_by.ensures ∙ c.in_default.is) in
    record {
      seen = c.new.ensures.items ∙ ap (map (access_seen program s)) (sym none);
      there = subst (AreThere program s) (sym none) tt;
    }

pub returns-in_default-2 : goal.returns-in_default-2
returns-in_default-2 c cells choices top h =
    let a = c.args.ahead.now in
    let program = a.image.now in
    let s = run program choices in
    let given = subst (λ o. IsGivenAhead cells choices a top h c.in-Some.unit (option_map (λ gs. gs.items) o)) c.in_default-2.is (
    c.in_ok-given.ensures cells choices top h) in
    let none = range-reads cells choices a top h c.in-Some.unit given in
    record {
      seen = c.new-in_default-2.ensures.items ∙ ap (map (access_seen program s)) (sym none);
      there = subst (AreThere program s) (sym none) tt;
    }

pub of_unit-requires : goal.of_unit-requires
of_unit-requires c =
    let a = c.args.ahead.now in
    let inside = (c.in_ok-given.ensures c.requires.ahead.0 c.requires.ahead.1 c.requires.ahead.2 c.requires.ahead.3).inside in
    omega (arith, inside, ap length c.requires.bounds, length-map a.image.now (bounds_of_unit a.image.now))

pub reads_of-requires-clause-given : goal.reads_of-requires-clause-given
reads_of-requires-clause-given c =
    let a = c.args.ahead.now in
    let cells = c.requires.ahead.0 in
    let choices = c.requires.ahead.1 in
    let top = c.requires.ahead.2 in
    let h = c.requires.ahead.3 in
    let given = subst (λ o. IsGivenAhead cells choices a top h c.in-Some.unit (option_map (λ gs. gs.items) o)) c.in-Some-2.is (
    c.in_ok-given.ensures cells choices top h) in
    (cells, choices, top, h, subst (λ gs. IsGivenAhead cells choices a top h c.in-Some.unit (Some gs)) (sym c.deref.ensures.value) given)

pub reads_of-requires-clause-bounds : goal.reads_of-requires-clause-bounds
reads_of-requires-clause-bounds c =
    let program = c.args.ahead.now.image.now in
    let u = c.in-Some.unit in
    let inside = (c.in_ok-given.ensures c.requires.ahead.0 c.requires.ahead.1 c.requires.ahead.2 c.requires.ahead.3).inside in
    same_Some c.of_unit.result.now (bounds_of_unit program (unit_at program u)) (
    sym c.of_unit.ensures ∙ ap (λ us. slice_get us u) c.requires.bounds ∙ slice_get-map (bounds_of_unit program) program u
    ∙ ap (option_map (bounds_of_unit program)) (unit-there program u inside))

pub returns : goal.returns
returns c =
    IfOk-weaker c.reads_of.result _ _ (λ reads read cells choices top h.
    let a = c.args.ahead.now in
    let given = subst (λ o. IsGivenAhead cells choices a top h c.in-Some.unit (option_map (λ gs. gs.items) o)) c.in-Some-2.is (
    c.in_ok-given.ensures cells choices top h) in
    read cells choices top h (subst (λ gs. IsGivenAhead cells choices a top h c.in-Some.unit (Some gs)) (sym c.deref.ensures.value) given))
    c.reads_of.ensures
