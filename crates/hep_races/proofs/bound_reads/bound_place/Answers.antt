use Rattle.std.proofs.Common.{◌∙◌, ◌∷◌, [], ap, map, sym, Some}
use Rattle.hep_accesses.specs.Accesses.{Access}
use Rattle.hep_event.proofs.FoundVariables.{levels-of}
use Rattle.hep_machine.specs.Words.{run, unit_at}
use Rattle.hep_races.specs.declared.bound_names.BoundSource.TheVariants as source
use Rattle.hep_races.proofs.ReadBounds.{first-of-value, read-of-block, reading-units, sourced}
use Rattle.hep_races.proofs.bound_reads.bound_place.Goals as goal
use Rattle.hep_views.specs.ListedProcesses.{place_of}

pub top_level-key-requires-clause-living : goal.top_level-key-requires-clause-living
top_level-key-requires-clause-living c = levels-of c.requires.reading.is_ahead.lives

pub place_at-requires : goal.place_at-requires
place_at-requires c =
    let r = c.requires.reading in
    let found = sym c.first_cell.ensures ∙ c.in-Some.is in
    let it = reading-units r c.args.bound.now.name c.in-Dummy.index
    (sourced c.args.ahead.now.image.now (unit_at c.args.ahead.now.image.now c.args.unit) c.args.bound.now.name
    (source.Dummy c.in-Dummy.index)
    (c.requires.bound ∙ ap (λ s. Some s) c.in-Dummy.is)) c.in-Some.first found
    c.top_level-key.result c.top_level-key.ensures in
    (r.cells, r.choices, it.0, it.2)

pub returns-in-Some : goal.returns-in-Some
returns-in-Some c r =
    let program = c.args.ahead.now.image.now in
    let found = sym c.first_cell.ensures ∙ c.in-Some.is in
    let it = reading-units r c.args.bound.now.name c.in-Dummy.index
    (sourced c.args.ahead.now.image.now (unit_at c.args.ahead.now.image.now c.args.unit) c.args.bound.now.name
    (source.Dummy c.in-Dummy.index)
    (c.requires.bound ∙ ap (λ s. Some s) c.in-Dummy.is)) c.in-Some.first found
    c.top_level-key.result c.top_level-key.ensures in
    ap (λ p. p ∷ []) (c.place_at.ensures r.cells r.choices it.0 it.2)
    ∙ ap (map (λ (a : Access). place_of program (run program r.choices) a.at)) (sym it.1)

pub returns-in-None : goal.returns-in-None
returns-in-None c r =
    let program = c.args.ahead.now.image.now in
    let none = first-of-value r c.args.bound.now.name c.in-Dummy.index
    (sourced c.args.ahead.now.image.now (unit_at c.args.ahead.now.image.now c.args.unit) c.args.bound.now.name
    (source.Dummy c.in-Dummy.index)
    (c.requires.bound ∙ ap (λ s. Some s) c.in-Dummy.is)) (sym c.first_cell.ensures ∙ c.in-None.is) in
    ap (map (λ (a : Access). place_of program (run program r.choices) a.at)) (sym none)

pub returns-in-Common : goal.returns-in-Common
returns-in-Common c r =
    let program = c.args.ahead.now.image.now in
    let it = read-of-block r c.args.bound.now.name c.in-Common.place (sourced program (unit_at program c.args.unit) c.args.bound.now.name
    (source.Common c.in-Common.place) (c.requires.bound ∙ ap (λ s. Some s) c.in-Common.is)) in
    ap (λ p. p ∷ []) it.3 ∙ ap (map (λ (a : Access). place_of program (run program r.choices) a.at)) (sym it.1)
