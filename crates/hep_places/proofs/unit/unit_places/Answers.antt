use Rattle.std.proofs.Common.{◌≡◌, List, map, ap, ap₂, subst, ◌∙◌}
use Rattle.std.specs.List.{filter}
use Rattle.std.specs.Option.{unwrap_or}
use Rattle.indexmap.specs.IndexMap.{get}
use Rattle.hep_machine.specs.Words.{Name, Statement, name_eq, unit_at, is_array, names_of}
use Rattle.hep_image.specs.Private.{is_private}
use Rattle.hep_places.specs.declared.unit.UnitPlaces.{UnitPlaces}
use Rattle.hep_places.specs.DummyArguments.{source_in}
use Rattle.hep_places.specs.StorageStarts.{array_found, variable_among}
use Rattle.hep_places.specs.FrameOwners.{variables_found}
use Rattle.hep_places.proofs.Accepted.{no-dummy}
use Rattle.hep_places.proofs.FinalStarts.{IsFound, found_start, places-right}
use Rattle.hep_places.proofs.RightPlaces.{constant-is-fixed}
use Rattle.hep_places.proofs.unit.unit_places.Goals as goal
use Rattle.hep_image.proofs.Numbers.{unit-there}

pub returns : goal.returns
unfolding source_in
returns c = λ program u accepted inside same starts few small.
    let unit = unit_at program u in
    let now = c.args.symbols.now in
    let common = c.args.common.now in
    let t = c.in_ok-tables.tables in
    let p : UnitPlaces = record {
      places = record { variables = c.in_ok-variables_among.field-0; loop_cells = c.replace.result };
      arrays = c.in_ok-arrays.arrays;
      cells = t.cells;
      private = c.in_ok-private.private;
      dummies = c.in_ok-dummies.dummies;
      frame_variables = c.in_ok-frame_variables.frame_variables;
    } in
    let there = unit-there program u inside in
    let names : c.as_slice-names.result.now ≡ names_of now = c.as_slice-names.ensures.keys ∙ c.names.ensures in
    places-right program u unit common t p there
    (record {
      constant = λ x h e. let found = c.constant_shapes.ensures program u x accepted inside h e in (found.0, found.1);
      adjusted = λ x h found. constant-is-fixed unit x h found;
      own = λ x h i. let found = c.arrays_have_shapes.ensures.constant program u unit x accepted there h (no-dummy unit x i) in (found.0, found.1);
    })
    (λ i j x f g. c.names_are_given_once.ensures.dummies program u i j unit x accepted there f g)
    (c.arrays_are_few.ensures program u accepted inside small few) small few starts
    (subst (λ (v : List Statement). IsFound v common t p) same (record {
      tables = c.in_ok-tables.ensures;
      variables = λ x. c.in_ok-variables_among.ensures x ∙ ap (λ xs. variable_among now (found_start now common t) 0 xs x) names;
      loops = λ i. (c.replace.ensures.value i).items;
      arrays = c.in_ok-arrays.ensures ∙ ap (λ xs. map (array_found now (found_start now common t) (get name_eq t.bounds)) (filter (is_array now) xs)) names;
      cells = λ i. t.cells;
      private_are = c.in_ok-private.ensures ∙ ap (λ xs. map (λ (x : Name). unwrap_or (get name_eq t.locals x) 0) (filter (is_private now) xs)) c.locals.ensures;
      dummies = c.in_ok-dummies.ensures;
      in_frame = c.in_ok-frame_variables.ensures ∙ ap₂ (λ ds xs. variables_found now (get name_eq t.locals) ds xs) c.dummies.ensures c.locals-2.ensures;
    }))
