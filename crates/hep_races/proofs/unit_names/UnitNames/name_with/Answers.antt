use Rattle.std.proofs.Common.{◌≡◌, ◌∙◌, ◌≤◌, List, Some, ap, arith, length, slice_get, sym}
use Rattle.std.proofs.lemmas.Bool.Decides.{nat_tests}
use Rattle.std.proofs.lemmas.Option.{slice_get-get_or, slice_get_past}
use Rattle.hep_image.proofs.Numbers.{variable-inside}
use Rattle.hep_machine.specs.Words.{Name as SourceName, names_of, unit_at}
use Rattle.hep_races.proofs.KeptNames.{kept-names, named-at}
use Rattle.hep_races.proofs.unit_names.UnitNames.name_with.Goals as goal

pub returns-then-count-eq0 : goal.returns-then-count-eq0
returns-then-count-eq0 c x among numbered =
    let program = c.args.image.now in
    let u = c.args.unit in
    let list = c.as_slice-names.ensures ∙ kept-names program u c.as_slice.result.now c.index-as_slice-unit.result c.requires.unit
    (c.as_slice.ensures ∙ c.requires.names) c.index-as_slice-unit.is in
    absurd (omega (arith, variable-inside (unit_at program u) x among, c.if-count-eq0.true, ap length list))

pub variable_number-first-requires-clause-variable : goal.variable_number-first-requires-clause-variable
variable_number-first-requires-clause-variable c =
    let program = c.args.image.now in
    let u = c.args.unit in
    let list = c.as_slice-names.ensures ∙ kept-names program u c.as_slice.result.now c.index-as_slice-unit.result c.requires.unit
    (c.as_slice.ensures ∙ c.requires.names) c.index-as_slice-unit.is in
    omega (arith, c.if-count-eq0.false, ap length list)

pub returns-in-Some : goal.returns-in-Some
returns-in-Some c x among numbered =
    let program = c.args.image.now in
    let u = c.args.unit in
    let list = c.as_slice-names.ensures ∙ kept-names program u c.as_slice.result.now c.index-as_slice-unit.result c.requires.unit
    (c.as_slice.ensures ∙ c.requires.names) c.index-as_slice-unit.is in
    let names = c.as_slice-names.result.now in
    let index = c.saturating_sub.result in
    let name = c.in-Some.name.now in
    let there : slice_get names index ≡ Some name = slice_get-get_or names index name c.in-Some.ensures.lookup.3.0
    ∙ ap (λ (y : SourceName). Some y) (sym (c.in-Some.ensures.lookup.3.1 name)) in
    sym there ∙ ap (λ (ns : List SourceName). slice_get ns index) list
    ∙ ap (slice_get (names_of (unit_at program u))) c.saturating_sub.ensures
    ∙ named-at program u x c.args.number c.variable_number-first.result among numbered c.variable_number-first.ensures

pub returns-in-None : goal.returns-in-None
returns-in-None c x among numbered =
    let program = c.args.image.now in
    let u = c.args.unit in
    let list = c.as_slice-names.ensures ∙ kept-names program u c.as_slice.result.now c.index-as_slice-unit.result c.requires.unit
    (c.as_slice.ensures ∙ c.requires.names) c.index-as_slice-unit.is in
    let names = c.as_slice-names.result.now in
    let index = c.saturating_sub.result in
    let test = sym c.in-None.ensures.lookup.0 in
    let over : length names ≤ index = grind (arith, nat_tests, test) in
    sym (slice_get_past names index over) ∙ ap (λ (ns : List SourceName). slice_get ns index) list
    ∙ ap (slice_get (names_of (unit_at program u))) c.saturating_sub.ensures
    ∙ named-at program u x c.args.number c.variable_number-first.result among numbered c.variable_number-first.ensures
