use Rattle.std.proofs.Common.{◌++◌, ◌∙◌, List, ℕ, ap}
use Rattle.std.specs.List.{flat_map}
use Rattle.std.proofs.lemmas.Bool.{not-false, not-true}
use Rattle.hep_machine.specs.Words.{dummies_of, locals_of, run, scope_of, unit_of}
use Rattle.hep_state_text.specs.States as words
use Rattle.hep_state_text.proofs.FrameLines.{frame-at, frame-lines, lines-ended, lines-stacked, stacked-at, symbols-are}
use Rattle.hep_state_text.proofs.activation_lines.append_frame.Goals as goal

pub append_locals-requires : goal.append_locals-requires
append_locals-requires c = (
  c.args.storage.now.image.now,
  run c.args.storage.now.image.now c.requires.1,
  c.requires.3.after.after.layout,
  c.requires.2,
  frame-at c.args.storage.now (run c.args.storage.now.image.now c.requires.1) c.requires.3.after.after.layout c.requires.2 c.args.held.key c.requires.3.under _ c.unit-number.result c.first-first.result c.units.result.now
      (c.unit-number.ensures c.requires.3.under.node c.requires.3.under.there) (c.first-first.ensures c.requires.3.under.node c.requires.3.under.there) c.units.ensures c.index-units-number.is c.unit-code.ensures,
)

pub append_values-requires : goal.append_values-requires
append_values-requires c = (
  c.args.storage.now.image.now,
  run c.args.storage.now.image.now c.requires.1,
  c.requires.3.after.after.layout,
  c.requires.2,
  frame-at c.args.storage.now (run c.args.storage.now.image.now c.requires.1) c.requires.3.after.after.layout c.requires.2 c.args.held.key c.requires.3.under _ c.unit-number.result c.first-first.result c.units.result.now
      (c.unit-number.ensures c.requires.3.under.node c.requires.3.under.there) (c.first-first.ensures c.requires.3.under.node c.requires.3.under.there) c.units.ensures c.index-units-number.is c.unit-code.ensures,
)

pub returns-then-not-held : goal.returns-then-not-held
returns-then-not-held c cells choices a h =
    let program = c.args.storage.now.image.now in
    let s = run program choices in
    let layout = h.after.after.layout in
    let symbols = c.index-units-number.result in
    let locals : List ℕ = flat_map (words.own_text program s (scope_of program s a)) (locals_of symbols) in
    let values : List ℕ = flat_map (words.value_text program s (scope_of program s a)) (dummies_of symbols) in
    let number_is = c.unit-number.ensures h.under.node h.under.there in
    let at = frame-at c.args.storage.now (run c.args.storage.now.image.now choices) h.after.after.layout a c.args.held.key h.under _ c.unit-number.result c.first-first.result c.units.result.now
    (c.unit-number.ensures h.under.node h.under.there) (c.first-first.ensures h.under.node h.under.there) c.units.ensures c.index-units-number.is c.unit-code.ensures in
    let variables =
    c.in_ok-append_values.ensures program s layout a at
    ∙ ap (λ (xs : List ℕ). xs ++ values) (c.in_ok-append_locals.ensures program s layout a at ∙ ap (λ (xs : List ℕ). xs ++ locals) c.in_ok-append_activation.ensures)
    ∙ frame-lines c.args.storage.now s layout a c.args.held.key h.under symbols c.unit-number.result c.activation.result c.units.result.now c.args.text.now.items c.unit_name-name.result.now number_is c.units.ensures
    c.index-units-number.is (c.activation.ensures h.under.node h.under.there) c.unit_name-name.ensures in
    variables ∙ lines-ended c.args.storage.now c.args.machine c.args.held cells choices a h (not-true c.args.held.is_stacked c.if-not-held.true) c.args.text.now.items

pub append_associations-requires : goal.append_associations-requires
append_associations-requires c = (
  c.requires.0,
  c.requires.1,
  c.requires.2,
  stacked-at c.args.storage.now c.args.machine c.args.held c.requires.0 c.requires.1 c.requires.2 c.requires.3 (not-false c.args.held.is_stacked c.if-not-held.false) _ c.first-first.result
      (c.first-first.ensures c.requires.3.under.node c.requires.3.under.there) (
      frame-at c.args.storage.now (run c.args.storage.now.image.now c.requires.1) c.requires.3.after.after.layout c.requires.2 c.args.held.key c.requires.3.under _ c.unit-number.result c.first-first.result c.units.result.now
      (c.unit-number.ensures c.requires.3.under.node c.requires.3.under.there) (c.first-first.ensures c.requires.3.under.node c.requires.3.under.there) c.units.ensures c.index-units-number.is c.unit-code.ensures),
)

pub returns : goal.returns
returns c cells choices a h =
    let program = c.args.storage.now.image.now in
    let s = run program choices in
    let layout = h.after.after.layout in
    let symbols = c.index-units-number.result in
    let locals : List ℕ = flat_map (words.own_text program s (scope_of program s a)) (locals_of symbols) in
    let values : List ℕ = flat_map (words.value_text program s (scope_of program s a)) (dummies_of symbols) in
    let number_is = c.unit-number.ensures h.under.node h.under.there in
    let at = frame-at c.args.storage.now (run c.args.storage.now.image.now choices) h.after.after.layout a c.args.held.key h.under _ c.unit-number.result c.first-first.result c.units.result.now
    (c.unit-number.ensures h.under.node h.under.there) (c.first-first.ensures h.under.node h.under.there) c.units.ensures c.index-units-number.is c.unit-code.ensures in
    let variables =
    c.in_ok-append_values.ensures program s layout a at
    ∙ ap (λ (xs : List ℕ). xs ++ values) (c.in_ok-append_locals.ensures program s layout a at ∙ ap (λ (xs : List ℕ). xs ++ locals) c.in_ok-append_activation.ensures)
    ∙ frame-lines c.args.storage.now s layout a c.args.held.key h.under symbols c.unit-number.result c.activation.result c.units.result.now c.args.text.now.items c.unit_name-name.result.now number_is c.units.ensures
    c.index-units-number.is (c.activation.ensures h.under.node h.under.there) c.unit_name-name.ensures in
    let on = not-false c.args.held.is_stacked c.if-not-held.false in
    let are = symbols-are program c.units.result.now c.unit-number.result (unit_of s a) symbols c.index-units-number.is (c.units.ensures ∙ h.under.symbols) (number_is ∙ h.under.unit) h.under.inside in
    let associations : List ℕ = flat_map (words.association_text program s (scope_of program s a)) (dummies_of symbols) in
    c.in_ok-append_associations.ensures cells choices a
    (stacked-at c.args.storage.now c.args.machine c.args.held cells choices a h on _ c.first-first.result (c.first-first.ensures h.under.node h.under.there) at)
    ∙ ap (λ (xs : List ℕ). xs ++ associations) variables
    ∙ lines-stacked c.args.storage.now c.args.machine c.args.held cells choices a h on symbols are c.args.text.now.items
