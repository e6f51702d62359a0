use Rattle.std.proofs.Common.{◌≡◌, ◌<◌, ◌++◌, ◌∙◌, ℕ, List, Some, refl, ap, sym, length, slice_get, get_or, arith}
use Rattle.std.specs.List.{flat_map}
use Rattle.std.proofs.lemmas.Option.{slice_get-get_or}
use Rattle.hep_machine.specs.Words.{Statement, Units, names_in_block, run, unit_at, unit_name}
use Rattle.hep_state_text.specs.States as words
use Rattle.hep_state_text.proofs.FirstUnits.{unit-is}
use Rattle.hep_state_text.proofs.Extents.{block-at, get_or-same, lines-are}
use Rattle.hep_state_text.proofs.common_variables.append_block.Goals as goal

pub append_variables-requires : goal.append_variables-requires
append_variables-requires c =
    let program = c.args.storage.now.image.now in
    let symbols = c.requires.storage.symbols in
    let number = c.in_ok-number.number in
    let unit = c.index-units-number.result in
    let inside : number < length program = omega (arith, c.in_ok-number.ensures.inside, ap length symbols) in
    let read : unit ≡ get_or program number unit = c.index-units-number.is ∙ ap (λ (us : Units). get_or us number unit) (c.units.ensures ∙ symbols) in
    let here : slice_get program number ≡ Some unit = slice_get-get_or program number unit inside ∙ ap (λ (u : List Statement). Some u) (sym read) in
    let listed = c.deref.ensures.value ∙ c.in_ok-list.ensures ∙ ap (λ (u : List Statement). names_in_block u c.args.extent.block) c.statements.ensures in
    let after = c.requires.after in (
      program,
      run program after.1,
      after.2.after.layout,
      block-at c.args.storage.now c.args.machine.now c.requires.storage after.0 after.1 after.2 c.is_runnable.ensures.accepted c.args.extent c.requires.extent number _ here listed refl,
    )

pub returns : goal.returns
returns c cells choices h =
    let program = c.args.storage.now.image.now in
    let symbols = c.requires.storage.symbols in
    let number = c.in_ok-number.number in
    let unit = c.index-units-number.result in
    let inside : number < length program = omega (arith, c.in_ok-number.ensures.inside, ap length symbols) in
    let read : unit ≡ get_or program number unit = c.index-units-number.is ∙ ap (λ (us : Units). get_or us number unit) (c.units.ensures ∙ symbols) in
    let here : slice_get program number ≡ Some unit = slice_get-get_or program number unit inside ∙ ap (λ (u : List Statement). Some u) (sym read) in
    let listed = c.deref.ensures.value ∙ c.in_ok-list.ensures ∙ ap (λ (u : List Statement). names_in_block u c.args.extent.block) c.statements.ensures in
    let s = run program choices in
    let own = c.in_ok-number.ensures.unit ∙ ap (λ (us : Units). words.unit_of_block us c.args.extent.block) symbols in
    let chosen : unit ≡ words.unit_of_block program c.args.extent.block = sym (unit-is program number unit here) ∙ ap (λ (us : Units). unit_at us number) (sym symbols) ∙ own in
    let title = c.as_slice-3.ensures ∙ c.in_ok-unit.ensures ∙ ap unit_name (c.index-as_slice-number.is ∙ (λ i. get_or ((c.as_slice.ensures ∙ c.program.ensures) i) number c.index-as_slice-number.result) ∙ get_or-same program number c.index-as_slice-number.result unit inside ∙ sym read) in
    c.in_ok-append_variables.ensures program s h.after.layout (block-at c.args.storage.now c.args.machine.now c.requires.storage cells choices h c.is_runnable.ensures.accepted c.args.extent c.requires.extent number _ here listed refl)
    ∙ ap (λ (xs : List ℕ). xs ++ flat_map (words.own_text program s (words.common_scope program s unit)) c.deref.result.now) c.in_ok-append_block.ensures
    ∙ lines-are c.args.storage.now c.args.machine.now c.requires.storage cells choices h c.is_runnable.ensures.accepted c.args.extent.block unit c.deref.result.now c.args.text.now.items c.as_slice-2.result.now c.as_slice-3.result.now chosen listed (c.as_slice-2.ensures ∙ c.in_ok-name.ensures) title
