use Rattle.std.proofs.Common.{◌∙◌, None, Some, subst}
use Rattle.hep_image.specs.Names.{variable_index}
use Rattle.hep_machine.specs.Words.{unit_at}
use Rattle.hep_event.specs.Variables.{IsFirstAmong}
use Rattle.hep_event.proofs.Numbered.{index-inside, index-is, kept-variables, number-is}
use Rattle.hep_event.proofs.variables.Variables.number_of.Goals as goal
use Rattle.std.proofs.lemmas.Option.{none-some}

pub returns-in_err-index : goal.returns-in_err-index
returns-in_err-index c x is placed =
    let program = c.args.image.now in
    let u = c.args.unit in
    let list = c.as_slice-2.ensures ∙ kept-variables program u c.as_slice.result.now c.index-as_slice-unit.result c.requires.unit (c.as_slice.ensures ∙ c.requires.variables) c.index-as_slice-unit.is in
    let none = subst (λ vs. IsFirstAmong vs c.args.variable None) list c.in_err-index.ensures in
    absurd (none-some (variable_index (unit_at program u) x) (index-is program u x c.args.variable None c.requires.unit is placed none))

pub variable_number-requires-clause-variable : goal.variable_number-requires-clause-variable
variable_number-requires-clause-variable c =
    let program = c.args.image.now in
    let u = c.args.unit in
    let list = c.as_slice-2.ensures ∙ kept-variables program u c.as_slice.result.now c.index-as_slice-unit.result c.requires.unit (c.as_slice.ensures ∙ c.requires.variables) c.index-as_slice-unit.is in
    let first = subst (λ vs. IsFirstAmong vs c.args.variable (Some c.in_ok-index.index)) list c.in_ok-index.ensures in
    index-inside program u c.args.variable c.in_ok-index.index first.0

pub returns : goal.returns
returns c x is placed =
    let program = c.args.image.now in
    let u = c.args.unit in
    let list = c.as_slice-2.ensures ∙ kept-variables program u c.as_slice.result.now c.index-as_slice-unit.result c.requires.unit (c.as_slice.ensures ∙ c.requires.variables) c.index-as_slice-unit.is in
    let first = subst (λ vs. IsFirstAmong vs c.args.variable (Some c.in_ok-index.index)) list c.in_ok-index.ensures in
    number-is program u x c.in_ok-index.index c.variable_number.result (index-is program u x c.args.variable (Some c.in_ok-index.index) c.requires.unit is placed first) c.variable_number.ensures
