use Rattle.std.proofs.Common.{◌∙◌, sym, ap, slice_get}
use Rattle.std.proofs.lemmas.Option.{none-some, same_Some}
use Rattle.hep_image.specs.Names.{names_in_order, variable_number}
use Rattle.hep_why.proofs.NextNames.{name-there}
use Rattle.hep_why.proofs.wait_names.name_of.Goals as goal

pub returns-in_default : goal.returns-in_default
returns-in_default c x is = absurd (none-some _ (sym c.in_default.is ∙ c.number_of.ensures x is.0 is.1))

pub returns : goal.returns
returns c x is =
    let program = c.args.image.now in
    let number = same_Some c.in-Some.number (variable_number program c.args.unit x) (sym c.in-Some.is ∙ c.number_of.ensures x is.0 is.1) in
    c.name.ensures ∙ ap (slice_get (names_in_order program)) number ∙ name-there program c.args.unit x c.args.variable c.requires.unit is
