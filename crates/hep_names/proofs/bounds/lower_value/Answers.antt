use Rattle.std.proofs.Common.{◌∙◌, ap, sym}
use Rattle.std.specs.Option.{option_map}
use Rattle.hep_machine.specs.Words.{integer_of, lower_value, value_among, value_of}
use Rattle.hep_names.proofs.bounds.lower_value.Goals as goal

pub returns-in_ok-value-in-Some : goal.returns-in_ok-value-in-Some
returns-in_ok-value-in-Some c =
    c.as_integer.ensures
    ∙ (ap (option_map integer_of) c.in_ok-value-in-Some.ensures
    ∙ (ap (λ unit. option_map integer_of (value_of unit (value_among c.args.constants.now) c.in-Some.lower)) c.listed.ensures
    ∙ ap (lower_value c.args.symbols.now (value_among c.args.constants.now)) (sym c.in-Some.is)))
