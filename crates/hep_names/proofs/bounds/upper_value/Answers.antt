use Rattle.std.proofs.Common.{◌∙◌, ap, sym, Some}
use Rattle.std.specs.Option.{option_map}
use Rattle.hep_machine.specs.Words.{Value, integer_of, upper_value, value_among, value_of}
use Rattle.hep_names.proofs.BoundValues.{closed-value}
use Rattle.hep_names.proofs.bounds.upper_value.Goals as goal

pub returns-in_ok-value-in-Expression : goal.returns-in_ok-value-in-Expression
returns-in_ok-value-in-Expression c =
    c.closed_at.ensures
    ∙ (ap (option_map Some) c.as_integer.ensures
    ∙ (closed-value c.in_ok-value-in-Expression.value
    ∙ (ap (option_map (λ (v : Value). Some (integer_of v))) (
    c.in_ok-value-in-Expression.ensures
    ∙ ap (λ unit. value_of unit (value_among c.args.constants.now) c.in-Expression.upper) c.listed.ensures)
    ∙ ap (upper_value c.args.symbols.now (value_among c.args.constants.now)) (sym c.in-Expression.is))))
