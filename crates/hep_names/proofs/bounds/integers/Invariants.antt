use Rattle.std.proofs.Common.{◌≡◌, ◌++◌, drop}
use Rattle.std.specs.Option.{option_map}
use Rattle.hep_machine.specs.Words.{trees_of, integers_of, value_among, values_of}
use Rattle.hep_names.proofs.bounds.integers.Given as goal

abbrev pub invariant-loop-expression : goal.invariant-loop-expression
invariant-loop-expression l =
    option_map (λ vs. l.integers.items ++ integers_of vs) (values_of l.symbols (value_among l.constants) (trees_of (drop l.expression-index l.expressions)))
    ≡ option_map integers_of (values_of l.symbols (value_among l.constants) (trees_of l.expressions))
