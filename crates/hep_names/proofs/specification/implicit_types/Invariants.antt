use Rattle.std.proofs.Common.{◌≡◌, ◌<◌, ℕ, drop, get_or, None}
use Rattle.std.specs.Option.{option_or}
use Rattle.hep_machine.specs.Declarations as declarations
use Rattle.hep_names.proofs.specification.implicit_types.Given as goal

abbrev pub invariant-loop-statement : goal.invariant-loop-statement
invariant-loop-statement l = (c : ℕ) → c < 256 → option_or (get_or l.types c None) (declarations.implicit_type c (drop l.statement-index l.unit)) ≡ declarations.implicit_type c l.unit
