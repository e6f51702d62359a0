-- The greatest number of instructions and of operands of a unit.
use Rattle.std.specs.Prelude.{ℕ}

abbrev pub most_instructions : ℕ
most_instructions = 1048576

abbrev pub most_operands : ℕ
most_operands = 256
