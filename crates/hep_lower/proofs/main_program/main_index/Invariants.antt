use Rattle.std.proofs.Common.{◌≡◌, ◌+◌, drop}
use Rattle.std.specs.Option.{option_map}
use Rattle.hep_machine.specs.Words.{main_among}
use Rattle.hep_lower.proofs.main_program.main_index.Given as goal

abbrev pub invariant-loop-index : goal.invariant-loop-index
invariant-loop-index l = option_map (λ n. l.index + n) (main_among (drop l.index l.program)) ≡ main_among l.program
