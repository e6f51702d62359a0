use Rattle.std.proofs.Common.{◌≡◌, drop}
use Rattle.std.specs.List.{list_all}
use Rattle.hep_types.specs.CallPasses.{is_purgeable}
use Rattle.hep_types.proofs.forms.are_purgeable.Given as goal

abbrev pub invariant-loop-target : goal.invariant-loop-target
invariant-loop-target l = list_all (is_purgeable l.symbols) (drop l.target-index l.targets) ≡ list_all (is_purgeable l.symbols) l.targets
