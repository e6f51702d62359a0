-- Activations on stacks: docs/MACHINE.md, "Activations and processes".
use Rattle.std.specs.Prelude.{ℕ, ◌+◌, nat_eq, if◌then◌else◌, List, [], ◌∷◌}
use Rattle.std.specs.List.{flat_map}
use Rattle.hep_machine.specs.Words.{activations_on, Process}

-- how often a number occurs in a list
abbrev pub times : ℕ → List ℕ → ℕ
times a [] = 0
times a (b ∷ bs) = (if nat_eq a b then 1 else 0) + times a bs

-- how often an activation occurs on stacks
abbrev pub times_on : ℕ → List Process → ℕ
times_on a qs = times a (flat_map activations_on qs)
