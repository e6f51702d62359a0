-- An activation and its ancestors: docs/MACHINE.md, "Layout".
use Rattle.std.specs.Prelude.{◌≡◌, ℕ, zero, suc, Bool, false, List, [], ◌∷◌, Option, Some, None}
use Rattle.std.specs.Option.{option_map_or}
use Rattle.hep_machine.specs.Words.{Level, Process, State, Top, is_number_among, parent_of}

-- an activation, its parent, the parent's parent and so on, a number of them at most
abbrev pub ancestry : State → ℕ → ℕ → List ℕ
ancestry s zero a = []
ancestry s (suc n) a = a ∷ option_map_or (λ b. ancestry s n b) (parent_of s a) []

-- the top activation of a process with its whole ancestry: a parent has a lower number than its child
abbrev pub IsAncestryOf : Top → List ℕ → Type 0
IsAncestryOf t activations = activations ≡ ancestry t.state t.level.activation t.level.activation

-- the top activation of a process that lives
abbrev pub activation_on : Option (Level × Process) → ℕ
activation_on None = 0
activation_on (Some top) = top.0.activation

-- activation a is the top one of a process that lives, or in its ancestry
abbrev pub has_above : State → ℕ → Option (Level × Process) → Bool
has_above s a None = false
has_above s a (Some top) = is_number_among a (ancestry s top.0.activation top.0.activation)
