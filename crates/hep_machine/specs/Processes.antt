-- Processes, activations and DOs in a state: docs/MACHINE.md, "Activations and processes".
use Rattle.std.specs.Prelude.{ℕ, zero, suc, ◌-◌, Bool, nat_eq, if◌then◌else◌, List, [], ◌∷◌, Option, Some, None, slice_get, slice_set}
use Rattle.std.specs.List.{list_any}
use Rattle.std.specs.Option.{unwrap_or}
use Rattle.hep_machine.specs.State.{Activation, Level, Loop, Process, State}
use Rattle.hep_machine.specs.Defaults.{no_activation, no_loop}

-- ---- numbers: "Activations and processes"

abbrev pub is_number_among : ℕ → List ℕ → Bool
is_number_among n ns = list_any (nat_eq n) ns

-- the item with this number, counted from 1
abbrev pub numbered : {A : Type 0} → List A → ℕ → Option A
numbered xs zero = None
numbered xs (suc k) = slice_get xs k

abbrev pub with_numbered : {A : Type 0} → List A → ℕ → A → List A
with_numbered xs k x = slice_set xs (k - 1) x

-- ---- processes: "Activations and processes"

abbrev pub top_of : Option Process → Option (Level × Process)
top_of None = None
top_of (Some []) = None
top_of (Some (level ∷ levels)) = Some (level, levels)

-- the top level of a living process, and the levels below it; none where the process isn't alive
abbrev pub living : State → ℕ → Option (Level × Process)
living s p = top_of (numbered s.processes p)

abbrev pub with_process : State → ℕ → Process → State
with_process s p q = record s { processes = with_numbered s.processes p q }

-- ---- activations: "Activations and processes"

abbrev pub activation_of : State → ℕ → Activation
activation_of s a = unwrap_or (numbered s.activations a) no_activation

-- the unit of an activation, by its number in the program
abbrev pub unit_of : State → ℕ → ℕ
unit_of s a = (activation_of s a).unit

-- the activation that called or created this one; that of the main program has none
abbrev pub parent_of : State → ℕ → Option ℕ
parent_of s a = (activation_of s a).parent

-- ---- DOs: X3.9-1978, 11.10.3

abbrev pub loop_at : List Loop → ℕ → Loop
loop_at [] d = no_loop d
loop_at (l ∷ ls) d = if nat_eq l.statement d then l else loop_at ls d

abbrev pub with_loop : List Loop → Loop → List Loop
with_loop [] l = l ∷ []
with_loop (k ∷ ks) l = if nat_eq k.statement l.statement then l ∷ ks else k ∷ with_loop ks l
