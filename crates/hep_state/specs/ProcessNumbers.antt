-- The processes that are kept, by their numbers: docs/ARCHITECTURE.md, "Forms".
use Rattle.std.specs.Prelude.{◌≡◌, ◌<◌, ℕ, zero, suc, List, [], ◌∷◌, length, map, Some, if◌then◌else◌, nat_eq, slice_get}
use Rattle.hep_proc.specs.declared.process.Process.{Process}
use Rattle.hep_proc.specs.Stacks.{Stack, no_stack, stack_of}

abbrev pub numbers_of : List Process → List ℕ
numbers_of qs = map (λ (q : Process). q.number) qs

-- the process with this number is at an index
pub record IsPlaceOf (qs : List Process) (p at : ℕ) : Type 0 where
  pub inside : at < length qs
  pub number : slice_get (numbers_of qs) at ≡ Some p

-- ---- stacks

-- the stack of the process with a number; an empty one where it isn't kept
abbrev pub stack_numbered : List Process → ℕ → Stack
stack_numbered [] p = no_stack
stack_numbered (q ∷ qs) p = if nat_eq p q.number then stack_of q else stack_numbered qs p

-- the stacks of processes from this number on
abbrev pub stacks_from : List Process → ℕ → ℕ → List Stack
stacks_from qs p zero = []
stacks_from qs p (suc n) = stack_numbered qs p ∷ stacks_from qs (suc p) n

-- the stacks of all processes that were made
abbrev pub stacks_of : List Process → ℕ → List Stack
stacks_of qs made = stacks_from qs 1 made
