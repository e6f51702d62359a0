-- A process and its changes, by parts: the top level, the levels below it, the operands of the top level, and those
-- of all others.
use Rattle.std.specs.Prelude.{◌≡◌, ◌+◌, ◌-◌, ◌≤◌, ◌&&◌, ◌==◌, ℕ, Bool, List, [], ◌∷◌, ◌++◌, drop, length, map, not, reverse, take, vec_capacity, vec_len}
use Rattle.hep_machine.specs.Words.{Value}
use Rattle.hep_proc.specs.declared.process.Local.{Local}
use Rattle.hep_proc.specs.declared.process.Process.{Process}

-- a process: its levels, the top first, the operands of the top one, and those of all others, the lowest level's first
pub record Stack : Type 0 where
  pub levels : List Local
  pub operands : List Value
  pub pending : List Value

abbrev pub stack_of : Process → Stack
stack_of q = record { levels = reverse q.levels.items; operands = q.operands.items; pending = q.pending.items }

-- the stack of a process that has nothing left
abbrev pub no_stack : Stack
no_stack = record { levels = []; operands = []; pending = [] }

-- something is left of a process
abbrev pub is_left : Process → Bool
is_left q = not ((vec_len q.levels == 0) && (vec_len q.operands == 0) && (vec_len q.pending == 0))

abbrev pub keys_of : List Local → List ℕ
keys_of ls = map (λ (l : Local). l.key) ls

-- a stack with a top level
abbrev pub stack_with : Local → List Local → List Value → List Value → Stack
stack_with l ls operands pending = record { levels = l ∷ ls; operands = operands; pending = pending }

-- it is the same one, with as much room for operands at least
pub record IsSameProcess (old new : Process) : Type 0 where
  pub number : new.number ≡ old.number
  pub room : vec_capacity old.operands ≤ vec_capacity new.operands

-- ---- the top level

-- a statement holds of its top level, the levels below it, the operands of the top level and those of all others, if
-- it has a top level
abbrev pub HoldsOfTop : Process → (Local → List Local → List Value → List Value → Type 0) → Type 0
HoldsOfTop q IsSo =
    (l : Local) (ls : List Local) (operands pending : List Value) → stack_of q ≡ stack_with l ls operands pending
    → IsSo l ls operands pending

-- this is its top level
abbrev pub HasTop : Process → Local → Type 0
HasTop q top = HoldsOfTop q (λ l _ _ _. top ≡ l)

-- ---- its changes

-- it is at another index
abbrev pub StandsAt : Process → ℕ → Process → Type 0
StandsAt old index new =
    HoldsOfTop old (λ l ls operands pending. stack_of new ≡ stack_with (record l { index = index }) ls operands pending)

-- it is at another index, without operands
abbrev pub GoesOnAt : Process → ℕ → Process → Type 0
GoesOnAt old index new =
    HoldsOfTop old (λ l ls _ pending. stack_of new ≡ stack_with (record l { index = index }) ls [] pending)

-- another level is in its place
abbrev pub PutsTop : Process → Local → Process → Type 0
PutsTop old level new = HoldsOfTop old (λ _ ls operands pending. stack_of new ≡ stack_with level ls operands pending)

-- a level is put above it; it keeps its first operands and goes on at an index
abbrev pub PutsAbove : Process → ℕ → ℕ → Local → Process → Type 0
PutsAbove old kept index level new =
    HoldsOfTop old (λ l ls operands pending.
    stack_of new ≡ stack_with level (record l { kept = kept; index = index } ∷ ls) [] (pending ++ take kept operands))

-- its top level is taken off
abbrev pub EndsTop : Process → Process → Type 0
EndsTop old new =
    HoldsOfTop old (λ _ ls _ pending. stack_of new ≡ record { levels = ls; operands = []; pending = pending })

-- after a function has ended the top one of these levels has its operands back, with the value after them, and the
-- others have the rest of the pending operands
abbrev pub operands_answered : List Value → List Local → Value → List Value
operands_answered pending [] v = []
operands_answered pending (l ∷ ls) v = drop (length pending - l.kept) pending ++ v ∷ []

abbrev pub pending_answered : List Value → List Local → List Value
pending_answered pending [] = pending
pending_answered pending (l ∷ ls) = take (length pending - l.kept) pending

-- there is room for the operands that it keeps, and one more value
abbrev pub HasRoomForValue : Process → Type 0
HasRoomForValue q = HoldsOfTop q (λ l _ _ _. l.kept + 1 ≤ vec_capacity q.operands)

-- it has its operands back, and the value after them
abbrev pub TakesValue : Process → Value → Process → Type 0
TakesValue old value new =
    (ls : List Local) (pending : List Value) → stack_of old ≡ record { levels = ls; operands = []; pending = pending }
    → stack_of new ≡ record { levels = ls; operands = operands_answered pending ls value; pending = pending_answered pending ls }
