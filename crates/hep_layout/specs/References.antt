-- The activations to which the storage units of a dummy argument may belong: X3.9-1978, 15.9.3.
use Rattle.std.specs.Prelude.{◌≡◌, ℕ, ◌≤◌, Bool, true, Some}
use Rattle.hep_machine.specs.Words.{parent_of, Location, local, common, State}

-- The first activation is the second one or an ancestor of it: it is in every set of activations that has the second one and, with each
-- activation, its parent.
abbrev pub IsAbove : State → ℕ → ℕ → Type 0
IsAbove s above a =
    (among : ℕ → Bool) → among a ≡ true → ((c b : ℕ) → among c ≡ true → parent_of s c ≡ Some b → among b ≡ true) → among above ≡ true

-- The location is in COMMON, or belongs to the activation or an ancestor of it.
abbrev pub IsOwnedAbove : State → ℕ → Location → Type 0
IsOwnedAbove s a (local b x i) = IsAbove s b a
IsOwnedAbove s a (common b k) = Unit {0}

-- The location is in COMMON, or belongs to one of the first n activations.
abbrev pub IsMadeAt : ℕ → Location → Type 0
IsMadeAt n (local a x i) = a ≤ n
IsMadeAt n (common b k) = Unit {0}
