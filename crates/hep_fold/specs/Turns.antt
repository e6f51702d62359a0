-- The turns of a history, and what is known after them: docs/ARCHITECTURE.md, "Forms".
use Rattle.std.specs.Prelude.{ℕ, zero, suc, ◌+◌, Bool, true, false, List, [], ◌∷◌, ◌++◌, map, replicate}
use Rattle.hep_machine.specs.declared.event.Entry.{Entry}
use Rattle.hep_machine.specs.Words.{State, Units, state_after_turn}

-- the turns of an entry, each with the entry's number and its process
abbrev pub turns_of : ℕ → Entry → List (ℕ × ℕ)
turns_of entry e = replicate e.steps (entry, e.process)

-- those of entries in order, from this number on
abbrev pub turns_from : ℕ → List Entry → List (ℕ × ℕ)
turns_from entry [] = []
turns_from entry (e ∷ es) = turns_of entry e ++ turns_from (suc entry) es

-- the number of the entry of the next turn, where each turn is an entry of its own, or all are part of one
abbrev pub next_number : Bool → ℕ → ℕ
next_number true number = suc number
next_number false number = number

-- that of the turn after n turns
abbrev pub number_after : Bool → ℕ → ℕ → ℕ
number_after true number n = number + n
number_after false number n = number

-- n turns of process p, from the entry with this number on
abbrev pub turns_in_row : Bool → ℕ → ℕ → ℕ → List (ℕ × ℕ)
turns_in_row apart number p zero = []
turns_in_row apart number p (suc n) = (number, p) ∷ turns_in_row apart (next_number apart number) p n

-- the processes of turns
abbrev pub processes : List (ℕ × ℕ) → List ℕ
processes turns = map (λ (t : ℕ × ℕ). t.1) turns

-- what is known after these turns from a state, by what is known after one: of the entry with this number, of this
-- process, from this state
unfoldable pub seen_along : {S : Type 0} → Units → (ℕ → ℕ → State → S → S) → State → List (ℕ × ℕ) → S → S
seen_along program see s [] seen = seen
seen_along program see s (t ∷ ts) seen = seen_along program see (state_after_turn program t.1 s) ts (see t.0 t.1 s seen)
