-- What processes wait for, read from a machine: docs/RUNS.md, "What everything holds".
use Rattle.std.specs.Prelude.{◌≡◌, ℕ, zero, suc, List, [], Option, Some, None, slice_get}
use Rattle.hep_blocked.specs.RosterUpdates.{IsBlocked}
use Rattle.hep_cells.specs.declared.want.Want.{Want}
use Rattle.hep_machine.specs.Words.{Units, run, wanted_by}
use Rattle.hep_state.specs.declared.core_state.CoreState.{CoreState}
use Rattle.hep_state.specs.Words.{IsMachineAfter}
use Rattle.hep_state_text.specs.Lines as lines
use Rattle.hep_state_text.specs.States.{waiting_text}
use Rattle.hep_views.specs.declared.listed.Listed.{Listed}
use Rattle.hep_views.specs.declared.place.Place.{Place}

abbrev pub name_seen : Option (List ℕ) → List ℕ
name_seen None = []
name_seen (Some name) = name

-- a variable; it has an element's number only if it is an array
abbrev pub element_seen : List ℕ → ℕ → List ℕ
element_seen name zero = name
element_seen name (suc k) = lines.element_text name (suc k)

-- COMMON has no activation as its owner
abbrev pub owned_seen : List ℕ → ℕ → ℕ → List ℕ
owned_seen name element zero = lines.element_text (lines.block_name name) element
owned_seen name element (suc a) = lines.owned_text (element_seen name element) (suc a)

-- with these names of variables and blocks by their numbers
abbrev pub place_seen : List (List ℕ) → Place → List ℕ
place_seen names p = owned_seen (name_seen (slice_get names p.name)) p.element p.owner

-- the place of what a process waits for
abbrev pub place_listed : Listed → Place
place_listed l = record { owner = l.owner; name = l.name; element = l.element }

-- after any turns after which process p waits for the cell, these are the words for it
abbrev pub IsTextOfWait : Units → CoreState → ℕ → Want → List ℕ → Type 0
IsTextOfWait program m p want text =
    (cells : ℕ) (choices : List ℕ) → IsMachineAfter program cells choices m → IsBlocked program cells choices p want
    → text ≡ waiting_text program (run program choices) (wanted_by program p (run program choices))
