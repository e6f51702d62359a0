-- The lines of a variable: docs/RUNS.md, "What everything holds".
use Rattle.std.specs.Prelude.{ℕ, suc, Bool, true, false, not, nat_eq, if◌then◌else◌, List, [], ◌∷◌, ◌++◌, codes, length}
use Rattle.hep_machine.specs.Words.{Bounds}
use Rattle.hep_machine.specs.declared.slot.Slot.{Slot}
use Rattle.hep_state_text.specs.Subscripts.{subscripts_text}
use Rattle.hep_state_text.specs.Values.{same_slot, slot_text}

-- between the subscripts of the first and the last element of a run, by the number of dimensions
abbrev pub between : ℕ → List ℕ
between dimensions = if nat_eq dimensions 1 then codes ".." else codes ")..("

-- after the subscripts of the first element of a run, those of the last one, if it is another one
abbrev pub last_text : Bounds → ℕ → ℕ → List ℕ
last_text bounds first last = if nat_eq first last then [] else between (length bounds) ++ subscripts_text false bounds last

-- the list after the name of an array: of one element, or of those from one to another, both counted from 0
abbrev pub list_text : Bounds → ℕ → ℕ → List ℕ
list_text bounds first last = codes "(" ++ subscripts_text false bounds first ++ last_text bounds first last ++ codes ")"

-- a scalar has no list
abbrev pub elements_text : List ℕ → Bounds → ℕ → ℕ → List ℕ
elements_text name [] first last = name
elements_text name (b ∷ bs) first last = name ++ list_text (b ∷ bs) first last

-- a run of cells of a variable ends with the first one of these, if none is after it, or one that differs
abbrev pub ends_run : List Slot → Bool
ends_run (s ∷ t ∷ ss) = not (same_slot s t)
ends_run _ = true

-- of a variable with this name, asynchronous or not, and with these bounds, none for a scalar
module _ (name : List ℕ) (asynchronous : Bool) (bounds : Bounds) where
  -- the line of a run: elements from one to another, with equal cells
  abbrev pub run_text : ℕ → ℕ → Slot → List ℕ
  run_text first last s = codes "  " ++ elements_text name bounds first last ++ codes " = " ++ slot_text asynchronous s ++ codes "\n"

  -- the lines of the cells from element n on, in a run that began with the element `first`
  abbrev pub runs_text : ℕ → ℕ → List Slot → List ℕ
  runs_text first n [] = []
  runs_text first n (s ∷ ss) = if ends_run (s ∷ ss) then run_text first n s ++ runs_text (suc n) (suc n) ss else runs_text first (suc n) ss

  -- the lines of a variable with these cells, in the order of its elements (5.2.4)
  abbrev pub variable_text : List Slot → List ℕ
  variable_text slots = runs_text 0 0 slots
