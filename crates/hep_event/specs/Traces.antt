-- The lines of a history's steps, by a program: docs/RUNS.md, "What each step did".
use Rattle.std.specs.Prelude.{ℕ, zero, suc, ◌+◌, Bool, true, not, nat_eq, nat_le, ◌&&◌, if◌then◌else◌, List, [], ◌∷◌, ◌++◌, codes, length, Option, Some, None}
use Rattle.std.specs.List.{filter}
use Rattle.hep_machine.specs.declared.event.Entry.{Entry}
use Rattle.hep_machine.specs.Words.{Units, line_at, unit_name, unit_on_top, Level, Process, State, Top, is_held, is_number_among, living, opening, Progress, progress_after_entry, progress_after_step, state_after_turn, step_result_of}
use Rattle.hep_event.specs.AccessedNames.{touches}
use Rattle.hep_event.specs.StepTexts.{deed_text}
use Rattle.hep_event.specs.LineTexts as lines

-- n numbers from one on
abbrev pub numbers_from : ℕ → ℕ → List ℕ
numbers_from first zero = []
numbers_from first (suc n) = first ∷ numbers_from (suc first) n

-- the processes except p that were found waiting before its step and aren't after it, by their numbers
abbrev pub woken : ℕ → Progress → Progress → List ℕ
woken p old new =
    filter (λ q. (is_number_among q old.listed && not (is_number_among q new.listed)) && not (nat_eq p q)) (numbers_from 1 (length old.state.processes))

-- activations that had a frame before a step and have none after it
abbrev pub freed : State → State → List ℕ
freed old new = filter (λ a. is_held old a && not (is_held new a)) (numbers_from 1 (length old.activations))

-- ---- what is shown

-- the entries that are shown: from one number to another, of one process or of all; and of these the turns that
-- access a variable of one name, or all
pub record LineSelection : Type 0 where
  pub first : ℕ
  pub last : ℕ
  pub process : Option ℕ
  pub cell : Option (List ℕ)

abbrev pub is_of : Option ℕ → ℕ → Bool
is_of None p = true
is_of (Some q) p = nat_eq q p

abbrev pub is_shown : LineSelection → ℕ → ℕ → Bool
is_shown shown entry p = nat_le shown.first entry && nat_le entry shown.last && is_of shown.process p

-- ---- lines

module _ (program : Units) where
  -- what a process does with this activation on top, and what else the step changed
  abbrev pub turn_text : ℕ → Progress → Progress → Top → List ℕ
  turn_text entry old new t =
      lines.head_text entry t.process (unit_name (unit_on_top program t)) (line_at (unit_on_top program t) t.level.statement)
      ++ deed_text program t (step_result_of program t.process old.state)
      ++ lines.woken_text (woken t.process old new) ++ lines.all_freed_text (freed old.state new.state) ++ codes "\n"

  abbrev pub is_accessed : Option (List ℕ) → Top → Bool
  is_accessed None t = true
  is_accessed (Some name) t = touches program t name

  abbrev pub line_by : Option (List ℕ) → ℕ → ℕ → Progress → Progress → Option (Level × Process) → List ℕ
  line_by cell entry p old new None = []
  line_by cell entry p old new (Some top) =
      let t : Top = record { state = old.state; process = p; level = top.0; below = top.1 } in
      if is_accessed cell t then turn_text entry old new t else []

  -- the line of a turn of process p, of the entry with this number, from the progress before and after it
  abbrev pub line_text : Option (List ℕ) → ℕ → ℕ → Progress → Progress → List ℕ
  line_text cell entry p old new = line_by cell entry p old new (living old.state p)

  -- ---- entries

  -- n steps of p, a line each
  abbrev pub steps_text : Option (List ℕ) → ℕ → ℕ → Progress → ℕ → List ℕ
  steps_text cell entry p x zero = []
  steps_text cell entry p x (suc n) =
      line_text cell entry p x (progress_after_step program x p (state_after_turn program p x.state))
      ++ steps_text cell entry p (progress_after_step program x p (state_after_turn program p x.state)) n

  -- an entry without steps has one line
  abbrev pub entry_text : Option (List ℕ) → ℕ → Progress → Entry → ℕ → List ℕ
  entry_text cell entry x e zero = line_text cell entry e.process x (progress_after_entry program x e 0)
  entry_text cell entry x e (suc n) = steps_text cell entry e.process x (suc n)

  -- the lines of entries from this number on
  unfoldable pub trace_from : LineSelection → ℕ → Progress → List Entry → List ℕ
  trace_from shown entry x [] = []
  trace_from shown entry x (e ∷ es) =
      (if is_shown shown entry e.process then entry_text shown.cell entry x e e.steps else [])
      ++ trace_from shown (suc entry) (progress_after_entry program x e e.steps) es

  -- the lines of a history, whose entries are counted from 1
  abbrev pub trace_text : LineSelection → List Entry → List ℕ
  trace_text shown history = trace_from shown 1 (record { state = opening program; listed = [] }) history
