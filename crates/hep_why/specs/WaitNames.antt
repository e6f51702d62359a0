-- A unit's own name for what its process waits for: docs/RUNS.md, "Why processes wait".
use Rattle.std.specs.Prelude.{◌≡◌, ℕ, List, [], Option, Some, None, Ok}
use Rattle.std.specs.List.{flat_map}
use Rattle.hep_machine.specs.Words.{Level, Location, Process, Reference, State, Top, Units, living, location_of_name, next_of, scope_of, spelling, unit_on_top}
pub use Rattle.hep_event.specs.AccessedNames.{references_of}
use Rattle.hep_event.specs.StepTexts.{own_reference}
pub use Rattle.hep_event.specs.LineTexts.{reference_text}

-- the access that comes next of a process, as its unit writes it; an operation that waits accesses one variable or
-- element
abbrev pub text_ahead : Units → Top → List ℕ
text_ahead program t = flat_map (own_reference program t) (references_of program t (next_of (unit_on_top program t) t.level.work))

-- of process p with this level on top of others
abbrev pub called_with : Units → State → ℕ → Option (Level × Process) → List ℕ
called_with program s p None = []
called_with program s p (Some top) = text_ahead program (record { state = s; process = p; level = top.0; below = top.1 })

-- process p, where it lives
abbrev pub called_by : Units → State → ℕ → List ℕ
called_by program s p = called_with program s p (living s p)

-- the text is a name that is associated with this storage unit in the top activation of process p, with the
-- subscripts of an element
pub record IsNameOf (program : Units) (s : State) (p : ℕ) (at : Location) (text : List ℕ) : Type 0 where
  pub top : Level × Process
  pub reference : Reference
  pub lives : living s p ≡ Some top
  pub stands : location_of_name (scope_of program s top.0.activation) reference.0 reference.1 ≡ Ok at
  pub written : text ≡ reference_text (spelling reference.0) reference.1
