-- The variable that the next operation of a process names, in the words of its turn's line: docs/RUNS.md, "What each
-- step did".
use Rattle.std.specs.Prelude.{◌≡◌, ℕ, zero, suc, ◌&&◌, nat_eq, if◌then◌else◌, List, length, Option, Some, None, slice_get}
use Rattle.std.specs.Option.{option_map}
use Rattle.hep_code.specs.declared.instruction.Argument.TheVariants.{Referred}
use Rattle.hep_code.specs.declared.instruction.Instruction.{Instruction}
use Rattle.hep_code.specs.declared.instruction.Instruction.TheVariants.{Pass}
use Rattle.hep_code.specs.declared.variable.Variable.{Variable}
use Rattle.hep_event.specs.NextOperations.{IsNextOperationOf}
use Rattle.hep_image.specs.Names.{names_in_order}
use Rattle.hep_machine.specs.Words.{Level, Process, Top, Units, location_of_name, next_of, run, scope_of, spelling, unit_on_top}
use Rattle.hep_machine.specs.Evaluation as source
use Rattle.hep_event.specs.declared.sites.Site.{Site}
use Rattle.hep_event.specs.NamedVariables.{IsNamed}
use Rattle.hep_event.specs.Sites.{IsSiteAfter, IsVariableOf, LivesAfter}
use Rattle.hep_event.specs.Variables.{AreVariablesOf}
use Rattle.hep_state_text.specs.WaitTexts.{name_seen, place_seen}
use Rattle.hep_event.specs.StepTexts.{place_of}
use Rattle.hep_trace.specs.declared.reference.LiveProcess.{LiveProcess}
use Rattle.hep_trace.specs.declared.reference.Reference.{Reference}

-- after these turns a process lives with this level on top of others, and this comes next of it
pub record IsAhead (cells : ℕ) (choices : List ℕ) (ahead : LiveProcess) (top : Level × Process) : Type 0 where
  pub lives : LivesAfter ahead.image.now cells choices ahead.machine.now ahead.process top
  pub coming : IsNextOperationOf ahead.image.now ahead.machine.now ahead.process ahead.coming.now
  pub variables : AreVariablesOf ahead.image.now ahead.variables.now

-- words for the owner of a storage unit, by the names of a program, unless it is that of a name of the activation
-- itself
abbrev pub shown_by : List (List ℕ) → ℕ → ℕ → Option Site → Option (List ℕ)
shown_by names activation name None = None
shown_by names activation name (Some site) =
    if nat_eq site.place.owner activation && nat_eq site.place.name name then None else Some (place_seen names site.place)

-- the declared name of the variable with this storage unit; none where the owner is COMMON
abbrev pub declared_with : List (List ℕ) → ℕ → ℕ → Option (List ℕ)
declared_with names zero name = None
declared_with names (suc a) name = Some (name_seen (slice_get names name))

abbrev pub declared_by : List (List ℕ) → Option Site → Option (List ℕ)
declared_by names None = None
declared_by names (Some site) = declared_with names site.place.owner site.place.name

-- a process after turns, with this level on top of others
abbrev pub top_after : Units → List ℕ → ℕ → Level × Process → Top
top_after program choices p top = record { state = run program choices; process = p; level = top.0; below = top.1 }

-- a variable or an element, by its name in the unit, its site, and its owner, unless that is the activation itself
pub record IsReferenceTo (cells : ℕ) (choices : List ℕ) (ahead : LiveProcess) (t : Top) (x : source.Reference) (r : Reference) : Type 0 where
  pub name : slice_get (names_in_order ahead.image.now) r.name ≡ Some (spelling x.0)
  pub site : IsSiteAfter ahead.image.now cells choices ahead.machine.now r.site (location_of_name (scope_of ahead.image.now t.state t.level.activation) x.0 x.1)
  pub place : option_map (λ text. text.items) r.place ≡ place_of ahead.image.now t x

-- the variable that comes next of a process is this one
abbrev pub IsReferenceAhead : ℕ → List ℕ → LiveProcess → Top → Option Reference → Type 0
IsReferenceAhead cells choices ahead t r =
    (x : source.Reference) → IsNamed (unit_on_top ahead.image.now t) (next_of (unit_on_top ahead.image.now t) t.level.work) x
    → (found : Reference) × (r ≡ Some found) × IsReferenceTo cells choices ahead t x found

-- an entry in the code passes a variable, or the element of it with as many subscripts
abbrev pub IsEntryOf : LiveProcess → List ℕ → Level × Process → Instruction → source.Reference → Type 0
IsEntryOf ahead choices top entry x =
    (v : Variable) × (entry ≡ Pass (Referred v (length x.1)))
    × IsVariableOf ahead.image.now (unit_on_top ahead.image.now (top_after ahead.image.now choices ahead.process top)) x.0 v
