-- The bytes of a run at its two outputs: docs/MACHINE.md, "The program".
use Rattle.std.specs.Prelude.{◌≡◌, ◌⊎◌, ℕ, ◌<◌, ◌≤◌, List, [], ◌++◌, codes, length, take, Option, Some, None}
use Rattle.std.specs.Fmt.{decimal}
use Rattle.std.specs.Io.KnownBytes.{Appends, Keeps, Consumes, IsAtEnd}
use Rattle.hep_machine.specs.declared.event.Entry.{Entry}
use Rattle.hep_run.specs.declared.input.ReadFault.{ReadFault}
use Rattle.hep_run.specs.declared.input.ReadFault.TheVariants as unread
use Rattle.hep_run.specs.declared.options.Run.{Run}
use Rattle.hep_outcome.specs.declared.status.Status.{Status}
use Rattle.hep_outcome.specs.declared.status.Status.TheVariants.{NoMemory, DeviceFailed}
use Rattle.hep_outcome.specs.Statuses.{status_code}
use Rattle.hep_run.specs.Inputs.{HasLost}
use Rattle.hep_outcome.specs.Outcome.{Outcome}

-- the run has this outcome, and both outputs took all of it
pub record IsDelivered (o : Outcome) (run : Run) (output output' messages messages' : Option (List ℕ)) : Type 0 where
  pub status : run.status ≡ status_code o.status
  pub history : run.history.items ≡ o.history
  pub output_taken : Appends output output' o.output
  pub messages_taken : Appends messages messages' o.messages

-- the line for a writer that failed after n bytes
abbrev pub write_fault_text : ℕ → List ℕ
write_fault_text n = codes "WRITE FAULT AFTER " ++ decimal n ++ codes "\n"

-- a writer took some first bytes of a text
abbrev pub SomeOf : Option (List ℕ) → Option (List ℕ) → List ℕ → Type 0
SomeOf contents contents' text = (k : ℕ) × Appends contents contents' (take k text)

-- the messages' writer took some first bytes of what it was given last
abbrev pub WritesStartOf : Option (List ℕ) → Option (List ℕ) → List ℕ → List ℕ → Type 0
WritesStartOf messages messages' before last = (k : ℕ) × Appends messages messages' (before ++ take k last)

-- the output took just n bytes, fewer than there are, and this was written
abbrev pub OutputFailed : Outcome → Option (List ℕ) → Option (List ℕ) → Option (List ℕ) → Option (List ℕ) → Type 0
OutputFailed o output output' messages messages' =
    (n : ℕ) × (n < length o.output) × Appends output output' (take n o.output) × WritesStartOf messages messages' [] (write_fault_text n)

-- the output took all, the messages' writer just n bytes, fewer than there are, and this was written after them
abbrev pub MessagesFailed : Outcome → Option (List ℕ) → Option (List ℕ) → Option (List ℕ) → Option (List ℕ) → Type 0
MessagesFailed o output output' messages messages' =
    (n : ℕ) × (n < length o.messages) × Appends output output' o.output × WritesStartOf messages messages' (take n o.messages) (write_fault_text n)

-- a write failed
pub record IsBroken (o : Outcome) (run : Run) (output output' messages messages' : Option (List ℕ)) : Type 0 where
  pub status : run.status ≡ status_code DeviceFailed
  pub history : run.history.items ≡ o.history
  pub taken : OutputFailed o output output' messages messages' ⊎ MessagesFailed o output output' messages messages'

-- an outcome was delivered, or a write failed
abbrev pub Leaves : Outcome → Run → Option (List ℕ) → Option (List ℕ) → Option (List ℕ) → Option (List ℕ) → Type 0
Leaves o run output output' messages messages' =
    IsDelivered o run output output' messages messages' ⊎ IsBroken o run output output' messages messages'

-- these lines were written, and the exit status is that of this status; or the writer took just n bytes, fewer than there are
abbrev pub SaysLines : List ℕ → Status → ℕ → Option (List ℕ) → Option (List ℕ) → Type 0
SaysLines lines status code messages messages' =
    ((code ≡ status_code status) × Appends messages messages' lines)
    ⊎ ((code ≡ status_code DeviceFailed) × (n : ℕ) × (n < length lines) × WritesStartOf messages messages' (take n lines) (write_fault_text n))

-- a run with this history writes these lines, with this status, or fails at them
abbrev pub WritesMessages : List ℕ → Status → List Entry → Run → Option (List ℕ) → Option (List ℕ) → Type 0
WritesMessages lines status history run messages messages' =
    (run.history.items ≡ history) × SaysLines lines status run.status messages messages'

-- an outcome of these bytes, where they are known
abbrev pub IsOutcomeOf : (List ℕ → Outcome → Type 0) → Option (List ℕ) → Outcome → Type 0
IsOutcomeOf Is None o = (source : List ℕ) × Is source o
IsOutcomeOf Is (Some source) o = Is source o

-- memory was refused, and no record is written
abbrev pub WantsMemory : Run → Option (List ℕ) → Option (List ℕ) → Option (List ℕ) → Option (List ℕ) → Type 0
WantsMemory run output output' messages messages' =
    Keeps output output' × WritesMessages (codes "NO MEMORY\n") NoMemory [] run messages messages'

-- memory was refused, or one of these outcomes is delivered
abbrev pub LeavesOneOf : (Outcome → Type 0) → Run → Option (List ℕ) → Option (List ℕ) → Option (List ℕ) → Option (List ℕ) → Type 0
LeavesOneOf Is run output output' messages messages' =
    WantsMemory run output output' messages messages'
    ⊎ ((o : Outcome) × Is o × Leaves o run output output' messages messages')

-- the most bytes of a source
abbrev pub most_source_bytes : ℕ
most_source_bytes = 4194304

-- the reader gave its first bytes, and all that it had, unless those are more than a source may have
abbrev pub HasRead : Option (List ℕ) → Option (List ℕ) → Type 0
HasRead source source' = (bytes : List ℕ) × Consumes source source' bytes × (length bytes ≤ most_source_bytes → IsAtEnd source')

-- why an input couldn't be read: memory was refused for it, or its reader failed
abbrev pub SaysUnread : ReadFault → ℕ → Option (List ℕ) → Option (List ℕ) → Type 0
SaysUnread unread.NoMemory code messages messages' = SaysLines (codes "NO MEMORY\n") NoMemory code messages messages'
SaysUnread unread.Failed code messages messages' = SaysLines (codes "READ FAULT\n") DeviceFailed code messages messages'

-- an input of `most` bytes at most couldn't be read
abbrev pub CannotRead : ℕ → Option (List ℕ) → Option (List ℕ) → ℕ → Option (List ℕ) → Option (List ℕ) → Type 0
CannotRead most source source' code messages messages' = HasLost most source source' × (fault : ReadFault) × SaysUnread fault code messages messages'

-- the results for a reader's bytes with these outcomes: they couldn't be read, and no record is written; or they were
-- read, and an outcome is delivered
abbrev pub LeavesOfSource : (List ℕ → Outcome → Type 0) → Option (List ℕ) → Option (List ℕ) → Run → Option (List ℕ) → Option (List ℕ) → Option (List ℕ) → Option (List ℕ) → Type 0
LeavesOfSource Is source source' run output output' messages messages' =
    (Keeps output output' × (run.history.items ≡ []) × CannotRead most_source_bytes source source' run.status messages messages')
    ⊎ (HasRead source source' × LeavesOneOf (IsOutcomeOf Is source) run output output' messages messages')

-- a run without a history, of this exit status
abbrev pub status_alone : ℕ → Run
status_alone code = record { status = code; history = record { items = []; room = 0 } }
