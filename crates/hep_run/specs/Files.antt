-- Files and texts besides a source, and its two outputs: docs/MACHINE.md, "The program".
use Rattle.std.specs.Prelude.{◌≡◌, ◌⊎◌, ℕ, ◌<◌, ◌≤◌, List, [], codes, length, take, Option, Result, Ok, Err}
use Rattle.std.specs.Io.KnownBytes.{Appends, Keeps, Consumes, IsAtEnd}
use Rattle.hep_base.specs.declared.refusal.Refusal.{Refusal}
use Rattle.hep_base.specs.declared.refusal.Refusal.TheVariants as refusals
use Rattle.hep_outcome.specs.OutcomeHistoryLines.{AreLines, IsRefusedText, most_bytes}
use Rattle.hep_outcome.specs.Choices.{choice_text, IsProcess}
use Rattle.hep_outcome.specs.HistoryChoices.{AreFollowed}
use Rattle.hep_outcome.specs.Histories.{entry_text, history_text, IsAllowed}
use Rattle.hep_run.specs.declared.options.Run.{Run}
use Rattle.hep_outcome.specs.declared.status.Status.TheVariants.{Usage, NoMemory, DeviceFailed}
use Rattle.hep_outcome.specs.Statuses.{status_code}
use Rattle.hep_outcome.specs.Texts.{refusal_text}
use Rattle.hep_run.specs.Delivery.{write_fault_text, SaysLines, WritesStartOf}

-- ---- what is read

-- the reader gave its first bytes, and all that it had, unless those are more than a text may have
abbrev pub HasReadText : Option (List ℕ) → Option (List ℕ) → List ℕ → Type 0
HasReadText left left' bytes = Consumes left left' bytes × (length bytes ≤ most_bytes → IsAtEnd left')

-- a refusal of a text besides a source, or of memory
abbrev pub SaysRefusal : ℕ → ℕ → ℕ → Option (List ℕ) → Option (List ℕ) → Type 0
SaysRefusal number k code messages messages' =
    SaysLines (codes "NO MEMORY\n") NoMemory code messages messages' ⊎ SaysLines (refusal_text number k []) Usage code messages messages'

-- why a text can't be used
abbrev pub SaysFault : Refusal → ℕ → Option (List ℕ) → Option (List ℕ) → Type 0
SaysFault refusals.NoMemory code messages messages' = SaysLines (codes "NO MEMORY\n") NoMemory code messages messages'
SaysFault (refusals.Refused number line name) code messages messages' = SaysRefusal number line code messages messages'

-- a text is refused by this number at such a line, or memory was refused
abbrev pub SaysRefusalAt : ℕ → (ℕ → Type 0) → ℕ → Option (List ℕ) → Option (List ℕ) → Type 0
SaysRefusalAt number IsAt code messages messages' =
    SaysLines (codes "NO MEMORY\n") NoMemory code messages messages' ⊎ ((k : ℕ) × IsAt k × SaysRefusal number k code messages messages')

-- the choices of a text, a line for each, or why there are none
abbrev pub ReadsChoices : List ℕ → Result (List ℕ) ℕ → Option (List ℕ) → Option (List ℕ) → Type 0
ReadsChoices text (Ok choices) messages messages' = AreLines choice_text IsProcess text choices × Keeps messages messages'
ReadsChoices text (Err code) messages messages' = SaysRefusalAt 602 (IsRefusedText choice_text IsProcess text) code messages messages'

-- the choices that make the steps of the history of a text, or why there are none
abbrev pub ReadsFollowed : List ℕ → Result (List ℕ) ℕ → Option (List ℕ) → Option (List ℕ) → Type 0
ReadsFollowed text (Ok choices) messages messages' = AreFollowed text choices × Keeps messages messages'
ReadsFollowed text (Err code) messages messages' = SaysRefusalAt 601 (IsRefusedText entry_text IsAllowed text) code messages messages'

-- ---- what is written

-- a stream took the text, and this code is returned; or it took just n bytes, fewer than there are, and this was
-- written
abbrev pub PutsText : List ℕ → ℕ → ℕ → Option (List ℕ) → Option (List ℕ) → Option (List ℕ) → Option (List ℕ) → Type 0
PutsText text code answer stream stream' messages messages' =
    ((answer ≡ code) × Appends stream stream' text × Keeps messages messages')
    ⊎ ((answer ≡ status_code DeviceFailed) × (n : ℕ) × (n < length text) × Appends stream stream' (take n text) × WritesStartOf messages messages' [] (write_fault_text n))

-- the statuses of runs whose history is written: done, faulted, waiting, or stopped by the arena or the steps
abbrev pub IsKept : ℕ → Type 0
IsKept code = (code ≡ 0) ⊎ ((3 ≤ code) × (code ≤ 6))

-- the text of a run's history; or nothing is to be written, or memory was refused for it
abbrev pub KeepsHistory : Run → Result (List ℕ) ℕ → Option (List ℕ) → Option (List ℕ) → Type 0
KeepsHistory run (Ok text) messages messages' = IsKept run.status × (text ≡ history_text run.history.items) × Keeps messages messages'
KeepsHistory run (Err code) messages messages' =
    ((IsKept run.status → ⊥) × (code ≡ run.status) × Keeps messages messages')
    ⊎ (IsKept run.status × SaysLines (codes "NO MEMORY\n") NoMemory code messages messages')
