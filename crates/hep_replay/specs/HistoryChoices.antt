-- The choices that make the steps of a history: docs/MACHINE.md, "Histories and choices as texts".
use Rattle.std.specs.Prelude.{◌≡◌, ℕ, zero, suc, List, replicate}
use Rattle.std.specs.List.{flat_map}
use Rattle.hep_machine.specs.declared.event.Entry.{Entry}
use Rattle.hep_replay.specs.Histories.{entry_text, IsAllowed}
use Rattle.hep_replay.specs.Lines.{AreLines}

-- the number of choices of a process for n steps: 1 where it makes none
abbrev pub times_for : ℕ → ℕ
times_for zero = 1
times_for (suc n) = suc n

abbrev pub choices_for : Entry → List ℕ
choices_for e = replicate (times_for e.steps) e.process

-- the choices of a history
abbrev pub choices_in : List Entry → List ℕ
choices_in es = flat_map choices_for es

-- these are the choices of the history of a text
abbrev pub AreFollowed : List ℕ → List ℕ → Type 0
AreFollowed text choices = (es : List Entry) × AreLines entry_text IsAllowed text es × (choices ≡ choices_in es)
