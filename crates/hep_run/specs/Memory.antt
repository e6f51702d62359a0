-- Where memory may be asked for: docs/MACHINE.md, "The program".
use Rattle.std.specs.Prelude.{◌≡◌, ◌⊎◌, ◌&&◌, ℕ, nat_eq, Bool, true, false, List, [], length, Option, Some, None}
use Rattle.std.specs.Io.KnownBytes.{Keeps}
use Rattle.hep_text.specs.Reading.{is_too_large}
use Rattle.hep_run.specs.declared.options.Run.{Run}
use Rattle.hep_run.specs.Delivery.{CannotRead, Leaves, most_source_bytes}
use Rattle.hep_run.specs.Outcome.{refused}
use Rattle.hep_run.specs.declared.refusal.SourceFault.{SourceFault}
use Rattle.hep_run.specs.declared.refusal.SourceFault.TheVariants.{NoMemory, Refused}

-- notes are asked for, or the source isn't too large, which is found first
abbrev pub MayReadOn : Bool → List ℕ → Type 0
MayReadOn long source = (long ≡ true) ⊎ (is_too_large source ≡ false)

-- memory was refused for a source only if it may have been asked for
abbrev pub IsWant : Bool → List ℕ → SourceFault → Type 0
IsWant long source fault = fault ≡ NoMemory → MayReadOn long source

-- a source that is too large, with no notes
abbrev pub tells_large : SourceFault → Bool
tells_large NoMemory = false
tells_large (Refused number line name notes) = nat_eq number 107 && (nat_eq line 0 && (nat_eq (length name) 0 && nat_eq (length notes) 0))

-- ---- the result for a source that is too large

-- without notes its refusal, whatever memory there is
abbrev pub RefusesLarge : Bool → List ℕ → Run → Option (List ℕ) → Option (List ℕ) → Option (List ℕ) → Option (List ℕ) → Type 0
RefusesLarge long source run output output' messages messages' =
    long ≡ false → is_too_large source ≡ true → Leaves (refused 107 0 [] []) run output output' messages messages'

-- a reader's bytes are known, and too large a source
abbrev pub IsKnownLarge : Option (List ℕ) → Type 0
IsKnownLarge None = ⊥
IsKnownLarge (Some source) = is_too_large source ≡ true

-- the same for such a reader, if its bytes could be read
abbrev pub RefusesLargeSource : Bool → Option (List ℕ) → Option (List ℕ) → Run → Option (List ℕ) → Option (List ℕ) → Option (List ℕ) → Option (List ℕ) → Type 0
RefusesLargeSource long source source' run output output' messages messages' =
    long ≡ false → IsKnownLarge source
    → (Keeps output output' × CannotRead most_source_bytes source source' run.status messages messages')
    ⊎ Leaves (refused 107 0 [] []) run output output' messages messages'
