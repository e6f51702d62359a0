-- Why a source that is accepted isn't run, with what is said behind the line of its refusal.
use Rattle.std.proofs.Common.{◌≡◌, ◌⊎◌, ℕ, Bool, true, false, List, refl, sym, subst, inl, inr}
use Rattle.hep_base.specs.declared.refusal.Refusal.{Refusal}
use Rattle.hep_base.specs.declared.refusal.Refusal.TheVariants.{NoMemory, Refused}
use Rattle.hep_machine.specs.Words.{Units}
use Rattle.hep_lower.specs.Refusals as lower
use Rattle.hep_run.specs.declared.refusal.SourceFault.{SourceFault}
use Rattle.hep_run.specs.declared.refusal.SourceFault.TheVariants as source
use Rattle.hep_run.specs.Notes.{line_notes_when}
use Rattle.hep_run.specs.Refusals.{IsRefusal, IsSourceRefusal, noted}
use Rattle.hep_run.specs.Sources.{IsAcceptedSource, IsRefusedFor, IsRefusedProgram, IsUnrunnableProgram}

-- what a refusal says holds
abbrev pub Says : (ℕ → ℕ → List ℕ → Type 0) → Refusal → Type 0
Says Is NoMemory = Unit {0}
Says Is (Refused number line name) = Is number line name

-- it is so, and would be where no program violated a condition
abbrev pub IsByLine : (Units → ℕ → ℕ → List ℕ → Type 0) → List ℕ → Refusal → Type 0
IsByLine Is bytes refusal = Says (λ number line name. IsRefusedFor Is bytes number line name × IsRefusedFor IsUnrunnableProgram bytes number line name) refusal

-- the notes are those by the line
by_line : (long : Bool) (Is : Units → ℕ → ℕ → List ℕ → Type 0) (bytes : List ℕ) (refusal : Refusal)
    → IsByLine Is bytes refusal → IsRefusal Is long bytes (noted (line_notes_when long bytes) refusal)
by_line long Is bytes NoMemory h = tt
by_line false Is bytes (Refused number line name) h = (h.0, refl)
by_line true Is bytes (Refused number line name) h = (h.0, inl (h.1, refl))

-- a limit would refuse the program whatever conditions there were
pub of_limit : (bytes : List ℕ) (program : Units) (refusal : Refusal) → IsAcceptedSource bytes program → lower.Refuses program refusal → IsByLine IsRefusedProgram bytes refusal
of_limit bytes program NoMemory h e = tt
of_limit bytes program (Refused number line name) (statements, read, is, accepted) (why, none) =
    (inr (inr (statements, program, read, is, inr (accepted, why, none))), inr (inr (statements, program, read, is, (accepted, why, none))))

-- a fault that is noted so, or want of memory
pub either : (P : SourceFault → Type 0) (fault like : SourceFault) → P source.NoMemory → P like → (fault ≡ source.NoMemory) ⊎ (fault ≡ like) → P fault
either P fault like none is (inl e) = subst P (sym e) none
either P fault like none is (inr e) = subst P (sym e) is

pub noted_limit : (long : Bool) (bytes : List ℕ) (program : Units) (refusal : Refusal) (fault : SourceFault) → IsAcceptedSource bytes program → lower.Refuses program refusal
    → (fault ≡ source.NoMemory) ⊎ (fault ≡ noted (line_notes_when long bytes) refusal) → IsSourceRefusal long bytes fault
noted_limit long bytes program refusal fault accepted refuses is =
    either (IsSourceRefusal long bytes) fault (noted (line_notes_when long bytes) refusal) tt
    (by_line long IsRefusedProgram bytes refusal (of_limit bytes program refusal accepted refuses)) is
