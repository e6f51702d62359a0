-- The sources that are refused, accepted and run: docs/MACHINE.md, "The program".
use Rattle.std.specs.Prelude.{◌≡◌, ◌⊎◌, ℕ, List, [], Ok}
use Rattle.hep_base.specs.declared.refusal.Refusal.TheVariants as refusals
use Rattle.hep_text.specs.declared.statement.Stmt.{Stmt}
use Rattle.hep_text.specs.Reading.{statements_of, refusal}
use Rattle.hep_parse.specs.Program.{IsProgram, IsFirstFault}
use Rattle.hep_machine.specs.Words.{Units}
use Rattle.hep_conditions.specs.Words.{IsAccepted}
use Rattle.hep_check.specs.Rejections.{Refuses}
use Rattle.hep_lower.specs.Refusals.{IsLowered, IsUnlowered}

-- ---- why there is no program: a number, a line and a name

-- the program violates a condition, and its first violation is reported so
abbrev pub IsViolatingProgram : Units → ℕ → ℕ → List ℕ → Type 0
IsViolatingProgram program number line name = Refuses program (refusals.Refused number line name)

-- it violates no condition, but a limit is passed
abbrev pub IsUnrunnableProgram : Units → ℕ → ℕ → List ℕ → Type 0
IsUnrunnableProgram program number line name = IsAccepted program × IsUnlowered program number line × (name ≡ [])

-- one or the other
abbrev pub IsRefusedProgram : Units → ℕ → ℕ → List ℕ → Type 0
IsRefusedProgram program number line name = IsViolatingProgram program number line name ⊎ IsUnrunnableProgram program number line name

-- the text of the source is refused so, or its statements are, or its program is
abbrev pub IsRefusedFor : (Units → ℕ → ℕ → List ℕ → Type 0) → List ℕ → ℕ → ℕ → List ℕ → Type 0
IsRefusedFor Is source number line name =
    ((statements_of source ≡ refusal number line) × (name ≡ []))
    ⊎ ((statements : List Stmt) × (statements_of source ≡ Ok statements) × IsFirstFault statements number line name)
    ⊎ ((statements : List Stmt) × (program : Units) × (statements_of source ≡ Ok statements) × IsProgram statements program × Is program number line name)

-- ---- programs

-- the source is this program, which satisfies `Is`
abbrev pub IsSourceOf : (Units → Type 0) → List ℕ → Units → Type 0
IsSourceOf Is source program = (statements : List Stmt) × (statements_of source ≡ Ok statements) × IsProgram statements program × Is program

-- the source is this program, which is accepted
abbrev pub IsAcceptedSource : List ℕ → Units → Type 0
IsAcceptedSource source program = IsSourceOf IsAccepted source program

-- a core runs the program: it is accepted and within the limits
abbrev pub IsRunnable : Units → Type 0
IsRunnable program = IsAccepted program × IsLowered program

-- the source is this program, which a core runs
abbrev pub IsRunnableSource : List ℕ → Units → Type 0
IsRunnableSource source program = IsSourceOf IsRunnable source program
