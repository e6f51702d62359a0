-- The accepted programs that have an image, and why the others have none: docs/LANGUAGE.md, "Limits".
use Rattle.std.specs.Prelude.{◌≡◌, ◌≢◌, ◌⊎◌, ℕ, zero, suc, ◌+◌, ◌<◌, ◌≤◌, [], length, Option, Some, None}
use Rattle.hep_base.specs.declared.refusal.Refusal.{Refusal as LowerFault}
use Rattle.hep_base.specs.declared.refusal.Refusal.TheVariants.{NoMemory, Refused}
use Rattle.hep_machine.specs.Words.{Units, main_among, unit_at, common_cells, frame_cells}
use Rattle.hep_code.specs.Words.{line_too_deep, most_instructions}
use Rattle.hep_image.specs.Image.{most_cells}
use Rattle.hep_accepted_laws.specs.PlacedCode.{code_in}
use Rattle.hep_lower.specs.declared.fault.EmitFault.{EmitFault}
use Rattle.hep_lower.specs.declared.fault.EmitFault.TheVariants as emit_fault

-- ---- 401: COMMON and frames of at most 16,777,216 cells, and at most 1,048,576 instructions in all units together

-- the number of instructions of the first n units
abbrev pub instructions_in : Units → ℕ → ℕ
instructions_in program zero = 0
instructions_in program (suc n) = instructions_in program n + length (code_in program n)

pub record IsWithinLimits (program : Units) : Type 0 where
  pub common : common_cells program ≤ most_cells
  pub frames : (u : ℕ) → u < length program → frame_cells (unit_at program u) ≤ most_cells
  pub code : instructions_in program (length program) ≤ most_instructions

-- COMMON, or the frame of some unit, has more cells
abbrev pub AreCellsBeyond : Units → Type 0
AreCellsBeyond program = (most_cells < common_cells program) ⊎ ((u : ℕ) × (u < length program) × (most_cells < frame_cells (unit_at program u)))

-- there are more instructions
abbrev pub IsCodeBeyond : Units → Type 0
IsCodeBeyond program = most_instructions < instructions_in program (length program)

-- ---- 402: statements of at most 256 operands at once

-- the first line of a statement with more, in the first n units, if there is one
abbrev pub IsFirstDeep : Units → ℕ → Option ℕ → Type 0
IsFirstDeep program n None = (u : ℕ) → u < n → line_too_deep (code_in program u) ≡ None
IsFirstDeep program n (Some line) = (u : ℕ) × (u < n) × (line_too_deep (code_in program u) ≡ Some line) × ((v : ℕ) → v < u → line_too_deep (code_in program v) ≡ None)

-- ---- all of them

-- the program has an image
pub record IsLowered (program : Units) : Type 0 where
  pub main : main_among program ≢ None
  pub within : IsWithinLimits program
  pub shallow : IsFirstDeep program (length program) None

-- it is refused: as 204 without a line where it has no main program, which a program that was read from a text always
-- has; else as 401 without a line; else as 402 at its first line that is too deep
abbrev pub IsUnlowered : Units → ℕ → ℕ → Type 0
IsUnlowered program number line =
    ((number ≡ 204) × (line ≡ 0) × (main_among program ≡ None))
    ⊎ (((number ≡ 401) × (line ≡ 0) × (main_among program ≢ None) × (AreCellsBeyond program ⊎ IsCodeBeyond program))
    ⊎ ((number ≡ 402) × (main_among program ≢ None) × IsWithinLimits program × IsFirstDeep program (length program) (Some line)))

-- the fault is the right one; memory is asked for only where there is a main program
abbrev pub Refuses : Units → LowerFault → Type 0
Refuses program NoMemory = main_among program ≢ None
Refuses program (Refused number line name) = IsUnlowered program number line × (name ≡ [])

-- the fault is that there are too many instructions, or that memory was refused
abbrev pub RefusesCode : Units → LowerFault → Type 0
RefusesCode program NoMemory = Unit {0}
RefusesCode program (Refused number line name) = (number ≡ 401) × (line ≡ 0) × (name ≡ []) × IsCodeBeyond program

-- the refusal of a unit that has no code
abbrev pub fault_by : EmitFault → LowerFault
fault_by emit_fault.NoMemory = NoMemory
fault_by emit_fault.TooLong = Refused 401 0 []
