-- The number of names, constants and statements of a program that a limit refuses: docs/LANGUAGE.md, 12.
use Rattle.std.specs.Prelude.{◌≡◌, ◌⊎◌, ℕ, ◌<◌}
use Rattle.hep_base.specs.declared.refusal.Refusal.{Refusal as LowerFault}
use Rattle.hep_base.specs.declared.refusal.Refusal.TheVariants.{NoMemory, Refused}
use Rattle.hep_machine.specs.Words.{Units}
use Rattle.hep_lower.specs.PartCounts.{IsOfLongStatement, parts_of}
use Rattle.hep_lower.specs.Refusals.{AreCellsBeyond}

-- 401: there are too many cells, or more than 524,288 names, constants, labels, operators and statements
abbrev pub IsManyParts : Units → ℕ → Type 0
IsManyParts program number = number ≡ 401 → AreCellsBeyond program ⊎ (524288 < parts_of program)

-- 402: the line is that of a statement with more names and constants than operands may wait at once
abbrev pub IsLongLine : Units → ℕ → ℕ → Type 0
IsLongLine program number line = number ≡ 402 → IsOfLongStatement program line

-- both; a refusal of memory says nothing about the program's parts
abbrev pub IsByCount : Units → LowerFault → Type 0
IsByCount program NoMemory = Unit {0}
IsByCount program (Refused number line name) = IsManyParts program number × IsLongLine program number line
