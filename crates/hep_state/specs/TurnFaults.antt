-- Why a turn was not taken: docs/MACHINE.md, "Layout".
use Rattle.std.specs.Prelude.{ℕ, List}
use Rattle.hep_machine.specs.Words.{Units}
use Rattle.hep_state.specs.declared.turn.TurnFault.{TurnFault}
use Rattle.hep_state.specs.declared.turn.TurnFault.TheVariants.{ArenaFull, NoMemory}
use Rattle.hep_state.specs.Turns.{HasGaps, HasNoGap}

-- a frame has no gap; or memory was refused, which is asked for only where each has one
abbrev pub IsUnturned : TurnFault → Units → ℕ → List ℕ → ℕ → Type 0
IsUnturned ArenaFull program cells choices p = HasNoGap program cells choices p
IsUnturned NoMemory program cells choices p = HasGaps program cells choices p
