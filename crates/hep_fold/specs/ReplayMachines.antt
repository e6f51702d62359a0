-- A machine that makes the turns of a history again: docs/ARCHITECTURE.md, "Forms".
use Rattle.std.specs.Prelude.{◌≡◌, ◌≢◌, ◌+◌, ◌^◌, ◌≤◌, ℕ, List, [], ◌∷◌, ◌++◌, length, replicate, IsSome, None}
use Rattle.hep_machine.specs.Words.{Units, is_held, layout_of, run, schedule_of, step}
use Rattle.hep_fast.specs.declared.decoded_image.DecodedImage.{DecodedImage}
use Rattle.hep_fast.specs.DecodedImages.{AreTables}
use Rattle.hep_state.specs.Words.{IsMachineAfter}
use Rattle.hep_fold.specs.declared.replay_machine.ReplayMachine.{ReplayMachine}

-- the greatest number of turns that are made again
abbrev pub most_turns : ℕ
most_turns = 2 ^ 40

-- the processes of the turns that it has made
abbrev pub made_by : ReplayMachine → List ℕ
made_by again = schedule_of again.history.items

-- it keeps the state after them; process p has a step then; there are no more turns than a history may have, and each
-- frame has its gap
pub record CanTurnAgain (program : Units) (p : ℕ) (again : ReplayMachine) : Type 0 where
  pub cells : ℕ
  pub after : IsMachineAfter program cells (made_by again) again.machine
  pub numbers : again.machine.made ≤ again.roster.room
  pub few : length (made_by again) + 1 ≤ most_turns
  pub steps : step program p (run program (made_by again)) ≢ None
  pub laid : IsSome (layout_of program cells is_held (made_by again ++ p ∷ []))

-- and the tables are those of the program
pub record CanGoAgain (tabled : DecodedImage) (p : ℕ) (again : ReplayMachine) : Type 0 where
  pub turn : CanTurnAgain tabled.image.now p again
  pub tables : AreTables tabled.image.now tabled.tables.now

-- n turns of p were made
pub record HasGoneAgain (program : Units) (p n : ℕ) (old new : ReplayMachine) : Type 0 where
  pub history : new.history.items ≡ old.history.items ++ replicate n (record { process = p; steps = 1 })
  pub after : (cells : ℕ) → IsMachineAfter program cells (made_by old) old.machine → IsMachineAfter program cells (made_by new) new.machine
  pub numbers : new.machine.made ≤ new.roster.room
