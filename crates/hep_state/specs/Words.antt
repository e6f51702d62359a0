-- Definitions of other crates that users of this crate name. Declares nothing.
unfoldable pub use Rattle.hep_state.specs.ProcessNumbers.{numbers_of, stack_numbered, stacks_from, stacks_of}
pub use Rattle.hep_state.specs.ProcessNumbers.{IsPlaceOf}
unfoldable pub use Rattle.hep_state.specs.Snapshots.{AreNumbered, snapshot_of}
pub use Rattle.hep_state.specs.Snapshots.{Snapshot}
pub use Rattle.hep_state.specs.TopPlace.{IsPlace, IsThere, frame_under, node_under}
unfoldable pub use Rattle.hep_state.specs.KeptStates.{AreThere}
pub use Rattle.hep_state.specs.KeptStates.{code_level, code_levels, IsStack, kept_below, kept_by, levels_below, Shows}
unfoldable pub use Rattle.hep_state.specs.Turns.{HasGaps}
pub use Rattle.hep_state.specs.Turns.{HasNoGap, HasStepped, HasWaited, IsAbsent, IsAfter}
unfoldable pub use Rattle.hep_state.specs.TurnEffects.{fault_at, snapshot_answered, snapshot_failed, snapshot_moved, snapshot_parted, snapshot_printed, snapshot_resumed, snapshot_returned}
unfoldable pub use Rattle.hep_state.specs.TurnEffects.{levels_turning, snapshot_stopped, stacks_parted, state_answered, state_before, state_failed, state_returned, top_before, top_frame}
unfoldable pub use Rattle.hep_state.specs.TurnEffects.{frames_before, HasMadeTurn, HaveLeft, IsEffectOf, IsTopRunning, running_top, turn_of, turn_settled, turn_with, with_contents, with_stack}
pub use Rattle.hep_state.specs.TurnEffects.{HasLevels, HoldsInTurn, IsTurning, TurnOf}
unfoldable pub use Rattle.hep_state.specs.Calls.{call_in, entered_level, HasResultBy, snapshot_made_by, stacks_made_by, state_made}
pub use Rattle.hep_state.specs.Calls.{HasEntered, IsAfterCall, IsMaking, IsUnit, Makes}
unfoldable pub use Rattle.hep_state.specs.Openings.{CanOpen, snapshot_opened, unset_opening}
pub use Rattle.hep_state.specs.Openings.{HasOneProcess, IsEntered, IsGiven, IsQuiet}
unfoldable pub use Rattle.hep_state.specs.OperandRoom.{HasRoom, HasRoomAt, HoldsOfProcess}
pub use Rattle.hep_state.specs.OperandRoom.{HasRoomToPass, HaveRoom, IsMachineAfter, IsRoomToPass}
unfoldable pub use Rattle.hep_state.specs.TurnTaking.{IsLeft, IsToEnd}
pub use Rattle.hep_state.specs.TurnTaking.{HasSettledTop, IsBehind, IsEnding, IsSameButTop, IsSeenSame, IsSettled, LeavesOthers, LeavesSame}
unfoldable pub use Rattle.hep_state.specs.InitialValues.{AreOut}
unfoldable pub use Rattle.hep_state.specs.NextSteps.{given_of, HasCallAhead, HasNone, HasPurgeAhead, HasResumeAhead, IsAhead, IsAtAnswer, IsAtPurge, IsAtResume}
unfoldable pub use Rattle.hep_state.specs.NextSteps.{IsAtReturn, IsInFront}
unfoldable pub use Rattle.hep_state.specs.NextSteps.{operation_of, ranges_ahead}
pub use Rattle.hep_state.specs.NextSteps.{IsAtCall, IsAtOther, IsAtStep, IsWithoutCall}
unfoldable pub use Rattle.hep_state.specs.TurnFaults.{IsUnturned}
unfoldable pub use Rattle.hep_state.specs.TurnOutcomes.{HasTurned, LeavesRest, StaysWaiting}
pub use Rattle.hep_state.specs.TurnOutcomes.{Changes, HasPurged}
pub use Rattle.hep_state.specs.AcceptedCalls.{AreRunning, IsKnown, IsMadeOf}
unfoldable pub use Rattle.hep_state.specs.SettledStacks.{CanSettle, HasBehind, IsInCode, Settles}
unfoldable pub use Rattle.hep_state.specs.TurnParts.{AfterTurns, Begins, CanEndTurn, ChangesNext, EmptiesTargets, EndsBy, FailsAtCall, FailsAtPurge}
unfoldable pub use Rattle.hep_state.specs.TurnParts.{HaveFramesLeft, IsAtCallAhead, IsAtPurgeAhead, IsAtResumeAhead, IsEndingBy, IsEndingWithRoom, IsGivenBy}
unfoldable pub use Rattle.hep_state.specs.TurnParts.{IsLeftWithRoom, IsReached, IsWhetherLives, KeepsRoomAt, KeepsRoomOf, KeepsRoomParting}
unfoldable pub use Rattle.hep_state.specs.TurnParts.{KeepsRoomWith, KeepsState, LeavesBy, NamesRanges, PartsAt, Performs, StepsAfter, StepsByCall}
unfoldable pub use Rattle.hep_state.specs.TurnParts.{StepsByCreation, TurnsByPurge, WaitsAfter}
pub use Rattle.hep_state.specs.TurnParts.{CanBegin, CanCall, CanCreate, CanEmpty, CanPart, IsAtOperation, IsItsTurn, KeepsWritten}
unfoldable pub use Rattle.hep_state.specs.Room.{KeepsRoom}
pub use Rattle.hep_state.specs.Room.{CanBeMore, HasRoomForCreation, HasRoomForEntry, HasRoomForLevel, HasRoomForProcess, IsEmptyProcess, KeepsRollFor}
pub use Rattle.hep_state.specs.Room.{IsProcessCopy, ShowsSame}
unfoldable pub use Rattle.hep_state.specs.WholeTurns.{IsRefused, IsTurn, IsUntaken}
pub use Rattle.hep_state.specs.WholeTurns.{CanTakeCall, CanTakeResume, CanTurn, LeavesAlone}
unfoldable pub use Rattle.hep_state.specs.CallsAndReturns.{HasLivedOn, IsToEndBy, LivesOnBelow, StepsBy}
pub use Rattle.hep_state.specs.CallsAndReturns.{CanAnswer, CanBeginCall, CanLiveOn, CanMakeCall, CanReturn, IsSettledTurn, LivesOn, StaysShown, StepsOn}
unfoldable pub use Rattle.hep_state.specs.AlikeMachines.{level_renamed, node_renamed, stack_renamed}
pub use Rattle.hep_state.specs.AlikeMachines.{AreAlike, AreRenamed, IsSameOutside}
