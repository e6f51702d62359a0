-- Private steps of a process whose turn it is are plain turns, and the state after them is kept.
use Rattle.std.proofs.Common.{◌≡◌, ℕ, ◌+◌, ◌≤◌, true, List, Some, refl, sym, ap, ◌∙◌, subst, arith, is_some, [], drop, length-append}
use Rattle.hep_machine.specs.Words.{main_among, unit_at}
use Rattle.hep_conditions.specs.Words.{IsAccepted}
use Rattle.hep_code.specs.Words.{deepest, most_operands}
use Rattle.hep_image.specs.Arrays.{ArePlacedArrays}
use Rattle.hep_image.specs.Image.{most_cells}
use Rattle.hep_image.specs.Private.{private_cells}
use Rattle.hep_step.specs.PerformedSteps.{snapshot}
use Rattle.hep_step.specs.StepReady.{frame_in_arena}
use Rattle.hep_step.specs.Simulation.{unit_arrays, unit_code}
use Rattle.hep_state.specs.Words.{IsAfter, IsTopRunning, IsTurning, TurnOf, snapshot_moved, top_frame}
use Rattle.hep_state.proofs.TakenTurns.{room-ahead}
use Rattle.hep_step.specs.SilentSteps.{Goes, settles, stays}
use Rattle.hep_advance.specs.SilentRuns.{HasGone}
use Rattle.hep_advance.proofs.KeptTurns.{HasLaws, can-go, come-so}
use Rattle.hep_private.specs.declared.record.Record.{Record}
use Rattle.hep_private.specs.OwnState.{OwnState, pushed_ahead, settled, values_at}
use Rattle.hep_private.specs.StepRecords.{made_ahead, next_made, recorded}
use Rattle.hep_commit.specs.PrivateTurns.{HaveGone, own_of}
use Rattle.hep_commit.proofs.NextPrivate.{private-behind}
use Rattle.hep_commit.proofs.OperandRoom.{all-in-room, fits-ahead, pushed-length}
use Rattle.hep_commit.proofs.Runs.{gone-on, left-same, steps-are, values-gone}
use Rattle.hep_advance.proofs.RunsToBreakpoint.{turns-are}
use Rattle.hep_private.proofs.OperandRoom.{room-for}
use Rattle.hep_private.specs.InPlace.{stored_with}

-- what the laws say of all programs
module _ (running : (t : TurnOf) → IsAccepted t.program → is_some (main_among t.program) ≡ true → (turning : IsTurning t) → IsTopRunning t turning)
    (arrays : (t : TurnOf) → IsAccepted t.program → is_some (main_among t.program) ≡ true → IsTurning t → ArePlacedArrays t.program (unit_at t.program t.level.unit)) where
  known : (t : TurnOf) → IsAccepted t.program → is_some (main_among t.program) ≡ true → t.cells ≤ most_cells → HasLaws t
  known t accepted main few =
      record {
        running = λ r same turns. running r (subst IsAccepted (sym same) accepted) (ap (λ program. is_some (main_among program)) same ∙ main) turns;
        arrays = λ r same turns. arrays r (subst IsAccepted (sym same) accepted) (ap (λ program. is_some (main_among program)) same ∙ main) turns;
        few = few;
      }

  pub turns-made : (t : TurnOf) (n : ℕ) (records : List Record) (end : OwnState) → IsAccepted t.program → is_some (main_among t.program) ≡ true → t.cells ≤ most_cells → IsTurning t
      → recorded (private_cells (unit_at t.program t.level.unit)) (unit_code t.program t.level.unit) n (own_of t) ≡ Some (records, end) → HaveGone t n records end
  turns-made t n records end accepted main few turns is =
      let laws = known t accepted main few in
      let code = unit_code t.program t.level.unit in
      let here = snapshot t.machine.arena.contents t.operands t.level.index in
      let there = snapshot (stored_with (top_frame t).first t.machine.arena.contents records) end.operands end.index in
      let cells = private_cells (unit_at t.program t.level.unit) in
      let can = can-go t laws turns (deepest code) (omega arith) in
      let goes =
      gone-on code (unit_arrays t.program t.level.unit) cells (frame_in_arena (top_frame t)) t.machine.arena.holes (deepest code) here can n 0 here [] records end (stays here) is in
      let values =
      values-gone code (unit_arrays t.program t.level.unit) cells (frame_in_arena (top_frame t)) t.machine.arena.holes (deepest code) here can n 0 here [] records end (stays here) is in
      let count : 0 + n ≡ n = omega arith in
      let come = come-so t laws turns n there (subst (λ k. Goes code (unit_arrays t.program t.level.unit) (top_frame t).first here k there) count goes) in
      let made = turns-are t.program t.cells t.process t.choices n come.after come.gone in
      record {
        gone = subst (HasGone t.program t.cells t.process t.choices n) made come.gone;
        steps = steps-are t.program t.cells t.process t.choices n come.after come.gone;
        after = subst (λ ps. IsAfter t.program t.cells ps (snapshot_moved t there.contents there.operands there.index)) made come.turns.after;
        values = values;
        next = private-behind cells code n (own_of t) records end (values_at there.contents (top_frame t).first) is values;
      }

  -- no step is left out for want of room
  pub none-left-out : (t : TurnOf) → IsAccepted t.program → is_some (main_among t.program) ≡ true → t.cells ≤ most_cells → IsTurning t → deepest (unit_code t.program t.level.unit) ≤ most_operands
      → next_made (private_cells (unit_at t.program t.level.unit)) (unit_code t.program t.level.unit) (own_of t)
      ≡ made_ahead (private_cells (unit_at t.program t.level.unit)) (settled (unit_code t.program t.level.unit) (own_of t)) (drop (settled (unit_code t.program t.level.unit) (own_of t)).index (unit_code t.program t.level.unit))
  none-left-out t accepted main few turns shallow =
      let laws = known t accepted main few in
      let code = unit_code t.program t.level.unit in
      let arrays_here = unit_arrays t.program t.level.unit in
      let cells = private_cells (unit_at t.program t.level.unit) in
      let put = settled code (own_of t) in
      let here = snapshot t.machine.arena.contents t.operands t.level.index in
      let there = snapshot t.machine.arena.contents put.operands put.index in
      let goes = settles here 0 here there (stays here) (record { contents = refl; same = left-same code t.operands t.level.index }) in
      let ready = (can-go t laws turns (deepest code) (omega arith) 0 there goes).ready (deepest code) (omega arith) in
      all-in-room cells put (made_ahead cells put (drop put.index code)) (λ m made.
      room-for cells put m
      (omega (arith, shallow, room-ahead turns, length-append t.operands (pushed_ahead (drop t.level.index code)), pushed-length (drop t.level.index code)))
      (omega (arith, shallow, fits-ahead (record { contents = t.machine.arena.contents; holes = t.machine.arena.holes }) arrays_here (frame_in_arena (top_frame t)) cells (deepest code) put (drop put.index code) m ready.ahead made)))
