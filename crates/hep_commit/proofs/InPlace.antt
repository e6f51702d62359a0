-- Private steps that were made in the cells of a frame are those of a segment, and so many turns.
use Rattle.std.proofs.Common.{◌≡◌, ℕ, ◌≤◌, ◌++◌, IfNone, IfSome, List, [], ◌∷◌, length, replicate, Option, Some, None, refl, sym, ap, ◌∙◌, subst, get_or, slice_set}
use Rattle.std.proofs.lemmas.List.{set-get_or}
use Rattle.std.specs.Global.{Vec}
use Rattle.std.specs.Vec.{with_item}
use mathlib.Core.HLevel.{is_prop→PathP}
use native.Mathlib.Nat.{ℕ_set}
use native.Mathlib.Bridge.{le_prop}
use Rattle.hep_machine.specs.Words.{Units, unit_at}
use Rattle.hep_machine.specs.declared.slot.Slot.{Slot}
use Rattle.hep_code.specs.declared.instruction.Instruction.{Instruction}
use Rattle.hep_image.specs.Private.{private_cells}
use Rattle.hep_step.specs.PerformedSteps.{Snapshot}
use Rattle.hep_step.specs.Simulation.{unit_code}
use Rattle.hep_private.specs.declared.record.Record.{Record}
use Rattle.hep_private.specs.OwnState.{begun, contents_after, values_at}
use Rattle.hep_private.specs.StepRecords.{recorded}
use Rattle.hep_advance.specs.SilentRuns.{MakesMoves}
use Rattle.hep_proc.specs.Stacks.{IsSameProcess, stack_with}
use Rattle.hep_proc.specs.declared.frames.Frames.{Frames}
use Rattle.hep_proc.specs.declared.process.Process.{Process}
use Rattle.hep_private.specs.InPlace.{IsMadeInPlace, stored_with}
use Rattle.hep_private.specs.Segments.{IsMadeFrom, SegmentValue, Start}
use Rattle.hep_private.specs.declared.ticket.TicketId.{TicketId}
use Rattle.hep_state.specs.declared.core_state.CoreState.{CoreState}
use Rattle.hep_state.specs.Words.{HasLevels, IsAfter, IsItsTurn, IsPlaceOf, snapshot_of}
use Rattle.hep_state.proofs.Processes.{IsAt, process-at, room-moved}
use Rattle.hep_state.proofs.UnchangedStates.{machine-of, rooms-of, rooms-set}
use Rattle.hep_commit.specs.SegmentStarts.{start_in}
use Rattle.hep_commit.specs.Application.{CanTake, HasMadePrivate, HasTakenIn}
use Rattle.hep_commit.specs.TopSegments.{MakesPrivate, segment_from}
use Rattle.hep_commit.proofs.AppliedSegments.{AreTurnsIn, gone, kept, shown-now}
use Rattle.hep_private.proofs.BatchSegments.{as-many}

-- ---- what holds of an answer, holds of what follows from it

pub some-too : {A : Type 0} {P Q : A → Type 0} (o : Option A) → IfSome o P → ((x : A) → P x → Q x) → IfSome o Q
some-too (Some x) h f = f x h
some-too None h f = tt

pub none-too : {A P Q : Type 0} (o : Option A) → IfNone o P → (P → Q) → IfNone o Q
none-too (Some x) h f = tt
none-too None h f = f h

-- ---- an element that is put where it stood

vec-same : {X : Type 0} (v : Vec X) (i : ℕ) (w : X) → slice_set v.items i w ≡ v.items → with_item v i w ≡ v
vec-same v i w same k =
    record v {
      items = same k;
      ok = is_prop→PathP (λ j. (v.len ≡ length (same j)) × (v.len ≤ v.cap)) (λ j x y l. (ℕ_set _ _ x.0 y.0 l, le_prop x.1 y.1 l)) (with_item v i w).ok v.ok k;
    }

pub machine-same : (m : CoreState) (at : ℕ) (q r : Process) (frames : Frames) → q ≡ get_or m.processes.items at q → r ≡ q → frames ≡ m.frames → record m { frames = frames; processes = with_item m.processes at r } ≡ m
machine-same m at q r frames is process cells =
    let items = ap (slice_set m.processes.items at) (process ∙ is) ∙ set-get_or m.processes.items at q in
    let processes = vec-same m.processes at r items in
    λ i. record m { frames = cells i; processes = processes i }

-- ---- those of a segment

pub stored-with : (first : ℕ) (contents : List Slot) (rs : List Record) → stored_with first contents rs ≡ stored_with first contents rs
stored-with first contents [] = refl
stored-with first contents (r ∷ rs) = stored-with first (contents_after first contents r) rs

module _ (program : Units) (unit first : ℕ) (s : Snapshot) (n : ℕ) (t : Snapshot) (h : IsMadeInPlace program unit first s n t) where
  abbrev private : List ℕ
  private = private_cells (unit_at program unit)

  abbrev code : List Instruction
  code = unit_code program unit

  pub made-many : length h.records ≡ n
  made-many = as-many private code n (begun s.index s.operands (values_at s.contents first)) h.records h.end h.made

  abbrev pub start_at : Start
  start_at = record { unit = unit; index = s.index; operands = s.operands; values = values_at s.contents first }

  pub made-from : (id : TicketId) → IsMadeFrom program start_at (segment_from id start_at h.records t.index t.operands)
  made-from id = (
    record { unit = refl; index = refl; operands = refl },
    record {
      end = h.end;
      made = ap (λ k. recorded private code k (begun s.index s.operands (values_at s.contents first))) made-many ∙ h.made;
      index = h.index;
      operands = h.operands;
    },
  )

-- ---- in a machine

-- for a ticket of the process
module _ (program : Units) (m : CoreState) (id : TicketId) (turn : IsItsTurn program id.process m) {at : ℕ} {q : Process} (place : IsPlaceOf m.processes.items id.process at) (is : q ≡ get_or m.processes.items at q)
    (n : ℕ) (r : Process) (frames : Frames) (made : MakesPrivate program q m.frames n r frames) (same : IsSameProcess q r) (holes : frames.arena.holes ≡ m.frames.arena.holes) (nodes : frames.nodes ≡ m.frames.nodes) where
  abbrev new : CoreState
  new = record m { frames = frames; processes = with_item m.processes at r }

  abbrev s : SegmentValue
  s = segment_from id (start_in turn.living) made.records made.index made.left

  found : (e : HasLevels (snapshot_of m) id.process) → IsAt m.processes.items id.process at (stack_with e.level e.below e.operands e.pending) q
  found e = process-at m id.process turn.after.2.numbers place e.kept is

  made-here : IsMadeFrom program (start_in turn.living) s
  made-here = let e = turn.living in made.made id e.level e.below e.operands e.pending (found e).stack

  pub taken : HasTakenIn s m new
  taken e =
      let it = found e in
      shown-now m id.process r frames _ e.level e.below made.left e.pending made.index turn.after.2.numbers it same.number (
      made.stack e.level e.below e.operands e.pending it.stack) (made.cells e.level e.below e.operands e.pending it.stack) holes nodes

  pub with-segment : (s : SegmentValue) × (s.id ≡ id) × (length s.records ≡ n) × CanTake program s m × HasTakenIn s m new
  with-segment = (s, refl, made.count, record { turn = turn; made = made-here }, taken)

  moves-all : AreTurnsIn program → MakesMoves program id.process m (length s.records) new
  moves-all laws cells choices h =
      let e = turn.living in
      let it = found e in
      let after = choices ++ replicate (length s.records) id.process in (
        after,
        (gone laws h.few h.after turn.running e s made-here).gone,
        machine-of program cells after new (subst (IsAfter program cells after) (sym (taken e)) (kept laws h.few h.after turn.running e s made-here)) (
            rooms-set program cells m new r it same.number refl refl refl (
            room-moved program q r e.level made.index e.below e.operands made.left e.pending it.stack (made.stack e.level e.below e.operands e.pending it.stack) same.room (h.room at q it.there)) (rooms-of program cells choices m h)),
      )

  pub moves : AreTurnsIn program → MakesMoves program id.process m n new
  moves laws = subst (λ k. MakesMoves program id.process m k new) made.count (moves-all laws)

-- for whichever ticket
pub made-private : (program : Units) (p : ℕ) (m : CoreState) (turn : IsItsTurn program p m) {at : ℕ} {q : Process} (place : IsPlaceOf m.processes.items p at) (is : q ≡ get_or m.processes.items at q)
    (n : ℕ) (r : Process) (frames : Frames) (made : MakesPrivate program q m.frames n r frames) (same : IsSameProcess q r) (holes : frames.arena.holes ≡ m.frames.arena.holes) (nodes : frames.nodes ≡ m.frames.nodes)
    → HasMadePrivate program p m n (record m { frames = frames; processes = with_item m.processes at r })
made-private program p m turn {at} place is n r frames made same holes nodes id of =
    with-segment program m id (subst (λ k. IsItsTurn program k m) (sym of) turn) (subst (λ k. IsPlaceOf m.processes.items k at) (sym of) place) is n r frames made same holes nodes
