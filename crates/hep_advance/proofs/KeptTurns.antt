-- A process that goes on keeps what the machine shows: each of its steps is a plain turn.
use Rattle.std.proofs.Common.{◌≡◌, ℕ, suc, ◌-◌, ◌≤◌, false, List, [], ◌∷◌, ◌++◌, drop, length, refl, ap, sym, ◌∙◌, subst, arith, length-set}
use Rattle.std.proofs.lemmas.Option.{none-some}
use Rattle.hep_machine.specs.Words.{Value, common_cells, frame_cells, unit_at}
use Rattle.hep_machine.specs.declared.slot.Slot.{Slot}
use Rattle.hep_machine.specs.State.{Level as SourceLevel, Process as SourceProcess}
use Rattle.hep_code.specs.declared.instruction.Instruction.{Instruction}
use Rattle.hep_code.specs.declared.instruction.Instruction.TheVariants.{Step}
use Rattle.hep_code.specs.declared.instruction.Operation.{Operation}
use Rattle.hep_code.specs.declared.instruction.Operation.TheVariants.{Call, Create, Refer, Purge, Resume}
use Rattle.hep_code.specs.Words.{deepest}
use Rattle.hep_image.specs.declared.array.Array.{Array}
use Rattle.hep_arena.proofs.Gaps.{apart-end}
use Rattle.hep_image.specs.Image.{most_cells}
use Rattle.hep_image.proofs.Variables.{frame-reached}
use Rattle.hep_image.specs.Arrays.{ArePlacedArrays}
use Rattle.hep_state.proofs.BindingCalls.{set-numbered}
use Rattle.hep_step.specs.Effects.{effect_ahead, moves}
use Rattle.hep_step.specs.PerformedSteps as step
use Rattle.hep_step.specs.PerformedSteps.{changed_in, performed}
use Rattle.hep_step.specs.StepReady.{frame_in_arena}
use Rattle.hep_step.specs.Simulation.{IsNotLeftOut, is_left_out, unit_arrays, unit_code}
use Rattle.hep_proc.specs.Stacks.{stack_with}
use Rattle.hep_state.specs.Words.{Changes, HasLevels, IsAfter, IsEffectOf, IsTopRunning, IsTurning, Snapshot, TurnOf, running_top, snapshot_moved, top_frame, turn_settled}
use Rattle.hep_state.proofs.SilentTurns.{moved-shown, unit-is}
use Rattle.hep_state.proofs.Runs.{set-same, set-again}
use Rattle.hep_state.proofs.Changes.{changes-only}
use Rattle.hep_state.proofs.TakenTurns.{ahead-simulated, before, ready, room-ahead}
use Rattle.hep_state.proofs.TopActivations.{settled, turning}
use Rattle.hep_step.specs.SilentSteps.{CanGoOn, Goes, IsMove, IsSettledTo, stays, settles, steps}
use Rattle.hep_advance.specs.SilentRuns.{HasGone, none, more}

-- ---- what only moves calls, creates, refers to and purges nothing

not-left : (code : List Instruction) (arrays : List Array) (first : ℕ) (index : ℕ) (contents after : List Slot) (operands left : List Value) (at next : ℕ) → effect_ahead code arrays first (drop index code) contents operands at ≡ moves after left next → IsNotLeftOut code index
not-left code arrays first index contents after operands left at next is line o behind ahead =
    by_operation o (sym (ap (λ es. effect_ahead code arrays first es contents operands at) ahead) ∙ is)
  where
    by_operation : (o : Operation) → effect_ahead code arrays first (Step line o ∷ behind) contents operands at ≡ moves after left next → is_left_out o ≡ false
    by_operation (Call u count next) e = absurd cc
    by_operation (Create u count next) e = absurd cc
    by_operation (Refer u count) e = absurd cc
    by_operation (Purge count next) e = absurd cc
    by_operation (Resume next) e = absurd cc
    by_operation _ e = refl

-- ---- where no step was made, values that stood ahead may be operands, and nothing else has changed

pub unmoved : (code : List Instruction) (arrays : List Array) (first : ℕ) (s : step.Snapshot) (n : ℕ) (t : step.Snapshot) → n ≡ 0 → Goes code arrays first s n t → IsSettledTo code s t
unmoved code arrays first _ _ _ z (stays s) = record { contents = refl; same = refl }
unmoved code arrays first _ _ _ z (settles s n t u gone is) =
    let before = unmoved code arrays first s n t z gone in
    record { contents = is.contents ∙ before.contents; same = is.same ∙ before.same }
unmoved code arrays first _ _ _ z (steps s n t u gone is) = absurd (omega (arith, z))

-- ---- a process on its way

module _ (t : TurnOf) where
  -- at what it has come to, after turns of these processes
  abbrev pub machine_at : step.Snapshot → Snapshot
  machine_at u = snapshot_moved t u.contents u.operands u.index

  abbrev pub turn_at : List ℕ → SourceLevel × SourceProcess → step.Snapshot → TurnOf
  turn_at after top u =
      record {
        program = t.program;
        cells = t.cells;
        choices = after;
        machine = machine_at u;
        process = t.process;
        level = record t.level { index = u.index };
        below = t.below;
        operands = u.operands;
        pending = t.pending;
        top = top;
      }

  abbrev pub here : step.Snapshot
  here = step.snapshot t.machine.arena.contents t.operands t.level.index

  abbrev pub GoesTo : ℕ → step.Snapshot → Type 0
  GoesTo n u = Goes (unit_code t.program t.level.unit) (unit_arrays t.program t.level.unit) (top_frame t).first here n u

  -- so many turns later
  pub record HasCome (n : ℕ) (u : step.Snapshot) : Type 0 where
    pub after : List ℕ
    pub gone : HasGone t.program t.cells t.process t.choices n after
    pub top : SourceLevel × SourceProcess
    pub turns : IsTurning (turn_at after top u)

  -- what is known of the program
  pub record HasLaws : Type 0 where
    pub running : (r : TurnOf) → r.program ≡ t.program → (turning : IsTurning r) → IsTopRunning r turning
    pub arrays : (r : TurnOf) → r.program ≡ t.program → IsTurning r → ArePlacedArrays r.program (unit_at r.program r.level.unit)
    pub few : t.cells ≤ most_cells

  module _ (known : HasLaws) (turns : IsTurning t) where
    begun : HasCome 0 here
    begun =
        record {
          after = t.choices;
          gone = none t.choices;
          top = t.top;
          turns = subst (λ m. IsTurning (record t { machine = m })) (λ i. record t.machine { processes = set-same t.machine.processes t.process (stack_with t.level t.below t.operands t.pending) turns.kept i }) turns;
        }

    settles-so : (n : ℕ) (s u : step.Snapshot) → HasCome n s → IsSettledTo (unit_code t.program t.level.unit) s u → HasCome n u
    settles-so n s u come is =
        let r = turn_at come.after come.top s in
        let again = settled come.turns u.operands u.index (λ k work stands. record { fits = stands.fits; rest = stands.rest; same = stands.same ∙ sym is.same }) in
        let machine : (turn_settled r u.operands u.index).machine ≡ machine_at u = λ i. record (machine_at u) {
          arena = record { contents = sym is.contents i; holes = t.machine.arena.holes };
          processes = set-again t.machine.processes (t.process - 1) (stack_with (record t.level { index = s.index }) t.below s.operands t.pending) (stack_with (record t.level { index = u.index }) t.below u.operands t.pending) i;
        } in
        record {
          after = come.after;
          gone = come.gone;
          top = come.top;
          turns = subst (λ m. IsTurning (record (turn_at come.after come.top u) { machine = m })) machine again;
        }

    moves-so : (n : ℕ) (s u : step.Snapshot) → HasCome n s → IsMove (unit_code t.program t.level.unit) (unit_arrays t.program t.level.unit) (top_frame t).first s u → HasCome (suc n) u
    moves-so n s u come is =
        let r = turn_at come.after come.top s in
        let runs = known.running r refl come.turns in
        let others = not-left (unit_code t.program t.level.unit) (unit_arrays t.program t.level.unit) (top_frame t).first s.index s.contents u.contents s.operands u.operands s.index u.index is.effect in
        let simulated = subst (IsEffectOf r come.turns) is.effect (ahead-simulated come.turns runs is.past others) in
        let made = moved-shown come.turns u.contents u.operands u.index is.cells simulated in
        let machine : snapshot_moved r u.contents u.operands u.index ≡ machine_at u = λ i. record (machine_at u) {
          processes = set-again t.machine.processes (t.process - 1) (stack_with (record t.level { index = s.index }) t.below s.operands t.pending) (stack_with (record t.level { index = u.index }) t.below u.operands t.pending) i;
        } in
        let after = come.after ++ t.process ∷ [] in
        let kept : IsAfter t.program t.cells after (machine_at u) = subst (IsAfter t.program t.cells after) machine made.after in
        let levels : HasLevels (machine_at u) t.process = record {
          level = record t.level { index = u.index };
          below = t.below;
          operands = u.operands;
          pending = t.pending;
          kept = set-numbered t.machine.processes t.process (stack_with t.level t.below t.operands t.pending) (stack_with (record t.level { index = u.index }) t.below u.operands t.pending) turns.kept;
        } in
        let count : length (machine_at u).processes ≡ length (machine_at s).processes =
        length-set t.machine.processes (t.process - 1) (stack_with (record t.level { index = u.index }) t.below u.operands t.pending)
        ∙ sym (length-set t.machine.processes (t.process - 1) (stack_with (record t.level { index = s.index }) t.below s.operands t.pending)) in
        let next = turning t.process kept levels (turns.after.shows.halted ∙ turns.running) in
        record {
          after = after;
          gone = more t.choices n come.after come.gone (record {
            stepped = made.stepped;
            unchanged = subst (Changes t.program t.cells come.after t.process) (λ i. changed_in (performed (is.effect i) (is.unchanged i) (before come.turns)).0) (changes-only come.turns runs is.past others);
            going = next.1.running;
            lives = λ e. none-some next.0 (sym e ∙ next.1.lives);
            made = sym kept.shows.processes ∙ (count ∙ come.turns.after.shows.processes);
            layout = kept.layout;
            laid = kept.laid;
          });
          top = next.0;
          turns = next.1;
        }

    pub come-so : (n : ℕ) (u : step.Snapshot) → GoesTo n u → HasCome n u
    come-so _ _ (stays _) = begun
    come-so _ _ (settles _ n s u goes is) = settles-so n s u (come-so n s goes) is
    come-so _ _ (steps _ n s u goes is) = moves-so n s u (come-so n s goes) is

    -- wherever it comes to it can go on
    pub can-go : (capacity : ℕ) → deepest (unit_code t.program t.level.unit) ≤ capacity → (n : ℕ) (u : step.Snapshot) → GoesTo n u
        → CanGoOn (unit_code t.program t.level.unit) (unit_arrays t.program t.level.unit) t.machine.arena.holes (frame_in_arena (top_frame t)) capacity u
    can-go capacity room n u goes =
        let come = come-so n u goes in
        let r = turn_at come.after come.top u in
        record {
          room = omega (arith, room, room-ahead come.turns);
          ready = λ more le. ready come.turns (known.running r refl come.turns) more (known.arrays r refl come.turns) known.few (omega (arith, room, le));
        }

    -- its frame has the cells of its unit, and COMMON lies in the arena
    pub frame-there : ((top_frame t).cells ≡ frame_cells (unit_at t.program t.level.unit)) × (common_cells t.program ≤ length t.machine.arena.contents)
    frame-there =
        let r = running_top t turns in
        let runs = known.running t refl turns in
        let here = frame-reached r.program r.top.state r.layout r.arena.contents r.arena.holes r.top.level.activation r.frame runs.memory runs.framed in (
          here.0 ∙ ap (λ u. frame_cells (unit_at t.program u)) (unit-is turns),
          apart-end (length r.arena.contents) (common_cells t.program) r.layout runs.memory.laid.apart,
        )
