-- The END of an activation: its effect, and that no cell is filled or emptied.
use Rattle.std.proofs.Common.{◌≡◌, ℕ, false, true, List, [], ◌∷◌, Option, None, Result, Ok, Err, IfOk, IfErr, refl, sym, ap, ◌∙◌, subst, is_some}
use Rattle.hep_machine.specs.Words.{Units, Value, main_among}
use Rattle.hep_machine.specs.declared.event.Kind.{Kind}
use Rattle.hep_machine.specs.State.{Level as SourceLevel, Process as SourceProcess}
use Rattle.hep_conditions.specs.Words.{IsAccepted}
use Rattle.hep_cells.specs.declared.want.Want.{Want}
use Rattle.hep_code.specs.declared.instruction.Instruction.{Instruction}
use Rattle.hep_code.specs.declared.instruction.Instruction.TheVariants.{Step}
use Rattle.hep_code.specs.declared.instruction.Operation.{Operation}
use Rattle.hep_code.specs.declared.instruction.Operation.TheVariants.{Answer}
use Rattle.hep_image.specs.Addressing.{address_of, cells_in}
use Rattle.hep_step.specs.Effects.{Effect, answers, effect_ahead, effect_of_answer, fails, value_found, changed_ahead}
use Rattle.hep_step.specs.PerformedSteps.{Snapshot as Standing, changed_in, performed, snapshot}
use Rattle.hep_step.specs.Simulation.{unit_arrays, unit_code}
use Rattle.hep_state.specs.declared.next_step.NextFunctionReturn.{NextFunctionReturn}
use Rattle.hep_state.specs.Words.{Changes, IsAfter, IsAtAnswer, IsAtOther, IsEffectOf, IsEnding, IsToEnd, IsTopRunning, IsTurning, Snapshot, TurnOf, frame_under, turn_with}
use Rattle.hep_state.proofs.Changes.{changes-only}
use Rattle.hep_state.proofs.Runs.{in-turn}
use Rattle.hep_state.proofs.TakenTurns.{ahead-simulated}
use Rattle.hep_state.proofs.TopActivations.{turning}

-- the top activation runs as the laws of steps ask, in each turn of a program
abbrev pub IsRunningAlways : Units → Type 0
IsRunningAlways program = (t : TurnOf) → t.program ≡ program → (turns : IsTurning t) → IsTopRunning t turns

-- as the law has it
pub running-always : ((t : TurnOf) → IsAccepted t.program → is_some (main_among t.program) ≡ true → (turns : IsTurning t) → IsTopRunning t turns) → (program : Units) → IsAccepted program → is_some (main_among program) ≡ true → IsRunningAlways program
running-always law program accepted main t is turns = law t (subst IsAccepted (sym is) accepted) (ap (λ program. is_some (main_among program)) is ∙ main) turns

module _ {program : Units} {m : Snapshot} {p : ℕ} {line : ℕ} {o : Operation} (at : IsAtOther program p m line o) where
  abbrev first : ℕ
  first = (frame_under m.nodes at.operation.levels.level.key).first

  -- the effect of its operation
  abbrev pub effect-there : Effect
  effect-there = effect_ahead (unit_code program at.operation.levels.level.unit) (unit_arrays program at.operation.levels.level.unit) first (Step line o ∷ at.behind) m.arena.contents at.operation.levels.operands at.operation.levels.level.index

  abbrev pub changed-there : Option Want
  changed-there =
      changed_in (performed effect-there (changed_ahead (unit_arrays program at.operation.levels.level.unit) first (Step line o ∷ at.behind) m.arena.contents at.operation.levels.operands) (snapshot m.arena.contents at.operation.levels.operands at.operation.levels.level.index)).0

  module _ (known : IsRunningAlways program) {cells : ℕ} {choices : List ℕ} (after : IsAfter program cells choices m) (running : m.halted ≡ false) where
    turn-there : (top : SourceLevel × SourceProcess) × IsTurning (turn_with program cells choices at.operation.levels top)
    turn-there = turning p after at.operation.levels running

    runs : IsTopRunning (turn_with program cells choices at.operation.levels turn-there.0) turn-there.1
    runs = known (turn_with program cells choices at.operation.levels turn-there.0) refl turn-there.1

    pub ends-there : IsToEnd program cells choices p m effect-there
    ends-there =
        let t = turn_with program cells choices at.operation.levels turn-there.0 in
        let simulated = ahead-simulated turn-there.1 runs at.operation.past at.operation.plain in
        let is = ap (λ rows. effect_ahead (unit_code t.program t.level.unit) (unit_arrays t.program t.level.unit) first rows t.machine.arena.contents t.operands t.level.index) at.ahead in
        in-turn turn-there.1 (λ t. IsEnding t effect-there) (record { turning = turn-there.1; simulated = subst (IsEffectOf t turn-there.1) is simulated })

    pub untouched-there : Changes program cells choices p changed-there
    untouched-there =
        let t = turn_with program cells choices at.operation.levels turn-there.0 in
        let told = changes-only turn-there.1 runs at.operation.past at.operation.plain in
        let effect = λ (rows : List Instruction). effect_ahead (unit_code t.program t.level.unit) (unit_arrays t.program t.level.unit) first rows t.machine.arena.contents t.operands t.level.index in
        let changed = λ (rows : List Instruction). changed_ahead (unit_arrays t.program t.level.unit) first rows t.machine.arena.contents t.operands in
        let is = ap (λ (rows : List Instruction). changed_in (performed (effect rows) (changed rows) (snapshot t.machine.arena.contents t.operands t.level.index)).0) at.ahead in
        subst (Changes program cells choices p) is told

-- ---- the END of a function

-- it ends with a value, or with a fault
pub answers-so : (P : Effect → Type 0) (line : ℕ) (r : Result Value Kind) → P (effect_of_answer line r) → IfOk r (λ v. P (answers v))
answers-so P line (Ok v) h = h
answers-so P line (Err k) h = tt

pub fails-so : (P : Effect → Type 0) (line : ℕ) (r : Result Value Kind) → P (effect_of_answer line r) → IfErr r (λ k. P (fails line k))
fails-so P line (Ok v) h = tt
fails-so P line (Err k) h = h

-- and changes no cell
pub none-changed : (line : ℕ) (r : Result Value Kind) (changed : Option Want) (before : Standing) → changed_in (performed (effect_of_answer line r) changed before).0 ≡ None
none-changed line (Ok v) changed before = refl
none-changed line (Err k) changed before = refl

pub answer-untouched : {program : Units} {m : Snapshot} {p : ℕ} {answer : NextFunctionReturn} → (at : IsAtAnswer program p m answer) → IsRunningAlways program → {cells : ℕ} {choices : List ℕ} → IsAfter program cells choices m → m.halted ≡ false → Changes program cells choices p None
answer-untouched {program} {m} {p} {answer} at known {cells} {choices} after running =
    let levels = at.operation.levels in
    let arrays = unit_arrays program levels.level.unit in
    let start = (frame_under m.nodes levels.level.key).first in
    let found = value_found m.arena.contents (address_of (cells_in m.arena.contents) start arrays answer.variable []) in
    let changed = changed_ahead arrays start (Step answer.line (Answer answer.variable) ∷ at.behind) m.arena.contents levels.operands in
    subst (Changes program cells choices p) (none-changed answer.line found changed (snapshot m.arena.contents levels.operands levels.level.index)) (untouched-there at known after running)
