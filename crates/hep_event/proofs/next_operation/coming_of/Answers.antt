use Rattle.std.proofs.Common.{◌≡◌, ◌<◌, ◌-◌, ℕ, List, ◌∷◌, drop, length, sym, ap, ◌∙◌, subst, arith, take, length-drop, take_all}
use Rattle.hep_code.specs.declared.instruction.Instruction.{Instruction}
use Rattle.hep_code.specs.declared.instruction.Instruction.TheVariants.{Step}
use Rattle.hep_code.specs.declared.instruction.Operation.{Operation}
use Rattle.hep_code.specs.Words.{IsPastPushes, Stands, code_of, deepest, left_to_do, values_ahead}
use Rattle.hep_machine.specs.Words.{Work, line_at, unit_at}
use Rattle.hep_proc.specs.declared.process.Local.{Local}
use Rattle.hep_proc.proofs.Levels.{operands-are}
use Rattle.hep_step.specs.Simulation.{unit_addressed, unit_code}
use Rattle.hep_state.specs.Words.{HasLevels, snapshot_of}
use Rattle.hep_state.proofs.Processes.{process-at, some-levels-at}
use Rattle.hep_state.proofs.UnchangedStates.{carry}
use Rattle.hep_event.proofs.TopPositions.{on-top, room-there, unit-inside}
use Rattle.hep_event.proofs.next_operation.coming_of.Goals.{After-settle}
use Rattle.hep_event.proofs.next_operation.coming_of.Goals as goal

pub place-at-requires : goal.place-at-requires
place-at-requires c = record { numbers = c.requires.after.2.numbers; living = c.requires.levels }

pub top-unit-requires : goal.top-unit-requires
top-unit-requires c = some-levels-at (process-at c.args.machine.now c.args.p c.requires.after.2.numbers c.place-at.ensures c.requires.levels.kept c.index-process.ensures)

pub unit-unit-requires : goal.unit-unit-requires
unit-unit-requires c =
    let w = c.requires.levels in
    let it = process-at c.args.machine.now c.args.p c.requires.after.2.numbers c.place-at.ensures w.kept c.index-process.ensures in
    subst (λ (l : Local). l.unit < length c.args.image.now) (sym (c.top-unit.ensures w.level w.below w.operands w.pending it.stack)) (
    unit-inside c.args.machine.now c.requires.after.2 w)

pub settle-requires : goal.settle-requires
settle-requires c =
    let program = c.args.image.now in
    let w = c.requires.levels in
    let it = process-at c.args.machine.now c.args.p c.requires.after.2.numbers c.place-at.ensures w.kept c.index-process.ensures in
    let same = c.top-unit.ensures w.level w.below w.operands w.pending it.stack in
    let unit = c.unit-unit.ensures.code ∙ ap (λ (l : Local). unit_code program l.unit) same in
    let code = c.as_slice-code.ensures ∙ unit in
    let vs = c.deref.ensures.value ∙ operands-are c.index-process.result.now w.level w.below w.operands w.pending it.stack in
    let count = c.in_ok-operands.operands.ok.0 ∙ ap length (c.in_ok-operands.ensures.items ∙ vs) in
    let ahead : values_ahead (drop c.top-unit.result.index c.as_slice-code.result.now) ≡ values_ahead (drop w.level.index (unit_code program w.level.unit))
    = (λ i. values_ahead (drop (same i).index (code i))) in
    let depth = c.unit-unit.ensures.operands ∙ ap deepest unit in
    omega (arith, count, ahead, ap length vs, depth, c.in_ok-operands.ensures.room, room-there c.args.machine.now c.requires.after.2 w)

-- ---- what stands ahead once they are settled

module _ (c : After-settle) (w : HasLevels (snapshot_of c.args.machine.now) c.args.p) where
  same-level : c.top-unit.result ≡ w.level
  same-level = c.top-unit.ensures w.level w.below w.operands w.pending (process-at c.args.machine.now c.args.p c.requires.after.2.numbers c.place-at.ensures w.kept c.index-process.ensures).stack

  same-code : c.as_slice-code.result.now ≡ unit_code c.args.image.now w.level.unit
  same-code = c.as_slice-code.ensures ∙ (c.unit-unit.ensures.code ∙ ap (λ (l : Local). unit_code c.args.image.now l.unit) same-level)

  same-operands : c.in_ok-operands.operands.items ≡ w.operands
  same-operands =
      c.in_ok-operands.ensures.items
      ∙ (c.deref.ensures.value
      ∙ operands-are c.index-process.result.now w.level w.below w.operands w.pending (process-at c.args.machine.now c.args.p c.requires.after.2.numbers c.place-at.ensures w.kept c.index-process.ensures).stack)

  settled : (k : ℕ) (work : Work) → Stands (unit_addressed c.args.image.now w.level.unit) k work w.operands w.level.index
      → Stands (unit_addressed c.args.image.now w.level.unit) k work c.settle.new.operands.items c.settle.new.index
  settled k work stands =
      c.settle.ensures.stands (unit_addressed c.args.image.now w.level.unit) k work same-code (
      carry (λ i. Stands (unit_addressed c.args.image.now w.level.unit) k work (sym same-operands i) (sym same-level i).index) stands)

ahead : (c : After-settle) → (line : ℕ) × (o : Operation) × (behind : List Instruction) × (drop c.settle.new.index c.as_slice-code.result.now ≡ Step line o ∷ behind)
ahead c =
    let w = c.requires.levels in
    let it = on-top c.args.machine.now c.requires.after.2 w in
    let code = same-code c w in
    let addressed = unit_addressed c.args.image.now w.level.unit in
    let stands = settled c w it.top.0.statement it.top.0.work it.stands.stands in
    let past = subst (λ (is : List Instruction). IsPastPushes is c.settle.new.index) code c.settle.ensures.settled in
    let step = c.operations_stand_ahead.ensures.step addressed it.top.0.statement it.top.0.work c.settle.new.operands.items c.settle.new.index stands past in
    (line_at (unit_at c.args.image.now w.level.unit) it.top.0.statement, step.0, step.1, ap (drop c.settle.new.index) code ∙ step.2)

inside : (c : After-settle) → c.settle.new.index < length c.as_slice-code.result.now
inside c = omega (arith, length-drop c.settle.new.index c.as_slice-code.result.now, ap length (ahead c).3)

whole : (c : After-settle) → take (length c.as_slice-code.result.now - c.settle.new.index) (drop c.settle.new.index c.as_slice-code.result.now) ≡ drop c.settle.new.index c.as_slice-code.result.now
whole c =
    let code = c.as_slice-code.result.now in
    take_all (length code - c.settle.new.index) (drop c.settle.new.index code) (omega (arith, length-drop c.settle.new.index code))

pub offset_bounds-code-index : goal.offset_bounds-code-index
offset_bounds-code-index c = let less = inside c in omega arith

pub slice_bounds-in_front-count : goal.slice_bounds-in_front-count
slice_bounds-in_front-count c = omega (arith, inside c)

pub slice_bounds-in_front-start : goal.slice_bounds-in_front-start
slice_bounds-in_front-start c = let less = inside (goal.at.slice_bounds-in_front-start c).After-settle in omega arith

pub in_front-requires : goal.in_front-requires
in_front-requires c =
    let at = (goal.at.in_front-requires c).After-settle in
    let a = ahead at in
    (a.0, a.1, a.2, whole at ∙ a.3)

pub returns : goal.returns
returns c levels =
    let at = (goal.at.returns c).After-settle in
    let addressed = unit_addressed c.args.image.now levels.level.unit in
    let code = same-code at levels in
    record {
      index = c.settle.new.index;
      same = (λ i. left_to_do (c.in_front.ensures.operands i).items c.settle.new.index (code_of addressed))
          ∙ (ap (left_to_do c.settle.new.operands.items c.settle.new.index) (sym code)
          ∙ (c.settle.ensures.same ∙ (λ i. left_to_do (same-operands at levels i) (same-level at levels i).index (code i))));
      ahead = ap (drop c.settle.new.index) (sym (same-code at levels)) ∙ (sym (whole at) ∙ c.in_front.ensures.ahead);
    }
