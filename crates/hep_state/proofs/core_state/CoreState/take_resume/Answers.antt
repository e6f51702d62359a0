use Rattle.std.proofs.Common.{◌≡◌, ◌+◌, ◌<◌, ◌≤◌, [], ◌∷◌, ◌++◌, length, reverse, refl, sym, ap, ◌∙◌, subst, arith, vec_capacity}
use Rattle.std.specs.Vec.{with_item}
use Rattle.hep_machine.specs.Words.{numbered, with_numbered}
use Rattle.hep_code.specs.Words.{deepest}
use Rattle.hep_step.specs.Simulation.{unit_code}
use Rattle.hep_proc.specs.declared.process.Local.{Local}
use Rattle.hep_proc.specs.Stacks.{stack_with}
use Rattle.hep_state.specs.Words.{HasLevels, HasStepped, Snapshot, snapshot_moved, snapshot_of, snapshot_parted, turn_of}
use Rattle.hep_state.proofs.OtherProcesses.{beside-again, beside-set, beside-shown, more-beside}
use Rattle.hep_state.proofs.Processes.{counted, none-by, process-at, room-moved, some-by, some-levels-at, stacks-set}
use Rattle.hep_state.proofs.ResumeTurns.{resume-after}
use Rattle.hep_state.proofs.TakenTurns.{inside}
use Rattle.hep_state.proofs.UnchangedStates.{alone, on-err, rooms-of, rooms-set, turned-so}
use Rattle.hep_state.proofs.core_state.CoreState.take_resume.Goals as goal

pub place-at-requires : goal.place-at-requires
place-at-requires c = record { numbers = c.requires.at.2.numbers; living = c.requires.at.3.levels }

pub top-requires : goal.top-requires
top-requires c = some-levels-at (process-at c.args.self.now c.args.p c.requires.at.2.numbers c.place-at.ensures c.requires.at.3.levels.kept c.index-2.ensures)

pub unit-unit-requires : goal.unit-unit-requires
unit-unit-requires c =
    let at = c.requires.at.3 in
    let it = process-at c.args.self.now c.args.p c.requires.at.2.numbers c.place-at.ensures at.levels.kept c.index-2.ensures in
    subst (λ (l : Local). l.unit < length c.args.image.now) (sym (c.top.ensures at.levels.level at.levels.below at.levels.operands at.levels.pending it.stack)) (inside at.holds.1.turning)

-- ---- the lowest activation goes on

pub returns-then-len-eq1-clause-turned : goal.returns-then-len-eq1-clause-turned
returns-then-len-eq1-clause-turned c cells choices h =
    let program = c.args.image.now in
    let at = resume-after c.requires.at.3 h.after in
    let p = c.args.p in
    let old = c.args.self.now in
    let t = turn_of at in
    let q = c.index_mut.result.now in
    let it = process-at old p c.requires.at.2.numbers c.place-at.ensures at.levels.kept c.index_mut.ensures.value in
    let seen = process-at old p c.requires.at.2.numbers c.place-at.ensures at.levels.kept c.index.ensures in
    let many : c.len.result ≡ length (reverse t.below) + 1 = counted c.index.result.now t.level t.below t.operands t.pending seen.stack c.len.result c.len.ensures in
    let lowest = none-by t.below c.len.result many c.if-len-eq1.true in
    let made = c.resumes_are_shown.ensures.lowest t c.args.next c.is_runnable.ensures.accepted c.is_runnable.ensures.main at.holds lowest in
    let moved = c.stand_at.ensures.stack t.level t.below t.operands t.pending it.stack in
    let stacks = stacks-set old p c.stand_at.new.self (stack_with (record t.level { index = c.args.next }) t.below t.operands t.pending) h.numbers it c.stand_at.ensures.number moved in
    let shown : snapshot_of (record old { processes = with_item old.processes c.place-at.result c.stand_at.new.self }) ≡ snapshot_moved t t.machine.arena.contents t.operands c.args.next = λ i. record (snapshot_of old) { processes = stacks i } in
    turned-so program cells choices p _ (c.resumes_are_shown.ensures.nothing t c.args.next c.is_runnable.ensures.accepted c.is_runnable.ensures.main at.holds)
    (subst (HasStepped program cells choices p) (sym shown) made)
    (rooms-set program cells old _ c.stand_at.new.self it c.stand_at.ensures.number refl refl refl (room-moved program q c.stand_at.new.self t.level c.args.next t.below t.operands t.operands t.pending it.stack moved (omega (arith, ap vec_capacity c.stand_at.ensures.operands)) (h.room c.place-at.result q it.there)) (rooms-of program cells choices old h))

pub returns-in_err-reserve-clause-refused : goal.returns-in_err-reserve-clause-refused
returns-in_err-reserve-clause-refused c =
    on-err c.from_residual.result c.from_residual.ensures.0 (alone c.args.image.now c.args.p c.args.self.now c.args.self.now refl (λ cells h. h))

-- ---- another one is a process of its own

pub returns-in_err-process-clause-refused : goal.returns-in_err-process-clause-refused
returns-in_err-process-clause-refused c =
    let r = c.from_residual-in_err-process in
    let same = c.reserve_process.ensures.same in
    on-err r.result r.ensures.0 (alone c.args.image.now c.args.p c.args.self.now c.reserve_process.new.self same.shown (same.rooms c.args.image.now))

pub reserve_process-requires : goal.reserve_process-requires
reserve_process-requires c = record { numbers = c.requires.at.2.numbers; few = c.requires.numerable }

pub part-requires : goal.part-requires
part-requires c =
    let at = c.requires.at in
    let same = c.reserve_process.ensures.same in
    let made = c.in_ok-process.ensures.made in
    let levels = at.3.levels in
    record {
      levels = record { level = levels.level; below = levels.below; operands = levels.operands; pending = levels.pending; kept = ap (λ (s : Snapshot). numbered s.processes c.args.p) same.shown ∙ levels.kept };
      empty = made.empty;
      level = omega (arith, made.level.0, made.level.1);
      process = c.in_ok-process.ensures.process.process;
      next = made.number_is ∙ sym (ap (λ n. n + 1) same.made);
      numbers = (same.rooms c.args.image.now at.0 (rooms-of c.args.image.now at.0 at.1 c.args.self.now at.2)).numbers;
    }

pub returns-clause-turned : goal.returns-clause-turned
returns-clause-turned c cells choices h =
    let program = c.args.image.now in
    let at = resume-after c.requires.at.3 h.after in
    let p = c.args.p in
    let old = c.args.self.now in
    let new = c.reserve_process.new.self in
    let t = turn_of at in
    let it = process-at old p c.requires.at.2.numbers c.place-at.ensures at.levels.kept c.index-2.ensures in
    let seen = process-at old p c.requires.at.2.numbers c.place-at.ensures at.levels.kept c.index.ensures in
    let many : c.len.result ≡ length (reverse t.below) + 1 = counted c.index.result.now t.level t.below t.operands t.pending seen.stack c.len.result c.len.ensures in
    let above = some-by t.below c.len.result many c.if-len-eq1.false in
    let shown : snapshot_of new ≡ snapshot_of old = c.reserve_process.ensures.same.shown in
    let levels : HasLevels (snapshot_of new) p =
    record { level = t.level; below = t.below; operands = t.operands; pending = t.pending; kept = ap (λ (s : Snapshot). numbered s.processes p) shown ∙ at.levels.kept } in
    let parted : snapshot_of c.part.new.self ≡ snapshot_parted at.levels c.args.next =
    c.part.ensures.parted levels
    ∙ (λ i. record (shown i) { processes = with_numbered (shown i).processes p (record { levels = t.below; operands = []; pending = t.pending }) ++ record { levels = record t.level { index = c.args.next } ∷ []; operands = []; pending = [] } ∷ [] }) in
    let made = c.resumes_are_shown.ensures.apart t c.args.next above.0 above.1 c.is_runnable.ensures.accepted c.is_runnable.ensures.main at.holds above.2 in
    let unit = ap (λ (l : Local). deepest (unit_code program l.unit)) (c.top.ensures t.level t.below t.operands t.pending it.stack) in
    let deep : deepest (unit_code program t.level.unit) ≤ vec_capacity c.in_ok-process.process.operands = omega (arith, unit, c.in_ok-process.ensures.made.operands, c.unit-unit.ensures.operands ∙ ap deepest c.unit-unit.ensures.code) in
    turned-so program cells choices p c.part.new.self (c.resumes_are_shown.ensures.nothing t c.args.next c.is_runnable.ensures.accepted c.is_runnable.ensures.main at.holds)
    (subst (HasStepped program cells choices p) (sym parted) made)
    (c.part.ensures.rooms program cells (c.reserve_process.ensures.same.rooms program cells (rooms-of program cells choices old h)) levels deep)

-- ---- the others stand where they stood

pub returns-then-len-eq1-clause-others : goal.returns-then-len-eq1-clause-others
returns-then-len-eq1-clause-others c =
    let levels = c.requires.at.3.levels in
    let it = process-at c.args.self.now c.args.p c.requires.at.2.numbers c.place-at.ensures levels.kept c.index_mut.ensures.value in
    beside-set c.args.p c.args.self.now c.stand_at.new.self c.requires.at.2.numbers it levels.kept c.stand_at.ensures.number

pub returns-in_err-reserve-clause-others : goal.returns-in_err-reserve-clause-others
returns-in_err-reserve-clause-others c = beside-shown c.args.p (snapshot_of c.args.self.now) (snapshot_of c.args.self.now) refl

pub returns-in_err-process-clause-others : goal.returns-in_err-process-clause-others
returns-in_err-process-clause-others c = beside-shown c.args.p (snapshot_of c.args.self.now) (snapshot_of c.reserve_process.new.self) c.reserve_process.ensures.same.shown

pub returns-clause-others : goal.returns-clause-others
returns-clause-others c =
    let p = c.args.p in
    let old = snapshot_of c.args.self.now in
    let new = snapshot_of c.reserve_process.new.self in
    let shown = c.reserve_process.ensures.same.shown in
    let e = c.requires.at.3.levels in
    let levels : HasLevels new p = record { level = e.level; below = e.below; operands = e.operands; pending = e.pending; kept = ap (λ (s : Snapshot). numbered s.processes p) shown ∙ e.kept } in
    beside-again p old new (snapshot_of c.part.new.self) (beside-shown p old new shown) (
    more-beside p new.processes (snapshot_of c.part.new.self).processes (stack_with e.level e.below e.operands e.pending) (record { levels = e.below; operands = []; pending = e.pending }) (record { levels = record e.level { index = c.args.next } ∷ []; operands = []; pending = [] }) levels.kept (
    ap (λ (s : Snapshot). s.processes) (c.part.ensures.parted levels)))
