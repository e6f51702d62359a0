use Rattle.std.proofs.Common.{true, ◌≡◌, ◌+◌, ◌≤◌, List, [], ◌∷◌, ◌++◌, length, refl, reverse, sym, ap, ◌∙◌, subst, arith, slice_set, vec_capacity, vec_len}
use Rattle.hep_machine.specs.Words.{with_numbered}
use Rattle.hep_code.specs.Words.{deepest}
use Rattle.hep_proc.specs.Nodes.{nodes_of}
use Rattle.hep_step.specs.Simulation.{unit_code}
use Rattle.hep_step.specs.declared.call_kind.CallKind.TheVariants.{Creates}
use Rattle.hep_proc.specs.declared.process.Local.{Local}
use Rattle.hep_state.specs.declared.core_state.CoreState.{CoreState}
use Rattle.hep_proc.specs.declared.process.Process.{Process}
use Rattle.hep_proc.specs.Stacks.{Stack, stack_of, stack_with}
use Rattle.hep_state.specs.Words.{HasMadeTurn, HasRoom, entered_level, snapshot_made_by, snapshot_of, stacks_of, turn_of}
use Rattle.hep_state.proofs.BegunActivations.{made-shown}
use Rattle.hep_state.proofs.OtherProcesses.{more-beside}
use Rattle.hep_state.proofs.ProcessNumbers.{more-stacks}
use Rattle.hep_state.proofs.Processes.{all-set, numbered-set, numbers-still, process-still, room-alone, room-moved, stacks-set, some-levels-at}
use Rattle.hep_state.proofs.UnchangedStates.{rooms-begun, rooms-more}
use Rattle.hep_state.proofs.core_state.CoreState.create.Goals as goal

pub begin_activation-level-requires : goal.begin_activation-level-requires
begin_activation-level-requires c =
    let r = c.requires.creating in
    record { making = (Creates, r.0, r.1, r.2, r.3, c.args.index, r.4); few = c.requires.few; countable = c.requires.countable; gap = c.requires.gap; node = c.requires.node; numbers = c.requires.numbers }

pub place-at-requires : goal.place-at-requires
place-at-requires c = record { numbers = c.requires.numbers; living = c.requires.creating.4.making.levels }

pub index_mut-requires : goal.index_mut-requires
index_mut-requires c =
    let same = ap (λ (m : CoreState). m.processes.items) c.begin_activation-level.ensures.others in
    omega (arith, c.place-at.ensures.inside, ap length same)

pub go_on-requires : goal.go_on-requires
go_on-requires c =
    let same = ap (λ (m : CoreState). m.processes.items) c.begin_activation-level.ensures.others in
    let made = ap (λ (m : CoreState). m.made) c.begin_activation-level.ensures.others in
    some-levels-at (process-still c.args.self.now c.begin_activation-level.new.self c.args.p same made c.requires.numbers c.place-at.ensures c.requires.creating.4.making.levels.kept c.index_mut.ensures.value)

-- it has the next number
pub admit-requires : goal.admit-requires
admit-requires c = record { next = c.requires.next ∙ sym (ap (λ (m : CoreState). m.made + 1) c.begin_activation-level.ensures.others); room = omega (arith, c.requires.process, ap (λ (m : CoreState). vec_len m.processes) c.begin_activation-level.ensures.others, ap (λ (m : CoreState). vec_capacity m.processes) c.begin_activation-level.ensures.others) }

pub returns : goal.returns
returns c =
    let p = c.args.p in
    let u = c.args.called.unit in
    let old = c.args.self.now in
    let m = snapshot_of old in
    let new = c.begin_activation-level.new.self in
    let begun = c.begin_activation-level.ensures in
    let level = c.begin_activation-level.result in
    let q = c.index_mut.result.now in
    let r = c.go_on.new.self in
    let made : Process = record c.args.process { levels = c.append.new.items } in
    let arena = new.frames.arena in
    let nodes = nodes_of new.frames.nodes in
    let same = ap (λ (n : CoreState). n.processes.items) begun.others in
    let count = ap (λ (n : CoreState). n.made) begun.others in
    let numbers = numbers-still old new same count c.requires.numbers in
    let number = c.go_on.ensures.number in
    let next : made.number ≡ new.made + 1 = c.requires.next ∙ sym (ap (λ n. n + 1) count) in
    let added = c.admit.ensures in
    let rest = slice_set new.processes.items c.place-at.result r in
    let alone : made.levels.items ≡ level ∷ [] = c.append.ensures ∙ ap (λ (ls : List Local). ls ++ level ∷ []) c.requires.empty.0 in
    record {
      stepped = λ program cells choices kept makes.
          let t = turn_of makes.making in
          let e = makes.making.holds in
          let it = process-still old new p same count c.requires.numbers c.place-at.ensures makes.making.levels.kept c.index_mut.ensures.value in
          let k : Stack = record { levels = record t.level { index = c.args.index } ∷ t.below; operands = []; pending = t.pending } in
          let own = stacks-set new p r k numbers it number (c.go_on.ensures.stack t.level t.below t.operands t.pending it.stack) ∙ (λ i. with_numbered (stacks_of (same i) (count i)) p k) in
          let entered : level ≡ entered_level program u level.key = begun.level ∙ (λ i. record { key = level.key; unit = u; kept = 0; index = makes.unit.entry_is i }) in
          let last : Stack = record { levels = entered_level program u level.key ∷ []; operands = []; pending = [] } in
          let fresh : stack_of made ≡ last = λ i. record { levels = (ap reverse alone ∙ ap (λ l. l ∷ []) entered) i; operands = c.requires.empty.1 i; pending = c.requires.empty.2 i } in
          let stacks = (λ i. stacks_of (added.added i) (added.made i)) ∙ (more-stacks rest new.made made last (numbered-set new p r numbers it number) next fresh ∙ ap (λ (ks : List Stack). ks ++ last ∷ []) own) in
          let shown = ap snapshot_of added.others ∙ (ap (λ (n : CoreState). snapshot_of (record n { processes = c.admit.new.self.processes; made = c.admit.new.self.made })) begun.others ∙ (λ i. record (snapshot_made_by true t u level.key kept c.args.index arena nodes) { processes = stacks i })) in
          subst (HasMadeTurn t) (sym shown) (
          made-shown e.turning u e.actuals e.binding Creates level.key kept c.args.index arena nodes (begun.entered Creates program cells choices kept c.args.index makes) e.after);
      rooms = λ program cells h deep.
          let e = c.requires.creating.4.making.levels in
          let it = process-still old new p same count c.requires.numbers c.place-at.ensures e.kept c.index_mut.ensures.value in
          let had = rooms-begun program cells old new begun.others h in
          let others = all-set (HasRoom program) new.processes.items c.place-at.result r had.room (room-moved program q r e.level c.args.index e.below e.operands [] e.pending it.stack (c.go_on.ensures.stack e.level e.below e.operands e.pending it.stack) (omega (arith, c.go_on.ensures.operands)) (had.room c.place-at.result q it.there)) in
          let unit = ap (λ (l : Local). deepest (unit_code program l.unit)) begun.level in
          let enough : deepest (unit_code program level.unit) ≤ vec_capacity made.operands = omega (arith, unit, deep) in
          rooms-more program cells new c.admit.new.self rest made added.added added.made next (ap (λ (n : CoreState). n.passing) added.others) (numbered-set new p r numbers it number) others (room-alone program made level alone enough) had;
      made = added.made ∙ ap (λ n. n + 1) count;
      others =
          let e = c.requires.creating.4.making.levels in
          let it = process-still old new p same count c.requires.numbers c.place-at.ensures e.kept c.index_mut.ensures.value in
          let own = stacks-set new p r (stack_of r) numbers it number refl ∙ (λ i. with_numbered (stacks_of (same i) (count i)) p (stack_of r)) in
          let stacks = (λ i. stacks_of (added.added i) (added.made i)) ∙ (more-stacks rest new.made made (stack_of made) (numbered-set new p r numbers it number) next refl ∙ ap (λ (ks : List Stack). ks ++ stack_of made ∷ []) own) in
          more-beside p m.processes _ (stack_with e.level e.below e.operands e.pending) (stack_of r) (stack_of made) e.kept stacks;
    }
