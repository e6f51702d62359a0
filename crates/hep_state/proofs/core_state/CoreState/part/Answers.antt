use Rattle.std.proofs.Common.{◌≡◌, ◌≤◌, List, [], ◌∷◌, ◌++◌, reverse, ap, ◌∙◌, arith, slice_set, vec_capacity}
use Rattle.hep_code.specs.Words.{deepest}
use Rattle.hep_step.specs.Simulation.{unit_code}
use Rattle.hep_proc.specs.declared.process.Local.{Local}
use Rattle.hep_proc.specs.declared.process.Process.{Process}
use Rattle.hep_proc.specs.Nodes.{nodes_of}
use Rattle.hep_proc.specs.Stacks.{Stack, stack_of}
use Rattle.hep_state.specs.declared.core_state.CoreState.{CoreState}
use Rattle.hep_state.specs.Words.{HasRoom, snapshot_of, stacks_of}
use Rattle.hep_state.proofs.ProcessNumbers.{more-stacks}
use Rattle.hep_state.proofs.Processes.{all-set, numbered-set, process-at, room-alone, room-fewer, some-levels-at, stacks-set}
use Rattle.hep_state.proofs.UnchangedStates.{rooms-more}
use Rattle.hep_state.proofs.core_state.CoreState.part.Goals.{After-admit}
use Rattle.hep_state.proofs.core_state.CoreState.part.Goals as goal

pub place-at-requires : goal.place-at-requires
place-at-requires c = record { numbers = c.requires.numbers; living = c.requires.levels }

pub leave-level-requires : goal.leave-level-requires
leave-level-requires c =
    record { some = some-levels-at (process-at c.args.self.now c.args.p c.requires.numbers c.place-at.ensures c.requires.levels.kept c.index_mut-parting.ensures.value); out = tt }

-- the process that is made, and its one level
module _ (c : After-admit) where
  abbrev pub made : Process
  made = record c.args.process { levels = c.append.new.items }

  abbrev pub level : Local
  level = record c.leave-level.result { index = c.args.index }

  pub alone : made.levels.items ≡ level ∷ []
  alone = c.append.ensures ∙ ap (λ (ls : List Local). ls ++ level ∷ []) c.requires.empty.0

pub returns-clause-parted : goal.returns-clause-parted
returns-clause-parted c levels =
    let old = c.args.self.now in
    let r = c.leave-level.new.process in
    let it = process-at old c.args.p c.requires.numbers c.place-at.ensures levels.kept c.index_mut-parting.ensures.value in
    let same = c.leave-level.ensures.level levels.level levels.below levels.operands levels.pending it.stack in
    let same_number = c.leave-level.ensures.number in
    let own = stacks-set old c.args.p r (record { levels = levels.below; operands = []; pending = levels.pending }) c.requires.numbers it same_number (c.leave-level.ensures.stack levels.level levels.below levels.operands levels.pending it.stack) in
    let last : Stack = record { levels = record levels.level { index = c.args.index } ∷ []; operands = []; pending = [] } in
    let fresh : stack_of (made c) ≡ last =
    λ i. record { levels = (ap reverse (alone c) ∙ ap (λ (l : Local). record l { index = c.args.index } ∷ []) same) i; operands = c.requires.empty.1 i; pending = c.requires.empty.2 i } in
    let rest = slice_set old.processes.items c.place-at.result r in
    let stacks = (λ i. stacks_of (c.admit.ensures.added i) (c.admit.ensures.made i)) ∙ (more-stacks rest old.made (made c) last (numbered-set old c.args.p r c.requires.numbers it same_number) c.requires.next fresh ∙ ap (λ (ks : List Stack). ks ++ last ∷ []) own) in
    let frames = c.leave-level.ensures.frames in
    ap snapshot_of c.admit.ensures.others ∙ (λ i. record (snapshot_of old) { arena = (frames i).arena; nodes = nodes_of (frames i).nodes; processes = stacks i })

pub returns-clause-rooms : goal.returns-clause-rooms
returns-clause-rooms c program cells h levels deep =
    let old = c.args.self.now in
    let q = c.index_mut-parting.result.now in
    let r = c.leave-level.new.process in
    let it = process-at old c.args.p c.requires.numbers c.place-at.ensures levels.kept c.index_mut-parting.ensures.value in
    let same = c.leave-level.ensures.level levels.level levels.below levels.operands levels.pending it.stack in
    let others = all-set (HasRoom program) old.processes.items c.place-at.result r h.room (room-fewer program q r c.leave-level.result c.leave-level.ensures.fewer c.leave-level.ensures.capacity (h.room c.place-at.result q it.there)) in
    let enough : deepest (unit_code program (level c).unit) ≤ vec_capacity (made c).operands = omega (arith, ap (λ (l : Local). deepest (unit_code program l.unit)) same, deep) in
    rooms-more program cells old c.admit.new.self (slice_set old.processes.items c.place-at.result r) (made c) c.admit.ensures.added c.admit.ensures.made c.requires.next (ap (λ (m : CoreState). m.passing) c.admit.ensures.others)
    (numbered-set old c.args.p r c.requires.numbers it c.leave-level.ensures.number) others (room-alone program (made c) (level c) (alone c) enough) h
