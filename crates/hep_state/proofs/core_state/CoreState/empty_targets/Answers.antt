use Rattle.std.proofs.Common.{[], refl, ap, ◌∙◌, arith}
use Rattle.hep_step.specs.PurgeEffects.{purged}
use Rattle.hep_proc.specs.Stacks.{stack_with}
use Rattle.hep_state.specs.Words.{snapshot_of}
use Rattle.hep_state.proofs.Processes.{process-at, room-moved, stacks-set, some-levels-at}
use Rattle.hep_state.proofs.UnchangedStates.{rooms-set}
use Rattle.hep_state.proofs.core_state.CoreState.empty_targets.Goals as goal

pub place-at-requires : goal.place-at-requires
place-at-requires c = record { numbers = c.requires.numbers; living = c.requires.living }

pub go_on-requires : goal.go_on-requires
go_on-requires c = some-levels-at (process-at c.args.self.now c.args.p c.requires.numbers c.place-at.ensures c.requires.living.kept c.index_mut.ensures.value)

pub returns-clause-moved : goal.returns-clause-moved
returns-clause-moved c levels =
    let it = process-at c.args.self.now c.args.p c.requires.numbers c.place-at.ensures levels.kept c.index_mut.ensures.value in
    let stacks = stacks-set c.args.self.now c.args.p c.go_on.new.self (stack_with (record levels.level { index = c.args.index }) levels.below [] levels.pending) c.requires.numbers it c.go_on.ensures.number (c.go_on.ensures.stack levels.level levels.below levels.operands levels.pending it.stack) in
    let contents = c.purge.ensures.contents ∙ ap (λ rs. purged rs c.args.self.now.frames.arena.contents) c.deref.ensures.value in
    λ i. record (snapshot_of c.args.self.now) { arena = record { contents = contents i; holes = c.purge.ensures.holes i }; processes = stacks i }

pub returns-clause-rooms : goal.returns-clause-rooms
returns-clause-rooms c program cells h =
    let e = c.requires.living in
    let q = c.index_mut.result.now in
    let it = process-at c.args.self.now c.args.p c.requires.numbers c.place-at.ensures e.kept c.index_mut.ensures.value in
    rooms-set program cells c.args.self.now _ c.go_on.new.self it c.go_on.ensures.number refl refl refl (
    room-moved program q c.go_on.new.self e.level c.args.index e.below e.operands [] e.pending it.stack (c.go_on.ensures.stack e.level e.below e.operands e.pending it.stack) (omega (arith, c.go_on.ensures.operands)) (h.room c.place-at.result q it.there)) h
