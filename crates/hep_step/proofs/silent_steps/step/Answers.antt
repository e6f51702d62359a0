use Rattle.std.proofs.Common.{refl, sym, ◌∙◌, vec_capacity}
use Rattle.hep_step.specs.PerformedSteps.{snapshot}
use Rattle.hep_step.proofs.PlainSteps.{gone-no-further, gone-so}
use Rattle.hep_step.proofs.silent_steps.step.Goals as goal

pub perform-performed-requires : goal.perform-performed-requires
perform-performed-requires c =
    record {
      ready =
          c.requires.ready (snapshot c.args.arena.now.contents c.settle.new.operands.items c.settle.new.index) (vec_capacity c.settle.new.operands)
          (record { contents = refl; same = c.settle.ensures.same })
          c.settle.ensures.capacity;
    }

pub returns-then-not-is_plain-clause-stepped : goal.returns-then-not-is_plain-clause-stepped
returns-then-not-is_plain-clause-stepped c =
    gone-no-further c.args.activation.now.code.now c.args.activation.now.arrays.now c.args.activation.now.frame.first (snapshot c.args.arena.now.contents c.args.standing.now.operands.items c.args.standing.now.index)
    (snapshot c.args.arena.now.contents c.settle.new.operands.items c.settle.new.index)
    (snapshot c.args.arena.now.contents c.settle.new.operands.items c.settle.new.index)
    (record { contents = refl; same = c.settle.ensures.same }) c.settle.ensures.settled
    (sym c.is_plain.ensures ∙ c.if-not-is_plain.true)

pub returns-clause-stepped : goal.returns-clause-stepped
returns-clause-stepped c =
    gone-so c.args.activation.now.code.now c.args.activation.now.arrays.now c.args.activation.now.frame.first (snapshot c.args.arena.now.contents c.args.standing.now.operands.items c.args.standing.now.index)
    (snapshot c.args.arena.now.contents c.settle.new.operands.items c.settle.new.index)
    (snapshot c.perform-performed.new.arena.contents c.perform-performed.new.standing.operands.items c.perform-performed.new.standing.index)
    (record { contents = refl; same = c.settle.ensures.same }) c.settle.ensures.settled
    (sym c.is_plain.ensures ∙ c.if-not-is_plain.false)
    c.perform-performed.ensures.arena.cells c.perform-performed.result c.perform-performed.ensures.performed c.perform-performed.ensures.memory c.moved.result c.moved.ensures
