use Rattle.std.proofs.Common.{◌≡◌, ◌+◌, ◌∙◌, sym, subst, arith, vec_capacity}
use Rattle.hep_step.specs.PerformedSteps.{snapshot}
use Rattle.hep_step.specs.SilentSteps.{CanGoOn, Goes}
use Rattle.hep_fast.specs.Interpreter.{IsTabled}
use Rattle.hep_fast.proofs.StepRows.{as-many-cells, with-more-room}
use Rattle.hep_fast.proofs.Steps.{goes-on}
use Rattle.hep_advance.proofs.bounded_run.step_once.Goals as goal

pub returns-then-made-eq1-clause-moved : goal.returns-then-made-eq1-clause-moved
returns-then-made-eq1-clause-moved c =
    let stepped = c.step_by_table-made.ensures.made.stepped in
    record { gone = stepped.gone; few = stepped.few; all = λ fewer. absurd (omega (arith, fewer, c.if-made-eq1.true)) }

pub move_by_table-requires : goal.move_by_table-requires
move_by_table-requires c =
    let a = c.args.fast.now.activation in
    let start = snapshot c.args.arena.now.contents c.args.operands.now.items c.args.index.now in
    let next = snapshot c.step_by_table-made.new.arena.contents c.step_by_table-made.new.operands.items c.step_by_table-made.new.index in
    let made = c.step_by_table-made.result in
    let stepped = c.step_by_table-made.ensures.made.stepped in
    let before = vec_capacity c.args.operands.now in
    let after = vec_capacity c.step_by_table-made.new.operands in
    record {
      tabled = subst (IsTabled c.args.fast.now) (sym (as-many-cells a.code.now a.arrays.now a.frame.first start next made stepped.gone)) c.requires.tabled;
      ready = λ n t goes.
          subst (λ holes. CanGoOn a.code.now a.arrays.now holes a.frame after t) (sym c.step_by_table-made.ensures.holes) (
          with-more-room a.code.now a.arrays.now c.args.arena.now.holes a.frame before after t c.step_by_table-made.ensures.made.capacity (
          c.requires.ready (made + n) t (goes-on a.code.now a.arrays.now a.frame.first start next t made n stepped.gone goes)));
    }

pub returns-clause-moved : goal.returns-clause-moved
returns-clause-moved c =
    let a = c.args.fast.now.activation in
    let start = snapshot c.args.arena.now.contents c.args.operands.now.items c.args.index.now in
    let next = snapshot c.step_by_table-made.new.arena.contents c.step_by_table-made.new.operands.items c.step_by_table-made.new.index in
    let end = snapshot c.move_by_table.new.arena.contents c.move_by_table.new.operands.items c.move_by_table.new.index in
    let made = c.step_by_table-made.result in
    let stepped = c.step_by_table-made.ensures.made.stepped in
    let moved = c.move_by_table.ensures.moved in
    let more : made + c.move_by_table.result ≡ c.move_by_table.result = omega (arith, stepped.few, c.if-made-eq1.false) in
    record {
      gone = subst (λ n. Goes a.code.now a.arrays.now a.frame.first start n end) more (goes-on a.code.now a.arrays.now a.frame.first start next end made c.move_by_table.result stepped.gone moved.gone);
      few = moved.few;
      all = moved.all;
    }

pub returns-clause-holes : goal.returns-clause-holes
returns-clause-holes c = c.move_by_table.ensures.holes ∙ c.step_by_table-made.ensures.holes

pub returns-clause-capacity : goal.returns-clause-capacity
returns-clause-capacity c = omega (arith, c.move_by_table.ensures.capacity, c.step_by_table-made.ensures.made.capacity)
