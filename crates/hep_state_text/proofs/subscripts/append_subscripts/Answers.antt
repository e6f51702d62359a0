use Rattle.std.proofs.Common.{pos, None}
use Rattle.hep_state_text.proofs.Turns.{dimensions-here, subscripts-turn}
use Rattle.hep_state_text.proofs.subscripts.append_subscripts.Goals as goal

pub loop-bound-preserved : goal.loop-bound-preserved
loop-bound-preserved c =
    let l = c.loop-bound in
    record {
      dimensions = (dimensions-here c.args.bounds.now l.bound-index (record { lower = pos 0; upper = None }) c.loop-bound-test.true l.invariant.dimensions).1;
      so_far = subscripts-turn c.args.bounds.now l.bound-index _ l.follows l.rest c.index_in.result c.steps_behind-rest.result c.extent-size.result l.text.items c.append_subscript.new.text.items _
          c.loop-bound-test.true c.extent-size.ensures.size c.index_in.ensures c.steps_behind-rest.ensures c.in_ok-append_subscript.ensures l.invariant.so_far;
    }
