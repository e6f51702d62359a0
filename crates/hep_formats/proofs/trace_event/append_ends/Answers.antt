use Rattle.std.proofs.Common.{◌∙◌, ◌++◌, ◌-◌, List, ℕ, ap, arith}
use Rattle.hep_formats.specs.TraceEvents.{ends}
use Rattle.hep_formats.proofs.Ends.{one_more}
use Rattle.hep_formats.proofs.trace_event.append_ends.Goals as goal

pub loop-left-preserved : goal.loop-left-preserved
loop-left-preserved c =
    let left = c.loop-left.left in
    ap (λ (t : List ℕ). t ++ ends c.args.p c.args.time (left - 1)) c.in_ok-append_end.ensures
    ∙ one_more c.loop-left.text.items c.args.p c.args.time left (omega (arith, c.loop-left-test.true))
    ∙ c.loop-left.invariant
