use Rattle.std.proofs.Common.{◌≡◌, ◌∙◌, ◌+◌, ◌<◌, get_or, length, ap, sym, subst, arith}
use Rattle.hep_control.specs.Loops.{terminal_at, with_loop, loop_met}
use Rattle.hep_control.proofs.InnermostLoops.{Passed, one-passed}
use Rattle.hep_control.proofs.loops.loops_of.Goals as goal

pub loop-index-preserved : goal.loop-index-preserved
loop-index-preserved c =
    let unit = c.args.labels.now in
    let s = c.index-unit-index.result in
    let index = c.loop-index.index in
    let is : s ≡ get_or unit index s = c.index-unit-index.is ∙ ap (λ u. get_or u index s) c.unit-unit.ensures in
    let less : index < length unit = omega (arith, c.loop-index-test.true, ap length c.unit-unit.ensures) in
    let new : c.enter.new.innermost.items ≡ with_loop c.loop-index.innermost.items index (terminal_at unit s) =
    c.enter.ensures.innermost ∙ ap (with_loop c.loop-index.innermost.items index) c.terminal_at-terminal.ensures in
    let met : c.enter.result ≡ loop_met c.loop-index.innermost.items index (terminal_at unit s) =
    c.enter.ensures.met ∙ ap (loop_met c.loop-index.innermost.items index) c.terminal_at-terminal.ensures in
    let done = one-passed unit index s c.loop-index.innermost.items c.enter.new.innermost.items c.loop-index.outer.items c.enter.result less is new met c.loop-index.invariant in
    subst (λ xs. Passed unit (index + 1) c.enter.new.innermost.items xs) (sym c.in_ok-push.ensures.items) done
