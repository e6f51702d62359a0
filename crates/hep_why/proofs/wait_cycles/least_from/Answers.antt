use Rattle.std.proofs.Common.{◌∙◌, ℕ, ◌+◌, sym, subst, arith}
use Rattle.hep_why.proofs.CycleWalks.{IsAlong, along-all, along-back, along-first, along-none, along-on}
use Rattle.hep_why.proofs.wait_cycles.least_from.Goals as goal
use Rattle.hep_source.proofs.Tests.{none-if_not}

pub loop-init : goal.loop-init
loop-init c = λ first h. along-first c.args.nexts.now first c.args.start h

pub returns-in_default : goal.returns-in_default
returns-in_default c = λ first h.
    along-none c.args.nexts.now first c.args.start h c.loop.counter c.loop.at c.loop.least (c.loop.invariant first h)
    (sym c.next_at.ensures ∙ none-if_not c.next_at.result c.in_default.not-Some)

pub returns-then-next-start : goal.returns-then-next-start
returns-then-next-start c = λ first h.
    along-back c.args.nexts.now first c.args.start h c.loop.counter c.loop.at c.loop.least c.in-Some.next
    (c.loop.invariant first h) (sym c.in-Some.ensures) c.if-next-start.true

pub loop-preserved : goal.loop-preserved
loop-preserved c = λ first h.
    subst (λ (least : ℕ). IsAlong c.args.nexts.now first c.args.start h (c.loop.counter + 1) c.in-Some.next least) (sym c.min-least.ensures)
    (along-on c.args.nexts.now first c.args.start h c.loop.counter c.loop.at c.loop.least c.in-Some.next (c.loop.invariant first h) (sym c.in-Some.ensures))

pub returns : goal.returns
returns c = λ first h.
    along-all c.args.nexts.now first c.args.start h c.loop.counter c.loop.at c.loop.least
    (c.loop.invariant first h) (omega (arith, c.loop-test.false))
