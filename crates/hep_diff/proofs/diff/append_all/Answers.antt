use Rattle.std.proofs.Common.{◌≡◌, ◌+◌, ◌-◌, ◌<◌, ◌++◌, ◌∙◌, max, sym, ap, subst, arith, append-nil}
use Rattle.hep_diff.specs.Differences.{made_in, processes_from, processes_text}
use Rattle.hep_diff.proofs.Sides.{both-made, one-more-process}
use Rattle.hep_diff.proofs.diff.append_all.Goals as goal

pub loop-before-init : goal.loop-before-init
loop-before-init c front entries others h k =
    let program = c.args.first.now.core.core.program in
    let count = max (made_in program entries) (made_in program others) in
    let all : count - 0 ≡ count = omega arith in
    ap (λ n. c.args.text.now.items ++ processes_from program entries others front 1 n) all

pub loop-before-preserved : goal.loop-before-preserved
loop-before-preserved c front entries others h k =
    let program = c.args.first.now.core.core.program in
    let count = max (made_in program entries) (made_in program others) in
    let b = c.loop-before.before in
    let end : c.max-before-end.result ≡ count =
    c.max-before-end.ensures ∙ (λ i. max (c.made.ensures i) (c.made-2.ensures i))
    ∙ both-made c.args.first.now.core.core c.args.second.now.core.core entries others h.replayed k.replayed c.requires.same in
    one-more-process program entries others front b count (c.args.text.now.items ++ processes_text program entries others front) c.loop-before.text.items c.append_one.new.text.items
    (subst (λ n. b < n) end c.loop-before-test.true) (c.loop-before.invariant front entries others h k) (c.in_ok-append_one.ensures front entries others h k)

pub returns : goal.returns
returns c front entries others h k =
    let program = c.args.first.now.core.core.program in
    let count = max (made_in program entries) (made_in program others) in
    let b = c.loop-before.before in
    let text = c.loop-before.text.items in
    let end : c.max-before-end.result ≡ count =
    c.max-before-end.ensures ∙ (λ i. max (c.made.ensures i) (c.made-2.ensures i))
    ∙ both-made c.args.first.now.core.core c.args.second.now.core.core entries others h.replayed k.replayed c.requires.same in
    let none : count - b ≡ 0 = omega (arith, c.loop-before-test.false, end) in
    sym (append-nil text) ∙ ap (λ n. text ++ processes_from program entries others front (b + 1) n) (sym none)
    ∙ c.loop-before.invariant front entries others h k
