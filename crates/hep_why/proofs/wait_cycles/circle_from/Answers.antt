use Rattle.std.proofs.Common.{◌≡◌, ℕ, List, Option, Some, length, ◌+◌, ◌-◌, ◌<◌, suc, ◌++◌, sym, ap, ◌∙◌, arith}
use Rattle.std.specs.Option.{option_map}
use Rattle.hep_why.specs.WaitCycles.{circle_from}
use Rattle.hep_why.proofs.CycleLinks.{closes, ends, goes_on, leaves, no-more}
use Rattle.hep_why.proofs.wait_cycles.circle_from.Goals as goal
use Rattle.hep_source.proofs.Tests.{none-if_not}

left : (n i : ℕ) → i < n → suc (n - (i + 1)) ≡ n - i
left n i less = omega (arith, less)

-- what is left to look for, by another number for how many
same : (nexts : List (Option ℕ)) (first : ℕ) (before : List ℕ) (at k n : ℕ) → k ≡ n
    → option_map (λ (js : List ℕ). before ++ js) (circle_from nexts first k at)
    ≡ option_map (λ (js : List ℕ). before ++ js) (circle_from nexts first n at)
same nexts first before at k n e = ap (λ m. option_map (λ (js : List ℕ). before ++ js) (circle_from nexts first m at)) e

pub returns-in_default : goal.returns-in_default
returns-in_default c =
    let nexts = c.args.nexts.now in
    let n = length nexts in
    let before = c.loop.indexes.items in
    sym (ends nexts c.args.first before (n - (c.loop.counter + 1)) c.loop.at (sym c.next_at.ensures ∙ none-if_not c.next_at.result c.in_default.not-Some))
    ∙ same nexts c.args.first before c.loop.at _ _ (left n c.loop.counter c.loop-test.true)
    ∙ c.loop.invariant

pub returns-then-next-first : goal.returns-then-next-first
returns-then-next-first c =
    let nexts = c.args.nexts.now in
    let n = length nexts in
    let before = c.loop.indexes.items in
    ap (λ (is : List ℕ). Some is) c.in_ok-push.ensures.items
    ∙ sym
    (closes nexts c.args.first before (n - (c.loop.counter + 1)) c.loop.at c.in-Some.next (sym c.in-Some.ensures) c.if-next-first.true)
    ∙ same nexts c.args.first before c.loop.at _ _ (left n c.loop.counter c.loop-test.true)
    ∙ c.loop.invariant

pub returns-then-next-first-2 : goal.returns-then-next-first-2
returns-then-next-first-2 c =
    let nexts = c.args.nexts.now in
    let n = length nexts in
    let before = c.loop.indexes.items in
    sym (leaves nexts c.args.first before (n - (c.loop.counter + 1)) c.loop.at c.in-Some.next (sym c.in-Some.ensures) c.if-next-first-2.true)
    ∙ same nexts c.args.first before c.loop.at _ _ (left n c.loop.counter c.loop-test.true)
    ∙ c.loop.invariant

pub loop-preserved : goal.loop-preserved
loop-preserved c =
    let nexts = c.args.nexts.now in
    let n = length nexts in
    let before = c.loop.indexes.items in
    let m = n - (c.loop.counter + 1) in
    let above : c.args.first < c.in-Some.next = omega (arith, c.if-next-first.false, c.if-next-first-2.false) in
    ap
    (λ (is : List ℕ). option_map (λ (js : List ℕ). is ++ js) (circle_from nexts c.args.first m c.in-Some.next)) c.in_ok-push.ensures.items
    ∙ sym (goes_on nexts c.args.first before m c.loop.at c.in-Some.next (sym c.in-Some.ensures) above)
    ∙ same nexts c.args.first before c.loop.at _ _ (left n c.loop.counter c.loop-test.true)
    ∙ c.loop.invariant

pub returns : goal.returns
returns c =
    let nexts = c.args.nexts.now in
    let before = c.loop.indexes.items in
    let none : 0 ≡ length nexts - c.loop.counter = omega (arith, c.loop-test.false) in
    sym (no-more nexts c.args.first before c.loop.at) ∙ same nexts c.args.first before c.loop.at _ _ none ∙ c.loop.invariant
