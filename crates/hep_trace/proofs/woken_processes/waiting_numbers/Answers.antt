use Rattle.std.proofs.Common.{◌≡◌, ◌+◌, ◌-◌, ◌++◌, ◌∷◌, [], suc, length, sym, ap, ◌∙◌, append-nil, append_assoc, arith}
use Rattle.hep_core.specs.CoreValues.{state_of}
use Rattle.hep_core.proofs.Histories.{progress-state}
use Rattle.hep_machine.specs.Words.{State}
use Rattle.hep_trace.specs.WokenProcesses.{listed_from}
use Rattle.hep_trace.proofs.ListedWaits.{first-from, none-from, waiting-listed}
use Rattle.hep_trace.proofs.woken_processes.waiting_numbers.Goals as goal
use Rattle.hep_source.proofs.Tests.{none-if_not}

pub loop-listed-init : goal.loop-listed-init
loop-listed-init c =
    let core = c.args.core.now.core in
    let n = length (state_of core).processes in
    let all : n - 0 ≡ n = omega arith in
    ap (λ xs. xs ++ listed_from core 1 (n - 0)) c.new-numbers.ensures.items ∙ ap (listed_from core 1) all

pub loop-listed-smaller : goal.loop-listed-smaller
loop-listed-smaller c =
    let core = c.args.core.now.core in
    let n = length (state_of core).processes in
    let last = c.loop-listed.last in
    let all = waiting-listed core.program core.cells core.limit core.history c.headline.ensures.legal in
    let first = first-from core.program core.history all (suc last) (n - last) c.in-Some.listed (sym c.in-Some.ensures) in
    omega (arith, first.least, first.most)

pub loop-listed-preserved : goal.loop-listed-preserved
loop-listed-preserved c =
    let core = c.args.core.now.core in
    let n = length (state_of core).processes in
    let last = c.loop-listed.last in
    let listed = c.in-Some.listed in
    let all = waiting-listed core.program core.cells core.limit core.history c.headline.ensures.legal in
    let first = first-from core.program core.history all (suc last) (n - last) listed (sym c.in-Some.ensures) in
    let left : suc last + (n - last) - suc listed.process ≡ n - listed.process = omega (arith, first.least, first.most) in
    let rest = listed_from core (suc listed.process) (n - listed.process) in
    let old = c.loop-listed.numbers.items in
    ap (λ xs. xs ++ rest) c.in_ok-push.ensures.items
    ∙ append_assoc old (listed.process ∷ []) rest
    ∙ ap (λ ys. old ++ ys) (sym (first.numbers ∙ ap (λ m. listed.process ∷ listed_from core (suc listed.process) m) left))
    ∙ c.loop-listed.invariant

pub returns : goal.returns
returns c =
    let core = c.args.core.now.core in
    let n = length (state_of core).processes in
    let last = c.loop-listed.last in
    let all = waiting-listed core.program core.cells core.limit core.history c.headline.ensures.legal in
    let none = none-from core.program core.history all (suc last) (n - last) (sym c.waiting_after.ensures ∙ none-if_not c.waiting_after.result c.in_default.not-Some) in
    sym (append-nil c.loop-listed.numbers.items)
    ∙ ap (λ xs. c.loop-listed.numbers.items ++ xs) (sym none)
    ∙ c.loop-listed.invariant
    ∙ ap (λ (s : State). listed_from core 1 (length s.processes)) (sym (progress-state core.program core.history))
