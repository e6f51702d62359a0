use Rattle.std.proofs.Common.{◌≡◌, ◌+◌, ◌-◌, ◌<◌, ◌≤◌, suc, ◌++◌, ◌∙◌, length, sym, ap, subst, arith}
use Rattle.hep_core.specs.ProcessPositions.{whereabouts_by}
use Rattle.hep_core.specs.CoreValues.{state_of}
use Rattle.hep_dump.specs.PendingCalls.{all_wants_notes, wants_from, wants_notes}
use Rattle.hep_dump.proofs.Places.{none_wanted, wanted_turn}
use Rattle.hep_dump.proofs.pending_calls.append_all_wants.Goals as goal

pub loop-before-preserved : goal.loop-before-preserved
loop-before-preserved c =
    let core = c.args.core.now.core in
    let b = c.loop-before.before in
    let n = length (state_of core).processes in
    let found = c.loop-before.text.items in
    let next = c.append_wants_of.new.text.items in
    let whole = c.args.text.now.items ++ all_wants_notes core.program core.cells core.history in
    let one : b + 1 ≡ suc b = omega arith in
    let below : b < n = omega (arith, c.loop-before-test.true, c.made-before-end.ensures) in
    let place = c.whereabouts.ensures ∙ ap (λ p. whereabouts_by core.program p (state_of core)) one in
    let appended = c.in_ok-append_wants_of.ensures ∙ ap (λ w. found ++ wants_notes core.program core.cells w) place in
    subst (λ m. next ++ wants_from core.program core.cells core.history (suc m) (n - m) ≡ whole) (sym one) (
    wanted_turn core.program core.cells core.history b n found next whole below c.loop-before.invariant appended)

pub returns : goal.returns
returns c =
    let core = c.args.core.now.core in
    let b = c.loop-before.before in
    let n = length (state_of core).processes in
    let over : n ≤ b = omega (arith, c.loop-before-test.false, c.made-before-end.ensures) in
    none_wanted core.program core.cells core.history b n c.loop-before.text.items _ over c.loop-before.invariant
