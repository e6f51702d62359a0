use Rattle.std.proofs.Common.{◌≡◌, ◌+◌, ◌-◌, ◌*◌, ◌<◌, ◌≤◌, ◌/◌, suc, min, take, sym, ap, ◌∙◌, arith}
use Rattle.hep_history.specs.Runs.{entries_of}
use Rattle.hep_races.specs.EntryNumbers.{entry_from}
use Rattle.hep_races.proofs.EntryNumbers.{behind-run, in-run}
use Rattle.hep_races.proofs.entry_number.entry_number.Goals as goal

pub returns-then-left-steps : goal.returns-then-left-steps
returns-then-left-steps c =
    let run = c.in-Some.run' in
    let before = c.loop-run.before in
    let left = c.loop-run.left in
    let k = c.min-some.result in
    let count = c.min-entries.result - before in
    let least : k ≡ min count run.count = omega (arith, c.min-some.ensures, c.from.ensures) in
    let steps : c.from-in-loop-run.result * k ≡ run.steps * k = ap (λ s. s * k) c.from-in-loop-run.ensures in
    let less : left < run.steps * k = omega (arith, steps, c.if-left-steps.true) in
    let here : before + left / c.from-then-left-steps.result + 1 ≡ suc before + left / run.steps
    = ap (λ s. before + left / s + 1) c.from-then-left-steps.ensures ∙ omega arith in
    here
    ∙ sym (in-run run c.loop-run.run-iterator c.next.new.self (suc before) count left k c.in-Some.ensures.steps least less)
    ∙ c.loop-run.invariant.is

pub loop-run-preserved : goal.loop-run-preserved
loop-run-preserved c =
    let run = c.in-Some.run' in
    let before = c.loop-run.before in
    let left = c.loop-run.left in
    let k = c.min-some.result in
    let count = c.min-entries.result - before in
    let least : k ≡ min count run.count = omega (arith, c.min-some.ensures, c.from.ensures) in
    let steps : c.from-in-loop-run.result * k ≡ run.steps * k = ap (λ s. s * k) c.from-in-loop-run.ensures in
    let few : run.steps * k ≤ left = omega (arith, steps, c.if-left-steps.false) in
    let behind = behind-run run c.loop-run.run-iterator c.next.new.self (suc before) count left k c.in-Some.ensures.steps least few in
    let entries : c.min-entries.result - (before + k) ≡ count - k = omega arith in
    let number : suc (before + k) ≡ suc before + k = omega arith in
    record {
      is =
          (λ i. entry_from (number i) (take (entries i) (entries_of c.next.new.self)) (left - steps i))
          ∙ sym behind ∙ c.loop-run.invariant.is;
      within = omega (arith, least, c.loop-run.invariant.within);
    }
