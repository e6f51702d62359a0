use Rattle.std.proofs.Common.{◌++◌, ◌+◌, ◌∙◌, sym, drop, false, None, ℕ, List}
use Rattle.hep_state_text.specs.Contents.{runs_text}
use Rattle.hep_state_text.proofs.Turns.{run-ends, run-goes_on}
use Rattle.hep_state_text.proofs.variable.append_variable.Goals.{then-ends_run+in_ok-append_run, else-ends_run}
use Rattle.hep_state_text.proofs.variable.append_variable.Goals as goal

pub loop-index-preserved : goal.loop-index-preserved
loop-index-preserved c =
    let l = c.loop-index in
    let v = c.args.variable.now in
    let slots = c.args.slots.now in
    let rest : ℕ → List ℕ = λ first. runs_text v.name v.asynchronous v.bounds.items first (l.index + 1) (drop (l.index + 1) slots) in
    elim c.if-ends_run.branch [
      | then-ends_run+in_ok-append_run w ↦
          (λ j. (w.text-is j).items ++ rest (w.first-is j))
          ∙ run-ends v.name v.asynchronous v.bounds.items slots l.index _ l.first c.loop-index-test.true l.text.items w.append_run.new.text.items _ (sym c.ends_run.ensures ∙ w.if-ends_run.true) w.in_ok-append_run.ensures l.invariant
      | else-ends_run w ↦
          (λ j. (w.text-is j).items ++ rest (w.first-is j))
          ∙ run-goes_on v.name v.asynchronous v.bounds.items slots l.index (record { value = None; full = false }) l.first c.loop-index-test.true l.text.items _ (sym c.ends_run.ensures ∙ w.if-ends_run.false) l.invariant
    ]
