use Rattle.std.proofs.Common.{◌∙◌, ◌++◌, List, ℕ, ap, sym}
use Rattle.std.proofs.lemmas.Result.{on_ok_weaker}
use Rattle.hep_trace.proofs.ObservedSteps.{faulted, step-seen, wants-so}
use Rattle.hep_trace.proofs.turn_line.append_deed.Goals as goal

pub returns-then-is_some : goal.returns-then-is_some
returns-then-is_some c =
    on_ok_weaker c.append_wait.result (λ told old t is h.
    let wait = wants-so old t c.args.before.now c.args.core.now.core h c.args.p is (sym c.want.ensures.listed ∙ sym c.is_some.ensures ∙ c.if-is_some.true) in
    told wait.0 wait.1 ∙ ap (λ (xs : List ℕ). c.args.text.now.items ++ xs) wait.2) c.append_wait.ensures

pub append_step-requires : goal.append_step-requires
append_step-requires c =
    let t = c.requires.1 in
    let h = c.requires.3 in (
      c.requires.0,
      t,
      c.requires.2,
      step-seen c.requires.0 t c.args.before.now c.args.core.now.core h c.args.p c.requires.2 (sym c.want.ensures.listed ∙ sym c.is_some.ensures ∙ c.if-is_some.false) (
          sym (c.fault_since.ensures t.state.faults h.before.faults) ∙ c.in-None.is),
    )

pub returns-in-Some : goal.returns-in-Some
returns-in-Some c =
    on_ok_weaker c.append_fault.result (λ told old t is h.
    told
    ∙ ap (λ (xs : List ℕ). c.args.text.now.items ++ xs) (
    faulted old t c.args.before.now c.args.core.now.core h c.args.p is (sym c.want.ensures.listed ∙ sym c.is_some.ensures ∙ c.if-is_some.false) c.in-Some.kind (
    sym (c.fault_since.ensures t.state.faults h.before.faults) ∙ c.in-Some.is))) c.append_fault.ensures

pub returns-in-None : goal.returns-in-None
returns-in-None c =
    on_ok_weaker c.append_step.result (λ told old t is h.
    told old t is (
    step-seen old t c.args.before.now c.args.core.now.core h c.args.p is (sym c.want.ensures.listed ∙ sym c.is_some.ensures ∙ c.if-is_some.false) (
    sym (c.fault_since.ensures t.state.faults h.before.faults) ∙ c.in-None.is))) c.append_step.ensures
