use Rattle.std.proofs.Common.{◌≡◌, ◌∙◌, ◌<◌, ◌++◌, ℕ, List, Vec, Global, length, sym, ap, subst}
use Rattle.std.proofs.lemmas.Option.{none-some, same_Some}
use Rattle.hep_event.specs.NextOperations.{IsNextOperationOf}
use Rattle.hep_conditions.specs.Words.{IsAccepted}
use Rattle.hep_machine.specs.Words.{Units, run, schedule_of, spelling, unit_at, unit_of}
use Rattle.hep_event.specs.NamedVariables.{named_by}
use Rattle.hep_event.specs.Sites.{IsVariableOf}
use Rattle.hep_event.specs.Variables.{AreVariablesOf}
use Rattle.hep_event.proofs.AccessedAhead.{is-named}
use Rattle.hep_state.specs.Words.{IsMachineAfter}
use Rattle.hep_why.specs.WaitNames.{reference_text}
use Rattle.hep_why.proofs.NextNames.{accessed, levels-there, never-none, text-there, unit-there, unit-told, waits-there}
use Rattle.hep_why.proofs.wait_names.called.Goals.{in-Some-name_of+in_ok-append_reference, in_default-name_of}
use Rattle.hep_why.proofs.wait_names.called.Goals as goal

pub returns-in_default : goal.returns-in_default
returns-in_default c =
    let core = c.args.core.now.core in
    let h = waits-there core c.args.p c.requires.waits in
    absurd (never-none core c.args.p h.0 h.1 _ c.whereabouts.ensures c.in_default.is)

pub coming_of-requires-clause-levels : goal.coming_of-requires-clause-levels
coming_of-requires-clause-levels c =
    let core = c.args.core.now.core in
    let h = waits-there core c.args.p c.requires.waits in
    levels-there core.program core.cells (schedule_of core.history) c.machine.result.now c.args.p h.1.top c.machine.ensures.after h.1.lives

pub coming_of-requires-clause-after : goal.coming_of-requires-clause-after
coming_of-requires-clause-after c =
    let core = c.args.core.now.core in
    let m = c.machine.result.now in
    (core.cells, schedule_of core.history, subst (λ (u : Units). IsMachineAfter u core.cells (schedule_of core.history) m) (sym c.image-image.ensures) c.machine.ensures.after)

pub name_of-requires-clause-variables : goal.name_of-requires-clause-variables
name_of-requires-clause-variables c =
    subst (λ (u : Units). AreVariablesOf u c.args.variables.now) (sym c.image-image.ensures) c.requires.variables

pub name_of-requires-clause-unit : goal.name_of-requires-clause-unit
name_of-requires-clause-unit c =
    let core = c.args.core.now.core in
    let h = waits-there core c.args.p c.requires.waits in
    let there =
    unit-there core.program core.cells (schedule_of core.history) c.machine.result.now c.args.p h.1.top c.machine.ensures.after h.1.lives in
    let told = unit-told core c.args.p h.0 h.1 c.in-Some.place _ c.whereabouts.ensures c.in-Some.is in
    subst (λ (u : Units). c.in-Some.place.unit < length u) (sym c.image-image.ensures)
    (subst (λ (n : ℕ). n < length core.program) (sym told) there)

pub returns-in_default-named : goal.returns-in_default-named
returns-in_default-named c =
    let core = c.args.core.now.core in
    let program = core.program in
    let choices = schedule_of core.history in
    let m = c.machine.result.now in
    let coming = c.in_ok-coming.coming in
    let h = waits-there core c.args.p c.requires.waits in
    let law = c.accesses_name_variables.ensures program core.cells choices m c.args.p h.1.top coming h.1.reference (subst IsAccepted c.image-image.ensures c.is_runnable.ensures.accepted) c.machine.ensures.after h.1.lives
    (subst (λ (u : Units). IsNextOperationOf u m c.args.p coming) c.image-image.ensures c.in_ok-coming.ensures)
    (accessed program (run program choices) c.args.p h.0 h.1) in
    absurd (none-some _ (c.in_default-named.ensures ∙ ap (named_by coming.operation) c.deref.ensures.value ∙ law.0))

pub returns : goal.returns
returns c =
    let core = c.args.core.now.core in
    let program = core.program in
    let choices = schedule_of core.history in
    let s = run program choices in
    let m = c.machine.result.now in
    let coming = c.in_ok-coming.coming in
    let h = waits-there core c.args.p c.requires.waits in
    let x = h.1.reference in
    let v = c.in-Some-named.variable in
    let unit = c.in-Some.place.unit in
    let law = c.accesses_name_variables.ensures program core.cells choices m c.args.p h.1.top coming x (subst IsAccepted c.image-image.ensures c.is_runnable.ensures.accepted) c.machine.ensures.after h.1.lives
    (subst (λ (u : Units). IsNextOperationOf u m c.args.p coming) c.image-image.ensures c.in_ok-coming.ensures)
    (accessed program s c.args.p h.0 h.1) in
    let own =
    is-named program (unit_at program (unit_of s h.1.top.0.activation)) x v c.in-Some-named.subscripts.now
    (c.in-Some-named.ensures ∙ ap (named_by coming.operation) c.deref.ensures.value ∙ law.0) law.1 in
    let told = unit-told core c.args.p h.0 h.1 c.in-Some.place _ c.whereabouts.ensures c.in-Some.is in
    let variable =
    subst (λ (u : Units). IsVariableOf u (unit_at u unit) x.0 v) (sym c.image-image.ensures)
    (subst (λ (n : ℕ). IsVariableOf program (unit_at program n) x.0 v) (sym told) own.variable) in
    let written : c.match-name_of.text.items ≡ reference_text (spelling x.0) x.1 = elim c.match-name_of.branch [
      | in-Some-name_of+in_ok-append_reference w ↦
          ap (λ (t : Vec ℕ Global). t.items) w.text-is
          ∙ w.in_ok-append_reference.ensures
          ∙ ap (λ (xs : List ℕ). xs ++ reference_text w.in-Some-name_of.name.now c.in-Some-named.subscripts.now) c.new-text.ensures.items
          ∙ ap (λ (xs : List ℕ). reference_text xs c.in-Some-named.subscripts.now)
          (same_Some w.in-Some-name_of.name.now (spelling x.0) (w.in-Some-name_of.ensures x.0 variable))
          ∙ ap (reference_text (spelling x.0)) own.subscripts
      | in_default-name_of w ↦ absurd (none-some _ (w.in_default-name_of.ensures x.0 variable))
    ] in
    c.from-2.ensures ∙ written ∙ sym (text-there core c.args.p h.0 h.1)
