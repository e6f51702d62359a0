use Rattle.std.proofs.Common.{◌≡◌, ◌∙◌, ap, refl, subst, sym}
use Rattle.hep_image.specs.Places.{addresses_of}
use Rattle.hep_machine.specs.Words.{Reference, Top, next_of, spelling, unit_on_top}
use Rattle.hep_trace.specs.References.{top_after}
use Rattle.hep_event.specs.NamedVariables.{IsNamed}
use Rattle.hep_state_text.specs.WaitTexts.{name_seen}
use Rattle.hep_event.specs.StepTexts.{place_of}
use Rattle.hep_event.specs.OperationTexts.{told_text}
use Rattle.hep_trace.specs.Observations.{IsLoopAhead, name_referred, place_referred}
use Rattle.hep_trace.proofs.NextOperations.{loops}
use Rattle.hep_trace.proofs.SeenBefore.{is-seen}
use Rattle.hep_trace.proofs.turn_laws.turns_are_told.Goals as goal

pub returns : goal.returns
returns c cells choices ahead top b accepted main is b_is =
    let program = ahead.image.now in
    let m = ahead.machine.now in
    let coming = ahead.coming.now in
    let t : Top = top_after program choices ahead.process top in
    let come = c.operations_come_next.ensures program cells choices m ahead.process top coming accepted main is.lives is.coming in
    let named = λ (x : Reference) (h : IsNamed (unit_on_top program t) (next_of (unit_on_top program t) t.level.work) x).
    c.operations_name_variables.ensures.variables program cells choices m ahead.process top coming x accepted main is.lives is.coming h in
    let referred : (x : Reference) → IsNamed (unit_on_top program t) (next_of (unit_on_top program t) t.level.work) x
    → (name_referred program b.reference ≡ spelling x.0) × (place_referred b.reference ≡ place_of program t x) = λ x h.
    let found = b_is.reference x h in
    (ap (name_referred program) found.1 ∙ ap name_seen found.2.name, ap place_referred found.1 ∙ found.2.place) in (
      λ after seen lives made sound h.
          c.steps_are_told.ensures program t (addresses_of program) after seen coming.operands.items come.0 coming.operation coming.behind.now lives made sound (
          is-seen program t coming.operands.items come.0 coming.operation coming.behind.now b after seen b_is.operation h referred (λ x n. (named x n).2) b_is.value b_is.list b_is.numbers come.1) come.1
          ∙ (λ i. told_text seen (sym b_is.operation i) (sym b_is.operands i)),
      subst (IsLoopAhead program t) (sym b_is.operation) (
          loops program t coming.operands.items come.0 coming.operation coming.behind.now (λ x n. (named x n).1) (next_of (unit_on_top program t) t.level.work) refl come.1),
    )
