use Rattle.std.proofs.Common.{◌≡◌, ◌∙◌, ◌++◌, List, ℕ, ap, refl, subst, sym}
use Rattle.std.proofs.lemmas.Result.{on_ok_weaker}
use Rattle.hep_core.specs.CoreValues.{state_of}
use Rattle.hep_machine.specs.Words.{Units, living, unit_at, unit_name}
use Rattle.hep_event.specs.StepTexts.{line_by}
use Rattle.hep_event.specs.declared.operation_text.StepObservation.{StepObservation}
use Rattle.hep_event.specs.PlainTexts.{IsNameOfCalled}
use Rattle.hep_event.specs.OperationTexts.{told_text}
use Rattle.hep_trace.specs.Observations.{IsListSeen, IsSeenWith, name_referred}
use Rattle.hep_trace.proofs.MadeTurns.{program-same}
use Rattle.hep_trace.proofs.turn_line.append_step.Goals as goal

pub returns : goal.returns
returns c =
    on_ok_weaker c.append_told.result (λ told old t is h.
    let b = c.args.before.now in
    let core = c.args.core.now.core in
    let same : core.program ≡ old.program = program-same old t.process core h.turn.made in
    let image = c.image-image.ensures ∙ same in
    let seen : StepObservation = record {
      unit = c.unit_name.result;
      called = c.called.result;
      variable = c.variable_name.result;
      place = c.place_of.result;
      value = c.value_after.result;
      line = c.line_of.result;
      list = c.deref.result;
      numbers = b.numbers;
    } in
    let with : IsSeenWith old.program t b (state_of core) seen = record {
      unit = c.unit_name.ensures ∙ (λ i. unit_name (unit_at (image i) (h.turn.before.unit i)));
      called = subst (λ (u : Units). IsNameOfCalled u b.operation c.called.result.now) image c.called.ensures;
      variable_is = c.variable_name.ensures ∙ ap (λ (u : Units). name_referred u b.reference) image;
      place_is = c.place_of.ensures;
      numbers = refl;
      line = c.line_of.ensures t ∙ (λ i. line_by (same i) t (state_of core) (living (state_of core) (sym is i)));
      value = c.value_after.ensures old t is h;
      list = subst (λ (l : List ℕ). IsListSeen old.program t b l b.operation) (sym c.deref.ensures.value) (c.in_ok-list.ensures old t h);
    } in
    let deed = h.turn.before.told (state_of core) seen h.turn.lives h.made h.sound with in
    told ∙ ap (λ (xs : List ℕ). c.args.text.now.items ++ xs) (ap (told_text seen b.operation) c.deref-2.ensures.value ∙ sym deed)) c.append_told.ensures
