-- What a step printed is the last record after it.
use Rattle.std.proofs.Common.{◌≡◌, List, [], ◌∷◌, ◌++◌, Some, sym, ap, ◌∙◌}
use Rattle.hep_machine.specs.declared.record.Item.{Item}
use Rattle.hep_machine.specs.Words.{State, Top, Units, does, level_after_statement, living, next_of, printing, result_after_next, state_with_level, step_result_of, stepped, unit_on_top}
use Rattle.hep_event.proofs.StepCases.{step_of_top}

pub record-printed : (program : Units) (t : Top) (after : State) (items : List Item) → living t.state t.process ≡ Some (t.level, t.below)
    → step_result_of program t.process t.state ≡ stepped after → next_of (unit_on_top program t) t.level.work ≡ does (printing items)
    → after.records ≡ t.state.records ++ items ∷ []
record-printed program t after items lives made next =
    let printed : State = record (state_with_level t (level_after_statement (unit_on_top program t) t.level)) { records = t.state.records ++ items ∷ [] } in
    let is : stepped printed ≡ stepped after = sym (step_of_top program t.state t.process (t.level, t.below) lives ∙ ap (result_after_next program t) next) ∙ made in
    let same : printed ≡ after = cc in
    ap (λ (s : State). s.records) (sym same)
