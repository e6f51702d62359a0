use Rattle.std.proofs.Common.{◌≡◌, ◌∷◌, ◌++◌, ◌∙◌, ap, List, ℕ, sym}
use Rattle.hep_history.specs.declared.run.Run.{Run}
use Rattle.hep_history.specs.Runs.{entries_of}
use Rattle.hep_replay.specs.HistoryChoices.{choices_in}
use Rattle.hep_replay.proofs.ChoiceRows.{choices-more}
use Rattle.hep_replay.proofs.history_choices.choices_of_history.Goals as goal

pub loop-run-preserved : goal.loop-run-preserved
loop-run-preserved c =
    let rest : List Run = c.next.new.self in
    ap (λ (l : List ℕ). l ++ choices_in (entries_of rest)) c.in_ok-append_alike.ensures
    ∙ choices-more c.loop-run.choices.items c.in-Some.run' rest
    ∙ ap (λ (rs : List Run). c.loop-run.choices.items ++ choices_in (entries_of rs)) (sym c.in-Some.ensures.steps)
    ∙ c.loop-run.invariant
