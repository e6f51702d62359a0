use Rattle.std.proofs.Common.{◌≡◌, ◌∷◌, ◌++◌, ◌∙◌, ap, List, ℕ, sym}
use Rattle.hep_history.specs.declared.run.Run.{Run}
use Rattle.hep_history.specs.Runs.{entries_of}
use Rattle.hep_replay.specs.Histories.{history_text}
use Rattle.hep_replay.proofs.InRuns.{lines_more}
use Rattle.hep_replay.proofs.history_text.write_text.Goals as goal

pub loop-run-preserved : goal.loop-run-preserved
loop-run-preserved c =
    let rest : List Run = c.next.new.self in
    ap (λ (l : List ℕ). l ++ history_text (entries_of rest)) c.in_ok-append_run.ensures
    ∙ lines_more c.loop-run.text.items c.in-Some.run' rest
    ∙ ap (λ (rs : List Run). c.loop-run.text.items ++ history_text (entries_of rs)) (sym c.in-Some.ensures.steps)
    ∙ c.loop-run.invariant
