-- The outcome of a run, from the core that it left.
use Rattle.std.proofs.Common.{◌≡◌, ℕ, Bool, Option, Some, None, refl, ap, ◌∙◌, subst, inl, inr}
use Rattle.hep_machine.specs.Words.{IsLegal, Units}
use Rattle.hep_replay.specs.ChoiceStop.{ChoiceStop}
use Rattle.hep_replay.specs.ChoiceStop.TheVariants.{Halted, ArenaFull, StepLimit}
use Rattle.hep_replay.specs.CoreValues as core
use Rattle.hep_replay.specs.CoreValues.{CoreValue}
use Rattle.hep_outcome.specs.declared.options.Options.{Options}
use Rattle.hep_outcome.specs.declared.halt.Halt.TheVariants.{NoSuchProcess}
use Rattle.hep_outcome.specs.Outcome.{Outcome, IsHistory, IsOver, IsRunOutcome, next_process, outcome_of_refused_choice, outcome_of_end}
use Rattle.hep_outcome.specs.RunProgress.{IsStopOfRun, IsRunning, IsHaltedBy}

made : (options : Options) (core : CoreValue) → IsRunning options core → IsLegal core.program core.cells core.limit core.history → IsHistory core.program options core.history
made options core running legal =
    record {
      legal = subst (λ (n : ℕ). IsLegal core.program options.arena n core.history) running.limit (subst (λ (n : ℕ). IsLegal core.program n core.limit core.history) running.cells legal);
      scheduled = running.scheduled;
    }

over : (options : Options) (value : CoreValue) (stop : Option ChoiceStop) → IsStopOfRun options value stop → (stop ≡ None → next_process value.program options.choices value.history ≡ None) → core.IsStop value.program value.cells value.limit value.history stop → IsOver value.program options value.history stop
over options value None here none named = (named, none refl)
over options value (Some Halted) here none named = named
over options value (Some ArenaFull) here none named = (named.0, here)
over options value (Some StepLimit) here none named = here

pub outcome_refused : (long : Bool) (options : Options) (program : Units) (value : CoreValue) (choice : ℕ) (o : Outcome) → value.program ≡ program → IsHaltedBy options value (NoSuchProcess choice) → IsLegal value.program value.cells value.limit value.history → o ≡ outcome_of_refused_choice value.history → IsRunOutcome long program options o
outcome_refused long options program value choice o same halted legal is =
    subst (λ (p : Units). IsRunOutcome long p options o) same (value.history, made options value halted.0 legal, inl (halted.2, is))

pub outcome_over : (long : Bool) (options : Options) (program : Units) (value : CoreValue) (o : Outcome) → value.program ≡ program → IsRunning options value → (value.stop ≡ None → next_process value.program options.choices value.history ≡ None) → IsLegal value.program value.cells value.limit value.history → core.IsStop value.program value.cells value.limit value.history value.stop → o ≡ outcome_of_end long value.program value.cells value.history value.stop → IsRunOutcome long program options o
outcome_over long options program value o same running none legal named is =
    subst (λ (p : Units). IsRunOutcome long p options o) same (
      value.history,
      made options value running legal,
      inr (
        value.stop,
        over options value value.stop running.stop none named,
        is ∙ ap (λ (n : ℕ). outcome_of_end long value.program n value.history value.stop) running.cells,
      ),
    )
