-- The steps of each process, noted while a history is made again.
use Rattle.std.proofs.Common.{◌≡◌, ℕ, suc, ◌+◌, List, [], ◌∷◌, drop, length, refl, sym, ◌∙◌, arith}
use Rattle.std.proofs.lemmas.List.{take_all}
use Rattle.hep_core.proofs.Histories.{state-is}
use Rattle.hep_fold.specs.declared.history_range.HistoryRange.{HistoryRange}
use Rattle.hep_fold.specs.Folds.{entries_before, entries_until, turns_within}
use Rattle.hep_fold.specs.Turns.{seen_along, turns_from}
use Rattle.hep_machine.specs.Words.{State, Units, run, schedule_of, state_after_turn}
use Rattle.hep_diff.specs.ProcessSteps.{deeds_behind, steps_of}
use Rattle.hep_diff.specs.StepLogs.{steps_after}
use Rattle.hep_diff.specs.declared.process_step.ProcessStep.{ProcessStep}

-- the steps of each process are those of its own
steps-along : (program : Units) (s : State) (ts : List (ℕ × ℕ)) (steps : ℕ → List ProcessStep) (q : ℕ)
    → seen_along program (steps_after program) s ts steps q ≡ seen_along program (steps_of program q) s ts (steps q)
unfolding seen_along
steps-along program s [] steps q = refl
steps-along program s (t ∷ ts) steps q = steps-along program (state_after_turn program t.1 s) ts (steps_after program t.0 t.1 s steps) q

-- those of a whole range
pub steps-behind : (program : Units) (range : HistoryRange) (q : ℕ) → range.end ≡ length range.history.now.items
    → seen_along program (steps_after program) (run program (schedule_of (entries_before range))) (turns_within range) (λ p. []) q ≡ deeds_behind program range.start range.history.now.items q
steps-behind program range q last =
    let entries = range.history.now.items in
    let all : entries_until range ≡ entries = take_all range.end entries (omega (arith, last)) in
    let first : range.start + 1 ≡ suc range.start = omega arith in
    steps-along program (run program (schedule_of (entries_before range))) (turns_within range) (λ p. []) q
    ∙ (λ i. seen_along program (steps_of program q) (sym (state-is program (entries_before range)) i) (turns_from (first i) (drop range.start (all i))) [])
