-- The choices of entries that are the same, and of one run after the other.
use Rattle.std.proofs.Common.{◌≡◌, ℕ, zero, suc, ◌+◌, ◌*◌, List, ◌∷◌, ◌++◌, sym, ap, ◌∙◌, arith, replicate, append_assoc}
use Rattle.std.proofs.Math.Nat.{suc-mul}
use Rattle.std.proofs.lemmas.Grind.{flat_map-append}
use Rattle.std.proofs.lemmas.List.{replicate-append-replicate}
use Rattle.hep_machine.specs.declared.event.Entry.{Entry}
use Rattle.hep_history.specs.declared.run.Run.{Run}
use Rattle.hep_history.specs.Runs.{entries_of, entry_of}
use Rattle.hep_replay.specs.HistoryChoices.{choices_for, choices_in, times_for}

choices-alike : (e : Entry) (n : ℕ) → choices_in (replicate n e) ≡ replicate (n * times_for e.steps) e.process
choices-alike e zero = let none : 0 ≡ 0 * times_for e.steps = omega arith in ap (λ k. replicate k e.process) none
choices-alike e (suc n) =
    let all : times_for e.steps + n * times_for e.steps ≡ suc n * times_for e.steps = omega (arith, suc-mul n (times_for e.steps)) in
    ap (λ l. choices_for e ++ l) (choices-alike e n)
    ∙ replicate-append-replicate (times_for e.steps) (n * times_for e.steps) e.process
    ∙ ap (λ k. replicate k e.process) all

-- those of one run
pub choices-run : (run : Run) → choices_in (replicate run.count (entry_of run)) ≡ replicate (run.count * times_for run.steps) run.process
choices-run run = choices-alike (entry_of run) run.count

-- and of more behind it
pub choices-runs : (run : Run) (runs : List Run) → choices_in (replicate run.count (entry_of run)) ++ choices_in (entries_of runs) ≡ choices_in (entries_of (run ∷ runs))
choices-runs run runs =
    sym (flat_map-append choices_for (replicate run.count (entry_of run)) (entries_of runs))

-- what stands before them stays
pub choices-more : (before : List ℕ) (run : Run) (runs : List Run) → (before ++ choices_in (replicate run.count (entry_of run))) ++ choices_in (entries_of runs) ≡ before ++ choices_in (entries_of (run ∷ runs))
choices-more before run runs =
    append_assoc before (choices_in (replicate run.count (entry_of run))) (choices_in (entries_of runs))
    ∙ ap (λ l. before ++ l) (choices-runs run runs)
