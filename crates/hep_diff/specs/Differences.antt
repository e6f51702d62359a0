-- The differences of two runs of a program, as a text: docs/RUNS.md, "What differs".
use Rattle.std.specs.Prelude.{ℕ, zero, suc, ◌+◌, max, false, nat_le, List, [], ◌++◌, length, Option, Some, None, slice_get}
use Rattle.hep_outcome.specs.CoreValues.{listed_after}
use Rattle.hep_outcome.specs.Replays.{replayed}
use Rattle.hep_machine.specs.declared.event.Entry.{Entry}
use Rattle.hep_machine.specs.Words.{Units, state_after}
use Rattle.hep_outcome.specs.Outcome.{Outcome}
use Rattle.hep_outcome.specs.Replay.{outcome_of_core}
use Rattle.hep_text.specs.Line.{lines}
use Rattle.hep_views.specs.ProcessPositions.{whereabouts_by}
use Rattle.hep_diff.specs.ProcessSteps.{deeds_behind}
use Rattle.hep_diff.specs.FirstDifferences.{first_from, same_front}
use Rattle.hep_diff.specs.DifferenceLines.{deed_text, ends_text, first_mark, front_text, or_nothing, process_head, records_text, rest_text, second_mark}
use Rattle.hep_diff.specs.declared.process_step.ProcessStep.{ProcessStep}

-- the differences of what two replays write
abbrev pub written_text : Outcome → Outcome → List ℕ
written_text a b = records_text 1 (lines a.output) (lines b.output) ++ ends_text a.messages b.messages

module _ (program : Units) where
  -- ---- one history

  abbrev pub made_in : List Entry → ℕ
  made_in history = length (state_after program history).processes

  -- what has become of process p, counted from 1
  abbrev pub rest_of : List Entry → ℕ → List ℕ
  rest_of history p =
      rest_text program (listed_after program history p) (whereabouts_by program p (state_after program history)) (nat_le p (made_in history))

  -- a step of process p, or what has become of it where it has no such step
  abbrev pub deed_or_rest : List Entry → ℕ → Option ProcessStep → List ℕ
  deed_or_rest history p None = rest_of history p
  deed_or_rest history p (Some d) = deed_text program d

  abbrev pub side_of : List ℕ → List Entry → ℕ → List ProcessStep → ℕ → List ℕ
  side_of mark history p deeds k = mark ++ deed_or_rest history p (slice_get deeds k)

  -- what a replay writes in an arena of `cells` cells
  abbrev pub end_of : ℕ → List Entry → Outcome
  end_of cells history = outcome_of_core false (replayed program cells history)

  -- ---- two histories

  module _ (first second : List Entry) where
    -- process p with its steps in both, and the index of the first one that differs
    abbrev pub process_with : ℕ → List ProcessStep → List ProcessStep → Option ℕ → List ℕ
    process_with p xs ys None = []
    process_with p xs ys (Some k) = process_head p (k + 1) ++ side_of first_mark first p xs k ++ side_of second_mark second p ys k

    -- by its steps after the first n entries
    abbrev pub process_text : ℕ → ℕ → List ℕ
    process_text n p = process_with p (deeds_behind program n first p) (deeds_behind program n second p) (
        first_from 0 (deeds_behind program n first p) (deeds_behind program n second p))

    -- n processes from this number on
    abbrev pub processes_from : ℕ → ℕ → ℕ → List ℕ
    processes_from n p zero = []
    processes_from n p (suc count) = process_text n p ++ processes_from n (suc p) count

    abbrev pub processes_text : ℕ → List ℕ
    processes_text n = processes_from n 1 (max (made_in first) (made_in second))

    -- in an arena of `cells` cells; the entries at the front that are equal aren't compared
    abbrev pub differences : ℕ → List ℕ
    differences cells = processes_text (same_front first second) ++ written_text (end_of cells first) (end_of cells second)

    abbrev pub diff_text : ℕ → List ℕ
    diff_text cells = front_text (same_front first second) (length first) (length second) ++ or_nothing (differences cells)
