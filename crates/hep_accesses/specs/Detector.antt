-- The rows of a run by vector clocks, in a time that doesn't grow with the accesses so far: docs/MACHINE.md, "The order of steps".
use Rattle.std.specs.Prelude.{ℕ, suc, Bool, ◌&&◌, not, nat_eq, nat_le, if◌then◌else◌, List, [], ◌∷◌}
use Rattle.std.specs.List.{filter}
use Rattle.hep_accesses.specs.Clocks.{Clock, Clocks, clock_before, clocks_after, zero_clocks}
use Rattle.hep_accesses.specs.Events.{Access, Event}
use Rattle.hep_accesses.specs.Firsts.{first_of_each}
use Rattle.hep_accesses.specs.Races.{Row, StepAccess, conflicts, from_same_site, with_pairs}

-- for each storage unit the latest access of each process from each site, the latest first
abbrev pub Table : Type 0 → Type 0 → Type 0
Table L S = L → List (StepAccess L S)

pub record Detector (L S : Type 0) : Type 0 where
  pub clocks : Clocks L
  pub table : Table L S
  pub rows : List (Row L S)

module _ {L S : Type 0} (same : L → L → Bool) (alike : S → S → Bool) where
  -- of one process, from one site
  abbrev pub is_repeated : StepAccess L S → StepAccess L S → Bool
  is_repeated d f = nat_eq d.process f.process && from_same_site alike d f

  -- without the access that this one repeats
  abbrev pub with_access : StepAccess L S → Table L S → Table L S
  with_access y table at = if same y.access.at at then y ∷ filter (λ d. not (is_repeated y d)) (table at) else table at

  -- an earlier access races with y, by the clock of y's step
  abbrev pub is_racing_by_clock : Clock → StepAccess L S → StepAccess L S → Bool
  is_racing_by_clock clock y d =
      not (nat_eq d.process y.process) && (conflicts same d.access y.access && not (nat_le (suc d.step) (clock d.process)))

  -- from each site the latest access that races with y
  abbrev pub racing_by_clock : Clock → StepAccess L S → List (StepAccess L S) → List (StepAccess L S)
  racing_by_clock clock y ds = first_of_each (from_same_site alike) (filter (is_racing_by_clock clock y) ds)

  -- after the accesses of step n, of process p
  abbrev pub detector_after_accesses : Clock → ℕ → ℕ → List (Access L S) → Detector L S → Detector L S
  detector_after_accesses clock n p [] x = x
  detector_after_accesses clock n p (a ∷ others) x =
      let y : StepAccess L S = record { step = n; process = p; access = a } in
      detector_after_accesses clock n p others (
      record {
        clocks = x.clocks;
        table = with_access y x.table;
        rows = with_pairs alike y (racing_by_clock clock y (x.table a.at)) x.rows;
      })

  abbrev pub detector_after : ℕ → Detector L S → Event L S → Detector L S
  detector_after n x e =
      detector_after_accesses (clock_before x.clocks e) n e.process e.accesses (record x { clocks = clocks_after n x.clocks e })

  unfoldable pub detector_from : ℕ → Detector L S → List (Event L S) → Detector L S
  detector_from n x [] = x
  detector_from n x (e ∷ es) = detector_from (suc n) (detector_after n x e) es

  -- the rows of these steps alone, the first of which has this number
  abbrev pub rows_from : ℕ → List (Event L S) → List (Row L S)
  rows_from n es = (detector_from n (record { clocks = zero_clocks; table = λ at. []; rows = [] }) es).rows

  abbrev pub rows_by_clocks : List (Event L S) → List (Row L S)
  rows_by_clocks es = rows_from 0 es
