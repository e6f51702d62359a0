-- Vector clocks: docs/MACHINE.md, "The order of steps".
use Rattle.std.specs.Prelude.{ℕ, suc, max, nat_eq, if◌then◌else◌, List, [], ◌∷◌, Option, Some, None, take}
use Rattle.hep_accesses.specs.Events.{Event, leads_to}

-- for each process the number of its latest step that is before, counted from 1 over the whole run; 0 where there is none
abbrev pub Clock : Type 0
Clock = ℕ → ℕ

abbrev pub zero_clock : Clock
zero_clock p = 0

abbrev pub joined : Clock → Clock → Clock
joined a b p = max (a p) (b p)

-- with step n of process p
abbrev pub ticked : ℕ → ℕ → Clock → Clock
ticked n p a q = if nat_eq p q then suc n else a q

-- the clock of each process, and the one that the latest change of each full/empty storage unit had
pub record Clocks (L : Type 0) : Type 0 where
  pub of_process : ℕ → Clock
  pub of_location : L → Clock

abbrev pub zero_clocks : {L : Type 0} → Clocks L
zero_clocks = record { of_process = λ p. zero_clock; of_location = λ at. zero_clock }

abbrev pub clock_of_need : {L : Type 0} → Clocks L → Option L → Clock
clock_of_need x None = zero_clock
clock_of_need x (Some at) = x.of_location at

module _ {L S : Type 0} where
  -- what is before this step
  abbrev pub clock_before : Clocks L → Event L S → Clock
  clock_before x e = joined (x.of_process e.process) (clock_of_need x e.needs)

  -- after step n, which is e
  abbrev pub clocks_after : ℕ → Clocks L → Event L S → Clocks L
  clocks_after n x e =
      let clock : Clock = ticked n e.process (clock_before x e) in
      record {
        of_process = λ p. if leads_to e p then joined clock (x.of_process p) else x.of_process p;
        of_location = λ at. if e.changes at then clock else x.of_location at;
      }

  unfoldable pub clocks_from : ℕ → Clocks L → List (Event L S) → Clocks L
  clocks_from n x [] = x
  clocks_from n x (e ∷ es) = clocks_from (suc n) (clocks_after n x e) es

  -- of a run before step k, which is e
  abbrev pub clock_at : List (Event L S) → ℕ → Event L S → Clock
  clock_at es k e = clock_before (clocks_from 0 zero_clocks (take k es)) e
