-- The rows of a run by all pairs of accesses: docs/MACHINE.md, "The order of steps".
use Rattle.std.specs.Prelude.{ℕ, suc, Bool, ◌&&◌, not, nat_eq, List, [], ◌∷◌}
use Rattle.std.specs.List.{filter}
use Rattle.hep_accesses.specs.Events.{Access, Event}
use Rattle.hep_accesses.specs.Firsts.{first_of_each}
use Rattle.hep_accesses.specs.Pasts.{Past, Steps, before_step, empty_past, past_after}
use Rattle.hep_accesses.specs.Races.{Row, StepAccess, conflicts, from_same_site, with_pairs}

-- the steps before the next one of each process, all accesses so far, the latest first, and the rows so far
pub record Pairs (L S : Type 0) : Type 0 where
  pub past : Past L
  pub earlier : List (StepAccess L S)
  pub rows : List (Row L S)

module _ {L S : Type 0} (same : L → L → Bool) (alike : S → S → Bool) where
  -- an earlier access races with y, before whose step these steps are
  abbrev pub is_racing : Steps → StepAccess L S → StepAccess L S → Bool
  is_racing before y d = not (nat_eq d.process y.process) && (conflicts same d.access y.access && not (before d.step))

  -- from each site the latest access that races with y
  abbrev pub racing_with : Steps → StepAccess L S → List (StepAccess L S) → List (StepAccess L S)
  racing_with before y earlier = first_of_each (from_same_site alike) (filter (is_racing before y) earlier)

  -- after the accesses of step n, of process p
  abbrev pub pairs_after_accesses : Steps → ℕ → ℕ → List (Access L S) → Pairs L S → Pairs L S
  pairs_after_accesses before n p [] x = x
  pairs_after_accesses before n p (a ∷ others) x =
      let y : StepAccess L S = record { step = n; process = p; access = a } in
      pairs_after_accesses before n p others (
      record {
        past = x.past;
        earlier = y ∷ x.earlier;
        rows = with_pairs alike y (racing_with before y x.earlier) x.rows;
      })

  abbrev pub pairs_after : ℕ → Pairs L S → Event L S → Pairs L S
  pairs_after n x e = pairs_after_accesses (before_step x.past e) n e.process e.accesses (record x { past = past_after n x.past e })

  unfoldable pub pairs_from : ℕ → Pairs L S → List (Event L S) → Pairs L S
  pairs_from n x [] = x
  pairs_from n x (e ∷ es) = pairs_from (suc n) (pairs_after n x e) es

  abbrev pub rows_by_pairs : List (Event L S) → List (Row L S)
  rows_by_pairs es = (pairs_from 0 (record { past = empty_past; earlier = []; rows = [] }) es).rows
