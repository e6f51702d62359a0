-- A storage unit that is there stays there, with its place, in all later states.
use Rattle.std.proofs.Common.{◌≡◌, ℕ, Bool, true, false, List, [], ◌∷◌, ◌++◌, refl, sym, ap, ◌∙◌, subst}
use Rattle.std.proofs.lemmas.Bool.{false≢true}
use Rattle.hep_advance.proofs.RunsToBreakpoint.{run-on}
use Rattle.hep_layout.proofs.Memory.{location-self}
use Rattle.hep_machine.proofs.Locations.{equal_locations}
use Rattle.hep_machine.specs.Words.{Location, State, Units, run, run_from, same_location, state_after_turn, IsSameOrOneMore}
use Rattle.hep_views.specs.ListedProcesses.{place_of}
use Rattle.hep_races.proofs.PlacesTold.{place-kept, there-kept}
use Rattle.hep_races.specs.StoragePlaces.{IsThere}

-- in a later state it is there, with the same place
pub record IsKeptThere (program : Units) (s t : State) (at : Location) : Type 0 where
  pub there : IsThere program t at
  pub place : place_of program t at ≡ place_of program s at

module _ (program : Units) (rise : (p : ℕ) (s : State) → IsSameOrOneMore s.activations (state_after_turn program p s).activations) where
  from-there : (s : State) (ps : List ℕ) (at : Location) → IsThere program s at → IsKeptThere program s (run_from program s ps) at
  unfolding run_from
  from-there s [] at h = record { there = h; place = refl }
  from-there s (p ∷ ps) at h =
      let t = state_after_turn program p s in
      let later = from-there t ps at (there-kept program s t (rise p s) at h) in
      record { there = later.there; place = later.place ∙ place-kept program s t (rise p s) at h }

  -- after more turns
  pub kept-later : (made more : List ℕ) (at : Location) → IsThere program (run program made) at
      → IsKeptThere program (run program made) (run program (made ++ more)) at
  kept-later made more at h =
      subst (λ (t : State). IsKeptThere program (run program made) t at) (sym (run-on program made more)) (
      from-there (run program made) more at h)

-- the test of locations goes both ways
pub location-swap : (l m : Location) → same_location l m ≡ same_location m l
location-swap l m = by (same_location l m) (same_location m l) refl refl
  where
    by : (b c : Bool) → same_location l m ≡ b → same_location m l ≡ c → b ≡ c
    by true true e f = refl
    by false false e f = refl
    by true false e f = absurd (false≢true (sym f ∙ ap (same_location m) (equal_locations l m e) ∙ location-self m))
    by false true e f = absurd (false≢true (sym e ∙ ap (same_location l) (equal_locations m l f) ∙ location-self l))
