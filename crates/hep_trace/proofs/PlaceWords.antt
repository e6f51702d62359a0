-- Words for whose a storage unit is are those of the place of what is named.
use Rattle.std.proofs.Common.{◌≡◌, ℕ, ◌<◌, ◌≤◌, ◌&&◌, true, List, length, Option, Some, None, Result, Ok, Err, refl, sym, ap, ◌∙◌, subst, arith, is_some, IsSome, nat_eq, if◌then◌else◌, slice_get}
use Rattle.std.proofs.lemmas.Option.{same_Some}
use Rattle.hep_code.specs.declared.variable.Variable.{Variable}
use Rattle.hep_code.specs.Words.{Addressing}
use Rattle.hep_conditions.specs.Words.{IsAccepted}
use Rattle.hep_image.specs.Names.{names_in_order, variable_number}
use Rattle.hep_image.proofs.Numbers.{number-of-variable}
use Rattle.hep_layout.specs.Words.{address}
use Rattle.hep_machine.specs.declared.event.Kind.{Kind}
use Rattle.hep_machine.specs.Words.{Level, Location, Name, Process, Reference, State, Units, is_among, location_of_name, main_among, names_of, run, scope_of, spelling, unit_at, unit_of}
use Rattle.hep_state.specs.declared.core_state.CoreState.{CoreState}
use Rattle.hep_state.specs.Words.{IsMachineAfter}
use Rattle.hep_state_text.specs.States as states
use Rattle.hep_state_text.specs.WaitTexts.{place_seen}
use Rattle.hep_state_text.proofs.WaitTexts.{place-told}
use Rattle.hep_event.specs.StepTexts.{is_own, place_by, place_of as place_of_reference}
use Rattle.hep_views.specs.declared.place.Place.{Place}
use Rattle.hep_views.specs.ListedProcesses.{place_of}
use Rattle.hep_views.specs.CellOwners.{IsSought}
use Rattle.hep_views.proofs.WaitingPlaces.{IsTop, living-top}
use Rattle.hep_event.specs.declared.sites.Site.{Site}
use Rattle.hep_event.specs.Sites.{IsSite, IsVariableOf, LivesAfter}
use Rattle.hep_event.proofs.Declared.{placed-named}
use Rattle.hep_event.proofs.FoundVariables.{levels-of, same-top, sought}
use Rattle.hep_trace.specs.References.{shown_by, top_after}
use Rattle.hep_trace.proofs.OwnNames.{own-is}

module _ (program : Units) (cells : ℕ) (choices : List ℕ) (m : CoreState) (p : ℕ) (top : Level × Process) (accepted : IsAccepted program) (main : is_some (main_among program) ≡ true)
    (lives : LivesAfter program cells choices m p top) where
  abbrev s : State
  s = run program choices

  abbrev a : ℕ
  a = top.0.activation

  -- what a machine keeps of it
  pub top-there : IsTop program s m p top
  top-there =
      let it = living-top program cells choices m lives.after p (subst IsSome (sym lives.lives) refl) in
      subst (IsTop program s m p) (same_Some it.top top (sym it.lives ∙ lives.lives)) it.is_top

  -- activations are counted from 1
  counted : 1 ≤ a
  counted =
      let there = top-there.there in
      let tree = lives.after.after.shows.keeps.tree in
      let made = tree.made there.0.activation (tree.shown top-there.levels.level.key there.0 there.1).out_is in
      omega (arith, made.0, there.2)

  unit-inside : unit_of s a < length program
  unit-inside = omega (arith, top-there.inside, top-there.unit)

  module _ (x : Name) (number : ℕ) (among : is_among x (names_of (unit_at program (unit_of s a))) ≡ true) (is : number ≡ variable_number program (unit_of s a) x) where
    own : (key cell : ℕ) (at : Location) → IsSought program cells choices m key cell at → (place : Place) → place ≡ place_of program s at
        → (nat_eq place.owner a && nat_eq place.name number) ≡ is_own a x at
    own key cell at h place placed =
        ap (λ (q : Place). nat_eq q.owner a && nat_eq q.name number) placed
        ∙ ap (λ n. nat_eq (place_of program s at).owner a && nat_eq (place_of program s at).name n) is
        ∙ own-is program cells choices m accepted main key cell at h a x counted among

    text : (key cell : ℕ) (at : Location) → IsSought program cells choices m key cell at → (place : Place) → place ≡ place_of program s at
        → place_seen (names_in_order program) place ≡ states.place_text program s at
    text key cell at h place placed = ap (place_seen (names_in_order program)) placed ∙ place-told program cells choices m accepted main key cell at h

    pub shown-is : (addressing : Addressing) (site : Option Site) (o : Result Location Kind) → IsSite program s addressing site o
        → ((at : Location) (cell : ℕ) → o ≡ Ok at → addressing at ≡ Some cell → (key : ℕ) × IsSought program cells choices m key cell at)
        → shown_by (names_in_order program) a number site ≡ place_by program (top_after program choices p top) x o
    shown-is addressing (Some site) (Ok at) h sought =
        let it = sought at site.cell refl h.0 in
        λ i. if own it.0 site.cell at it.1 site.place h.1 i then None else Some (text it.0 site.cell at it.1 site.place h.1 i)
    shown-is addressing None (Err k) h sought = refl
    shown-is addressing _ _ h sought = absurd h

  -- ---- a variable or an element

  module _ (x : Reference) (v : Variable) (named : IsVariableOf program (unit_at program (unit_of s a)) x.0 v) where
    among : is_among x.0 (names_of (unit_at program (unit_of s a))) ≡ true
    among = placed-named program (unit_at program (unit_of s a)) x.0 (λ absent. named.1 (sym named.0 ∙ absent))

    sought-at : (at : Location) (cell : ℕ) → location_of_name (scope_of program s a) x.0 x.1 ≡ Ok at → address program s lives.after.after.layout at ≡ Some cell
        → (key : ℕ) × IsSought program cells choices m key cell at
    sought-at at cell is kept =
        let w = top-there.levels in (
          w.level.key,
          sought m lives.after lives.running w x.0 x.1 at cell (
              subst (λ (z : Level × Process). location_of_name (scope_of program s z.0.activation) x.0 x.1 ≡ Ok at) (sym (same-top lives w)) is) kept,
        )

    -- its name has the number
    pub name-so : (number : ℕ) → number ≡ variable_number program (unit_of s a) x.0 → slice_get (names_in_order program) number ≡ Some (spelling x.0)
    name-so number is = ap (slice_get (names_in_order program)) is ∙ number-of-variable program (unit_of s a) x.0 unit-inside among

    -- the words are those of its place
    pub place-so : (number activation : ℕ) (site : Option Site) → number ≡ variable_number program (unit_of s a) x.0 → activation ≡ a
        → IsSite program s (address program s lives.after.after.layout) site (location_of_name (scope_of program s a) x.0 x.1)
        → shown_by (names_in_order program) activation number site ≡ place_of_reference program (top_after program choices p top) x
    place-so number activation site is own found =
        ap (λ b. shown_by (names_in_order program) b number site) own
        ∙ shown-is x.0 number among is (address program s lives.after.after.layout) site (location_of_name (scope_of program s a) x.0 x.1) found sought-at

-- what a name of an activation stands for is sought by whatever machine keeps it after the same turns
pub sought-of : (program : Units) (cells : ℕ) (choices : List ℕ) (m : CoreState) (p : ℕ) (top : Level × Process) (lives : LivesAfter program cells choices m p top) (after : IsMachineAfter program cells choices m) (x : Reference)
    → (at : Location) (cell : ℕ) → location_of_name (scope_of program (run program choices) top.0.activation) x.0 x.1 ≡ Ok at → address program (run program choices) after.after.layout at ≡ Some cell
    → (key : ℕ) × IsSought program cells choices m key cell at
sought-of program cells choices m p top lives after x at cell is kept =
    let there : LivesAfter program cells choices m p top = record { after = after; running = lives.running; lives = lives.lives } in
    let w = levels-of there in (
      w.level.key,
      sought m after lives.running w x.0 x.1 at cell (
          subst (λ (z : Level × Process). location_of_name (scope_of program (run program choices) z.0.activation) x.0 x.1 ≡ Ok at) (sym (same-top there w)) is) kept,
    )
