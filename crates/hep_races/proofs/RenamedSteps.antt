-- A step that was observed is its event under the names of the run.
use Rattle.std.proofs.Common.{◌≡◌, ℕ, Bool, ◌||◌, List, [], ◌∷◌, ◌++◌, map, Option, Some, None, refl, sym, ap, ◌∙◌, subst}
use Rattle.std.specs.List.{AllZip, list_any}
use Rattle.std.specs.Option.{option_map, option_to_list}
use Rattle.hep_accesses.specs.Accesses.{Access as AnAccess, Site}
use Rattle.hep_accesses.specs.RunEvents.{Event, event_of}
use Rattle.hep_accesses.specs.Exchanges.{top_with}
use Rattle.hep_machine.specs.Words.{Level, Location, Process, State, Units, same_location}
use Rattle.hep_accesses.specs.Events.{Access as ARenamedAccess, Event as AnEvent}
use Rattle.hep_source.proofs.Tests.{at-front}
use Rattle.hep_views.specs.ListedProcesses.{place_of}
use Rattle.hep_views.specs.declared.place.Place.{Place}
use Rattle.hep_races.proofs.LaterStates.{IsKeptThere, location-swap}
use Rattle.hep_races.proofs.PlacesTold.{places-told}
use Rattle.hep_races.specs.Observed.{access_in, unit_eq}
use Rattle.hep_races.specs.ObservedRuns.{AreNumbered, IsNumbered}
use Rattle.hep_races.specs.Renamings.{IsRenamedAccess, IsRenamedEvent, IsRenamedNeed, Renaming}
use Rattle.hep_races.specs.RunNames.{IsNameOf, run_names, site_in, unit_of_place}
use Rattle.hep_races.specs.StepEvents.{AreThere, AreUnitsThere, IsObserved, access_seen}
use Rattle.hep_races.specs.StoragePlaces.{IsThere, same_place}
use Rattle.hep_races.specs.declared.event.Access.{Access}
use Rattle.hep_races.specs.declared.step_access.AccessSite.{AccessSite}
use Rattle.hep_races.specs.declared.step_access.SitedAccess.{SitedAccess}
use Rattle.hep_races.specs.declared.step_event.ObservedStep.{ObservedStep}
use Rattle.hep_races.specs.declared.storage_unit.StorageUnit.{StorageUnit}

-- of a state, by the names in a later one
module _ (program : Units) (s f : State) (sites : List AccessSite)
    (kept : (at : Location) → IsThere program s at → IsKeptThere program s f at) where
  abbrev r : Renaming Location StorageUnit Site ℕ
  r = run_names program f sites

  abbrev named : Location → StorageUnit
  named at = unit_of_place (place_of program s at)

  named-so : (at : Location) → IsThere program s at → IsNameOf program f at (named at)
  named-so at h = let k = kept at h in (k.there, ap unit_of_place (sym k.place))

  need-renamed : (n : Option Location) → ((at : Location) → n ≡ Some at → IsThere program s at)
      → IsRenamedNeed r n (option_map unit_of_place (option_map (place_of program s) n))
  need-renamed None h = tt
  need-renamed (Some at) h = named-so at (h at refl)

  -- one storage unit that is made full or empty
  change-renamed : (v at : Location) (u : StorageUnit) → IsThere program s v → IsNameOf program f at u
      → unit_eq (named v) u ≡ same_location at v
  change-renamed v at u h k =
      let w = kept v h in
      ap (unit_eq (named v)) k.1 ∙ ap (λ (p : Place). same_place p (place_of program f at)) (sym w.place)
      ∙ places-told program f v at w.there k.0 ∙ location-swap v at

  changes-renamed : (units : List Location) → AreUnitsThere program s units → (at : Location) (u : StorageUnit) → IsNameOf program f at u
      → list_any (λ (v : StorageUnit). unit_eq v u) (map unit_of_place (map (place_of program s) units))
      ≡ list_any (same_location at) units
  changes-renamed [] h at u k = refl
  changes-renamed (v ∷ vs) h at u k = λ i. change-renamed v at u h.0 k i || changes-renamed vs h.1 at u k i

  accesses-renamed : (ds : List AnAccess) (ns : List Access) → AreThere program s ds
      → AreNumbered sites (map (access_seen program s) ds) ns → AllZip (IsRenamedAccess r) ds (map access_in ns)
  accesses-renamed [] [] h k = tt
  accesses-renamed [] (n ∷ ns) h k = absurd k
  accesses-renamed (d ∷ ds) [] h k = absurd k
  accesses-renamed (d ∷ ds) (n ∷ ns) h k =
      let w = kept d.at h.0.at in (
        record {
          at = (w.there, k.0.at ∙ ap unit_of_place (sym w.place));
          stores = k.0.stores;
          site = (k.0.site, h.0.unit);
        },
        accesses-renamed ds ns h.1 k.1,
      )

  -- an event with the numbers of what was observed
  pub record IsNumberedStep (b : ObservedStep) (e : AnEvent StorageUnit ℕ) : Type 0 where
    pub process : e.process ≡ b.process
    pub makes : e.makes ≡ b.makes
    pub needs : e.needs ≡ option_map unit_of_place b.needs
    pub changes : e.changes ≡ (λ at. list_any (λ (v : StorageUnit). unit_eq v at) (map unit_of_place b.changes.items))
    pub numbered : List Access
    pub accesses : e.accesses ≡ map access_in numbered
    pub are : AreNumbered sites (option_to_list b.access ++ b.bounds.items) numbered

  pub step-renamed : (p : ℕ) (top : Level × Process) (u : State) (b : ObservedStep) (e : AnEvent StorageUnit ℕ)
      → IsObserved program (top_with program s p top) u b → IsNumberedStep b e → IsRenamedEvent r (event_of program p s u) e
  step-renamed p top u b e h k =
      let d : Event = event_of program p s u in
      record {
        process = k.process ∙ h.process;
        makes = k.makes ∙ h.makes;
        needs = subst (IsRenamedNeed r d.needs) (sym (k.needs ∙ ap (option_map unit_of_place) h.needs)) (
            need-renamed d.needs h.needs_there);
        changes = λ at v is.
            ap (λ (c : StorageUnit → Bool). c v) k.changes
            ∙ ap (λ (ps : List Place). list_any (λ (w : StorageUnit). unit_eq w v) (map unit_of_place ps)) h.changes.1
            ∙ changes-renamed h.changes.0 h.changes.2 at v is ∙ sym (h.changes.3 at);
        accesses = subst (AllZip (IsRenamedAccess r) d.accesses) (sym k.accesses) (
            accesses-renamed d.accesses k.numbered h.accesses_there (
            subst (λ (xs : List SitedAccess). AreNumbered sites xs k.numbered) h.accesses k.are));
      }

-- ---- sites that come up later

-- the element of two lists at each place
zipped-later : {X Y : Type 0} (R Q : X → Y → Type 0) → ((x : X) (y : Y) → R x y → Q x y) → (xs : List X) (ys : List Y) → AllZip R xs ys
    → AllZip Q xs ys
zipped-later R Q more [] [] h = h
zipped-later R Q more [] (y ∷ ys) h = absurd h
zipped-later R Q more (x ∷ xs) [] h = absurd h
zipped-later R Q more (x ∷ xs) (y ∷ ys) h = (more x y h.0, zipped-later R Q more xs ys h.1)

-- and of lists with one more
pub zipped-last : {X Y : Type 0} (R : X → Y → Type 0) (xs : List X) (ys : List Y) (x : X) (y : Y) → AllZip R xs ys → R x y
    → AllZip R (xs ++ x ∷ []) (ys ++ y ∷ [])
zipped-last R [] [] x y h k = (k, tt)
zipped-last R [] (w ∷ ws) x y h k = absurd h
zipped-last R (z ∷ zs) [] x y h k = absurd h
zipped-last R (z ∷ zs) (w ∷ ws) x y h k = (h.0, zipped-last R zs ws x y h.1 k)

-- accesses keep the numbers of their sites
pub numbered-later : (sites more : List AccessSite) (xs : List SitedAccess) (ns : List Access) → AreNumbered sites xs ns
    → AreNumbered (sites ++ more) xs ns
numbered-later sites more xs ns h =
    zipped-later (IsNumbered sites) (IsNumbered (sites ++ more)) (λ a n k.
    record { at = k.at; stores = k.stores; site = at-front sites more n.site a.site k.site }) xs ns h

module _ (program : Units) (f : State) (sites more : List AccessSite) where
  abbrev old : Renaming Location StorageUnit Site ℕ
  old = run_names program f sites

  abbrev new : Renaming Location StorageUnit Site ℕ
  new = run_names program f (sites ++ more)

  need-later : (n : Option Location) (u : Option StorageUnit) → IsRenamedNeed old n u → IsRenamedNeed new n u
  need-later None None h = h
  need-later None (Some u) h = h
  need-later (Some at) None h = h
  need-later (Some at) (Some u) h = h

  access-later : (d : AnAccess) (e : ARenamedAccess StorageUnit ℕ) → IsRenamedAccess old d e → IsRenamedAccess new d e
  access-later d e h =
      record {
        at = h.at;
        stores = h.stores;
        site = (at-front sites more e.site (site_in d.site) h.site.0, h.site.1);
      }

  pub event-later : (d : Event) (e : AnEvent StorageUnit ℕ) → IsRenamedEvent old d e → IsRenamedEvent new d e
  event-later d e h =
      record {
        process = h.process;
        makes = h.makes;
        needs = need-later d.needs e.needs h.needs;
        changes = h.changes;
        accesses = zipped-later (IsRenamedAccess old) (IsRenamedAccess new) access-later d.accesses e.accesses h.accesses;
      }
