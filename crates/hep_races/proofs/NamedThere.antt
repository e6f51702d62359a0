-- What a step needs and accesses is there before it.
use Rattle.std.proofs.Common.{◌≡◌, ℕ, ◌<◌, Bool, true, false, List, [], ◌∷◌, ◌++◌, length, map, Option, Some, None, Result, Ok, Err, refl}
use Rattle.std.proofs.Common.{ap, ◌∙◌, subst}
use Rattle.std.proofs.Common.{if◌then◌else◌}
use Rattle.std.proofs.lemmas.Option.{none-some, same_Some}
use Rattle.std.specs.List.{filter, flat_map}
use Rattle.hep_accesses.specs.Accesses.{Access, access_at, accesses_of_result, found, location_of, need_of_next, need_of_test}
use Rattle.hep_accesses.specs.Exchanges.{BeginsNoActivation}
use Rattle.hep_event.specs.NamedVariables.{IsNamed}
use Rattle.hep_event.specs.Sites.{IsSite}
use Rattle.hep_event.specs.declared.sites.Site.{Site}
use Rattle.hep_layout.specs.Words.{address}
use Rattle.hep_machine.specs.Evaluation.{reading}
use Rattle.hep_machine.specs.Words.{Level, Location, Name, Next, Process, Reference, State, Statement, Top, Units, function_name, run}
use Rattle.hep_machine.specs.Words.{unit_on_top}
use Rattle.hep_machine.specs.Words.{assigning, does, ending_loop, entering_loop, evaluating, leaving, purging, referring, testing, unit_of}
use Rattle.hep_machine.specs.Words.{variable_of}
use Rattle.hep_machine.specs.Words.{wants}
use Rattle.hep_machine.specs.Words.{calling, creating}
use Rattle.hep_machine.specs.declared.event.Kind.{Kind}
use Rattle.hep_races.proofs.UnitsInCells.{there}
use Rattle.hep_races.specs.StepChanges.{accesses_of_fault, accesses_unless_fault, as_read, change_of_test, changes_of_next, is_full_before}
use Rattle.hep_races.specs.StepChanges.{located, units_of_target}
use Rattle.hep_races.specs.StepEvents.{AreThere, AreUnitsThere, IsNamedUnit}
use Rattle.hep_races.specs.StoragePlaces.{IsThere}
use Rattle.hep_races.specs.declared.step_access.NamedUnit.{NamedUnit}
use Rattle.hep_source.specs.declared.function.StateFunction.{StateFunction}
use Rattle.hep_source.specs.declared.function.StateFunction.TheVariants.{SetEmpty, WaitFull}
use Rattle.hep_trace.specs.References.{top_after}
use Rattle.hep_trace.specs.declared.reference.LiveProcess.{LiveProcess}

-- what is accessed by a fault is there too
pub fault-there : (program : Units) (s : State) (n : Next) (xs : List Access) → AreThere program s xs
    → AreThere program s (accesses_of_fault n xs)
fault-there program s (does (entering_loop x i j k)) xs h = tt
fault-there program s (does (ending_loop d)) xs h = by xs h
  where
    by : (xs : List Access) → AreThere program s xs → AreThere program s (map as_read xs)
    by [] h = tt
    by (x ∷ xs) h = (record { at = h.0.at; unit = h.0.unit }, by xs h.1)
fault-there program s _ xs h = h

-- accesses of two lists
pub accesses-there : (program : Units) (s : State) (xs ys : List Access) → AreThere program s xs → AreThere program s ys
    → AreThere program s (xs ++ ys)
accesses-there program s [] ys h k = k
accesses-there program s (x ∷ xs) ys h k = (h.0, accesses-there program s xs ys h.1 k)

-- storage units of two lists
pub both-there : (program : Units) (s : State) (xs ys : List Location) → AreUnitsThere program s xs → AreUnitsThere program s ys
    → AreUnitsThere program s (xs ++ ys)
both-there program s [] ys h k = k
both-there program s (x ∷ xs) ys h k = (h.0, both-there program s xs ys h.1 k)

-- and those that pass a test
filtered-there : (program : Units) (s : State) (test : Location → Bool) (xs : List Location) → AreUnitsThere program s xs
    → AreUnitsThere program s (filter test xs)
filtered-there program s test [] h = tt
filtered-there program s test (x ∷ xs) h = by (test x) (filtered-there program s test xs h.1)
  where
    by : (b : Bool) → AreUnitsThere program s (filter test xs)
        → AreUnitsThere program s (if b then x ∷ filter test xs else filter test xs)
    by true k = (h.0, k)
    by false k = k

module _ (cells : ℕ) (choices : List ℕ) (ahead : LiveProcess) (top : Level × Process) (n : Option NamedUnit)
    (inside : unit_of (run ahead.image.now choices) top.0.activation < length ahead.image.now) where
  abbrev program : Units
  program = ahead.image.now

  abbrev t : Top
  t = top_after program choices ahead.process top

  abbrev s : State
  s = run program choices

  abbrev unit : List Statement
  unit = unit_on_top program t

  -- what is named is the one that it names
  abbrev pub IsNamedIn : Next → Type 0
  IsNamedIn next = (x : Reference) → IsNamed unit next x → (u : NamedUnit) × (n ≡ Some u) × IsNamedUnit cells choices ahead t x u

  module _ (x : Reference) (u : NamedUnit) (is : IsNamedUnit cells choices ahead t x u) where
    unit-there : (site : Option Site) (q : Result Location Kind) (at : Location)
        → IsSite program s (address program s is.site.after.after.layout) site q → q ≡ Ok at → IsThere program s at
    unit-there (Some site) (Ok l) at h e =
        let same : l ≡ at = cc in
        subst (IsThere program s) same (there program cells choices is.site.after.after.layout is.site.after.after.laid l site.cell h.0)
    unit-there None (Ok l) at h e = absurd h
    unit-there (Some site) (Err k) at h e = absurd h
    unit-there None (Err k) at h e = absurd cc

    location-there : (at : Location) → location_of program t x ≡ Ok at → IsThere program s at
    location-there at e = unit-there u.unit (location_of program t x) at is.site.site_is e

    found-there : (at : Location) → found program t (location_of program t x) ≡ Some at → IsThere program s at
    found-there at e = by (location_of program t x) refl e
      where
        by : (q : Result Location Kind) → location_of program t x ≡ q → found program t q ≡ Some at → IsThere program s at
        by (Ok l) f g = location-there at (f ∙ ap (λ l. Ok l) (same_Some l at g))
        by (Err k) f g = absurd (none-some at g)

    access-there : (stores : Bool) → AreThere program s (access_at program t x.0 stores (location_of program t x))
    access-there stores = by (location_of program t x) refl
      where
        by : (q : Result Location Kind) → location_of program t x ≡ q → AreThere program s (access_at program t x.0 stores q)
        by (Ok l) f = (record { at = location-there l f; unit = inside }, tt)
        by (Err k) f = tt

    located-there : AreUnitsThere program s (located (location_of program t x))
    located-there = by (location_of program t x) refl
      where
        by : (q : Result Location Kind) → location_of program t x ≡ q → AreUnitsThere program s (located q)
        by (Ok l) f = (location-there l f, tt)
        by (Err k) f = tt

    reference-change : (b : Bool) → AreUnitsThere program s (if b then located (location_of program t x) else [])
    reference-change true = located-there
    reference-change false = tt

    test-change : (f : StateFunction) → AreUnitsThere program s (change_of_test program t f x)
    test-change SetEmpty = filtered-there program s (is_full_before program t) (located (location_of program t x)) located-there
    test-change _ = tt

    reference-need : (b : Bool) (at : Location) → (if b then found program t (location_of program t x) else None) ≡ Some at
        → IsThere program s at
    reference-need true at e = found-there at e
    reference-need false at e = absurd (none-some at e)

    test-need : (f : StateFunction) (at : Location) → need_of_test program t f x ≡ Some at → IsThere program s at
    test-need WaitFull at e = found-there at e
    test-need _ at e = absurd (none-some at e)

    reference-access : (b stores : Bool) → AreThere program s (if b then [] else access_at program t x.0 stores (location_of program t x))
    reference-access true stores = tt
    reference-access false stores = access-there stores

  pub need-there : (x : Next) → IsNamedIn x → (at : Location) → need_of_next program t x ≡ Some at → IsThere program s at
  need-there (wants (evaluating (reading r))) named at e = let u = named r refl in reference-need r u.0 u.2 r.0.asynchronous at e
  need-there (wants (evaluating (testing f r))) named at e = let u = named r refl in test-need r u.0 u.2 f at e
  need-there (does (assigning r v)) named at e = let u = named r refl in reference-need r u.0 u.2 r.0.asynchronous at e
  need-there _ named at e = absurd (none-some at e)

  result-there : IsNamedIn (does leaving) → (y : Option Name) → function_name unit ≡ y → AreThere program s (accesses_of_result program t y)
  result-there named None e = tt
  result-there named (Some y) e = let u = named (y, []) (y, e, refl) in access-there (y, []) u.0 u.2 false

  pub all-there : (x : Next) → BeginsNoActivation x → IsNamedIn x → AreThere program s (accesses_unless_fault program t x)
  all-there (wants (evaluating (reading r))) b named = let u = named r refl in reference-access r u.0 u.2 r.0.asynchronous false
  all-there (wants (referring x ys)) b named = absurd b
  all-there (does (assigning r v)) b named = let u = named r refl in reference-access r u.0 u.2 r.0.asynchronous true
  all-there (does (entering_loop x i j k)) b named = let u = named (x, []) refl in access-there (x, []) u.0 u.2 true
  all-there (does (ending_loop d)) b named =
      let u = named (variable_of unit d, []) refl in
      access-there (variable_of unit d, []) u.0 u.2 true
  all-there (does leaving) b named = result-there named (function_name unit) refl
  all-there (does (calling x ys)) b named = absurd b
  all-there (does (creating x ys)) b named = absurd b
  all-there _ b named = tt

  -- what is made full or empty is there, if what is purged is
  pub changes-there : (x : Next) → IsNamedIn x
      → ((targets : List Reference) → x ≡ does (purging targets) → AreUnitsThere program s (flat_map (units_of_target program t) targets))
      → AreUnitsThere program s (changes_of_next program t x)
  changes-there (wants (evaluating (reading r))) named purged = let u = named r refl in reference-change r u.0 u.2 r.0.asynchronous
  changes-there (wants (evaluating (testing f r))) named purged = let u = named r refl in test-change r u.0 u.2 f
  changes-there (does (assigning r v)) named purged = let u = named r refl in reference-change r u.0 u.2 r.0.asynchronous
  changes-there (does (purging targets)) named purged =
      filtered-there program s (is_full_before program t) (flat_map (units_of_target program t) targets) (purged targets refl)
  changes-there _ named purged = tt
