-- What a CALL, CREATE or reference reads of the names in bounds, by what its actual arguments give.
use Rattle.std.proofs.Common.{◌≡◌, ℕ, zero, suc, ◌+◌, ◌-◌, ◌<◌, ◌≤◌, Bool, true, false, ◌&&◌, ◌||◌, nat_eq, List, [], ◌∷◌, ◌++◌, append-nil}
use Rattle.std.proofs.Common.{length, map}
use Rattle.std.proofs.Common.{Option, Some, None, Result, Ok, Err, is_none, is_some, refl, sym, ap, ◌∙◌, subst, arith, if◌then◌else◌}
use Rattle.std.proofs.Common.{slice_get}
use Rattle.std.proofs.lemmas.Bool.{eq-eqb, eqb-true}
use Rattle.std.proofs.lemmas.Grind.{flat_map-append}
use Rattle.std.proofs.lemmas.Option.{none-some, same_Some}
use Rattle.std.specs.List.{filter, flat_map}
use Rattle.std.specs.Option.{option_map, unwrap_or}
use Rattle.hep_accesses.specs.Exchanges.{next_on_top}
use Rattle.hep_accesses.specs.Accesses.{Access, access_at, binding_accesses, bound_access, bound_accesses, bound_names, is_new}
use Rattle.hep_accesses.specs.Accesses.{scope_on_top, site_of}
use Rattle.hep_image.proofs.Numbers.{unit-there}
use Rattle.hep_image.proofs.Variables.{further-none}
use Rattle.hep_layout.proofs.References.{references}
use Rattle.hep_layout.specs.Words.{IsOwnedAbove, address}
use Rattle.hep_machine.specs.Defaults.{no_dummy}
use Rattle.hep_machine.specs.Locations.{start_by_block}
use Rattle.hep_machine.specs.declared.event.Kind.{Kind}
use Rattle.hep_machine.specs.Words.{Actual, BlockName, Dummy, Layout, Level, Location, Name, Occurrence, Process, Scope, State, Statement}
use Rattle.hep_machine.specs.Words.{StorageSequence}
use Rattle.hep_machine.specs.Words.{Top, Units, Value, cells_before, common, common_block, constant_value, dummies_for, dummies_of}
use Rattle.hep_machine.specs.Words.{dummy_before, dummy_for, evaluated, from_element, further, index_among, is_common, is_dummy, local}
use Rattle.hep_machine.specs.Words.{names_in_block}
use Rattle.hep_machine.specs.Words.{next_activation, referred, run, same_name, storage_by_dummy, storage_of, unit_at, unit_of}
use Rattle.hep_races.proofs.BlocksNamed.{block-named}
use Rattle.hep_races.proofs.LookedAhead.{inside-top}
use Rattle.hep_races.proofs.NamedThere.{accesses-there}
use Rattle.hep_races.proofs.PurgedUnits.{owned-behind, start-above}
use Rattle.hep_races.proofs.UnitsInCells.{there}
use Rattle.hep_races.specs.BoundReads.{AreGivenOr, IsGivenAhead, IsReading, dummies_bound, dummies_in, first_cell, read_bound, start_bound}
use Rattle.hep_races.specs.BoundReads.{top_reading}
use Rattle.hep_races.specs.NamesInBounds.{bound_named, bounds_of_unit, named_with, occurrences_in_bounds, source_by, source_of}
use Rattle.hep_races.specs.StepEvents.{AreBoundsRead, AreThere, access_seen, bounds_of_next}
use Rattle.hep_races.specs.StoragePlaces.{IsThere}
use Rattle.hep_races.specs.declared.bound_names.BoundName.{BoundName}
use Rattle.hep_races.specs.declared.bound_names.BoundSource.{BoundSource}
use Rattle.hep_races.specs.declared.bound_names.BoundSource.TheVariants as source
use Rattle.hep_races.specs.declared.step_access.SitedAccess.{SitedAccess}
use Rattle.hep_source.proofs.NameTests.{index_there}
use Rattle.hep_step.specs.ArgumentAgreement.{AreGiven, IsGiven}
use Rattle.hep_step.specs.NextCalls.{comes_by, unit_by}
use Rattle.hep_step.specs.declared.call_kind.CallKind.{CallKind}
use Rattle.hep_step.specs.declared.call_kind.CallKind.TheVariants.{Calls, Creates, Refers}
use Rattle.hep_step.specs.declared.dummy_storage.DummyStorage.{DummyStorage}
use Rattle.hep_step.specs.declared.dummy_storage.DummyStorage.TheVariants as giving
use Rattle.hep_proc.specs.declared.process.Local.{Local}
use Rattle.hep_trace.proofs.TopLevels.{IsTopLevel, there as level-found}
use Rattle.hep_trace.specs.References.{IsAhead, top_after}
use Rattle.hep_trace.specs.declared.reference.LiveProcess.{LiveProcess}
use Rattle.hep_views.specs.CellOwners.{IsSought}
use Rattle.hep_views.specs.ListedProcesses.{block_place, place_of}
use Rattle.hep_views.specs.ProcessPositions.{whereabouts_at, whereabouts_with}
use Rattle.hep_views.specs.declared.place.Place.{Place}
use Rattle.hep_views.specs.declared.whereabouts.Whereabouts.{Whereabouts}

-- ---- one dummy argument

module _ (program : Units) (s : State) (layout : Layout) (scope : Scope) (a b : ℕ)
    (above : (x : Name) → IsOwnedAbove s a (storage_of scope x).start) where
  -- a value is in a storage unit of the new activation, and storage units are in cells
  abbrev pub IsStored : DummyStorage → Dummy → Type 0
  IsStored (giving.Value v) d = (y : Name) × (d.start ≡ local b y 1)
  IsStored (giving.Units first count) d = (address program s layout d.start ≡ Some first) × IsOwnedAbove s a d.start

  -- what a dummy argument has by its index
  pub record HasGiven (gs : List DummyStorage) (ds : List Dummy) (k : ℕ) : Type 0 where
    pub storage : DummyStorage
    pub dummy : Dummy
    pub given : slice_get gs k ≡ Some storage
    pub found : slice_get ds k ≡ Some dummy
    pub stored : IsStored storage dummy

  element-above : (e : StorageSequence) (n : Result ℕ Kind) (d : Dummy) → from_element e n ≡ Ok d → IsOwnedAbove s a e.start
      → IsOwnedAbove s a d.start
  element-above e (Ok n) d f over =
      let same : further e.start (n - 1) ≡ d.start = cc in
      subst (IsOwnedAbove s a) same (owned-behind s a e.start (n - 1) over)
  element-above e (Err k) d f over = absurd cc

  one-stored : (x : Name) (y : Actual) (g : DummyStorage) (d : Dummy) → dummy_for scope b x y ≡ Ok d → IsGiven program s layout b x y g d
      → IsStored g d
  one-stored x (evaluated v) (giving.Value w) d e h = (x, ap (λ (z : Dummy). z.start) h.1)
  one-stored x (referred r) (giving.Units first count) d e h =
      let some : 1 ≤ d.rest = let least = h.some in let rest = h.rest in omega (arith, least, rest) in
      let none : first + 0 ≡ first = omega arith in (
        ap (address program s layout) (sym (further-none d.start)) ∙ h.run 0 (omega (arith, some)) ∙ ap (λ n. Some n) none,
        element-above (storage_of scope r.0) _ d e (above r.0),
      )
  one-stored x (evaluated v) (giving.Units first count) d e h = absurd h
  one-stored x (referred r) (giving.Value w) d e h = absurd h

  all-stored : (xs : List Name) (ys : List Actual) (gs : List DummyStorage) (ds : List Dummy) → dummies_for scope b xs ys ≡ Ok ds
      → AreGiven program s layout b xs ys gs ds → (k : ℕ) → k < length xs → HasGiven gs ds k
  all-stored (x ∷ xs) (y ∷ ys) (g ∷ gs) (d ∷ ds) e h k less =
      by (dummy_for scope b x y) (dummies_for scope b xs ys) refl refl e k less (λ rest j inside. all-stored xs ys gs ds rest h.1 j inside)
    where
      by : (p : Result Dummy Kind) (q : Result (List Dummy) Kind) → dummy_for scope b x y ≡ p → dummies_for scope b xs ys ≡ q
          → dummy_before p q ≡ Ok (d ∷ ds) → (k : ℕ) → k < suc (length xs)
          → (dummies_for scope b xs ys ≡ Ok ds → (j : ℕ) → j < length xs → HasGiven gs ds j) → HasGiven (g ∷ gs) (d ∷ ds) k
      by (Err l) q f i e k less rest = absurd cc
      by (Ok c) (Err l) f i e k less rest = absurd cc
      by (Ok c) (Ok cs) f i e zero less rest =
          let first : dummy_for scope b x y ≡ Ok d = cc in
          record { storage = g; dummy = d; given = refl; found = refl; stored = one-stored x y g d first h.0 }
      by (Ok c) (Ok cs) f i e (suc k) less rest =
          let same : dummies_for scope b xs ys ≡ Ok ds = cc in
          let one = rest same k (omega (arith, less)) in
          record { storage = one.storage; dummy = one.dummy; given = one.given; found = one.found; stored = one.stored }
  all-stored [] ys gs ds e h k less = absurd (omega (arith, less))
  all-stored _ _ _ _ e h k less = absurd h

-- ---- names

-- the unit's index of a name is below the number of names
pub index-below : (x : Name) (xs : List Name) (k : ℕ) → index_among x xs ≡ Some k → k < length xs
index-below x [] k e = absurd (none-some k e)
index-below x (y ∷ ys) k e = by (same_name x y) (index_among x ys) refl e (index-below x ys)
  where
    by : (b : Bool) (o : Option ℕ) → index_among x ys ≡ o → (if b then Some 0 else option_map suc o) ≡ Some k
        → ((j : ℕ) → index_among x ys ≡ Some j → j < length ys) → k < suc (length ys)
    by true o f e rest = let first : 0 ≡ k = same_Some 0 k e in omega (arith, first)
    by false None f e rest = absurd (none-some k e)
    by false (Some j) f e rest =
        let next : suc j ≡ k = same_Some (suc j) k e in
        let inside = rest j f in
        omega (arith, next, inside)

-- where a name has its value
pub record IsInDummy (program : Units) (unit : List Statement) (x : Name) (k : ℕ) : Type 0 where
  pub index : index_among x (dummies_of unit) ≡ Some k

pub record IsInBlock (program : Units) (unit : List Statement) (x : Name) (place : Place) : Type 0 where
  pub index : index_among x (dummies_of unit) ≡ None
  pub block : BlockName
  pub held : common_block unit x ≡ Some block
  pub place_is : place ≡ block_place program block (1 + cells_before unit x (names_in_block unit block))

module _ (program : Units) (unit : List Statement) (x : Name) where
  abbrev IsSourced : BoundSource → Type 0
  IsSourced (source.Dummy k) = IsInDummy program unit x k
  IsSourced (source.Common place) = IsInBlock program unit x place

  pub sourced : (b : BoundSource) → source_of program unit x ≡ Some b → IsSourced b
  sourced b e = by (constant_value unit x) (index_among x (dummies_of unit)) (common_block unit x) refl refl b e
    where
      by : (v : Option Value) (o : Option ℕ) (c : Option BlockName) → index_among x (dummies_of unit) ≡ o → common_block unit x ≡ c
          → (b : BoundSource) → source_by program unit x v o c ≡ Some b → IsSourced b
      by (Some v) o c f g b e = absurd (none-some b e)
      by None (Some k) c f g b e = subst IsSourced (same_Some (source.Dummy k) b e) (record { index = f })
      by None None (Some c) f g b e = subst IsSourced (same_Some _ b e) (record { index = f; block = c; held = g; place_is = refl })
      by None None None f g b e = absurd (none-some b e)

-- ---- what is read

module _ {ahead : LiveProcess} {here : Whereabouts} {u : ℕ} {given : List DummyStorage} (r : IsReading ahead here u given) where
  abbrev program : Units
  program = ahead.image.now

  abbrev t : Top
  t = top_reading r

  abbrev s : State
  s = run program r.choices

  abbrev unit : List Statement
  unit = unit_at program u

  abbrev layout : Layout
  layout = r.is_ahead.lives.after.after.layout

  abbrev act : ℕ
  act = r.top.0.activation

  pub above : (x : Name) → IsOwnedAbove s act (storage_of (scope_on_top program t) x).start
  above = start-above program s act (references program r.choices act)

  -- what the dummy arguments are given
  pub argument : (k : ℕ) → k < length (dummies_of unit)
      → HasGiven program s layout (scope_on_top program t) act (next_activation s) above given (dummies_bound r) k
  argument k less =
      by (dummies_for (scope_on_top program t) (next_activation s) (dummies_of unit) r.given_is.actuals) refl r.given_is.bound
    where
      by : (o : Result (List Dummy) Kind) → dummies_for (scope_on_top program t) (next_activation s)
          (dummies_of unit) r.given_is.actuals ≡ o
          → AreGivenOr program s layout (dummies_of unit) r.given_is.actuals (Some given) o
          → HasGiven program s layout (scope_on_top program t) act (next_activation s) above given (dummies_in o) k
      by (Ok ds) e h =
          all-stored program s layout (scope_on_top program t) act (next_activation s) above
          (dummies_of unit) r.given_is.actuals given ds e h k
          less
      by (Err l) e h = absurd h

  module _ (x : Name) where
    abbrev scope : Scope
    scope = record { unit = unit; number = next_activation s; dummies = dummies_bound r }

    -- of a name by its index among the dummy arguments
    dummy-start : (k : ℕ) (d : Dummy) → index_among x (dummies_of unit) ≡ Some k → slice_get (dummies_bound r) k ≡ Some d
        → start_bound r x ≡ d.start
    dummy-start k d index found =
        ap (λ o. (storage_by_dummy scope x o).start) index ∙ ap (λ o. (unwrap_or o no_dummy).start) found

    block-start : (b : BlockName) → index_among x (dummies_of unit) ≡ None → common_block unit x ≡ Some b
        → start_bound r x ≡ common b (1 + cells_before unit x (names_in_block unit b))
    block-start b index held = ap (λ o. (storage_by_dummy scope x o).start) index ∙ ap (start_by_block scope x) held

    abbrev read_at : Location → Access
    read_at at = record { at = at; stores = false; site = site_of program t x }

    -- a storage unit that is there is none of the new activation's
    old-read : (at : Location) → IsThere program s at → bound_access program t x at ≡ read_at at ∷ []
    old-read (common b i) h = refl
    old-read (local a y i) h = ap (λ b. if b then [] else read_at (local a y i) ∷ []) (by (nat_eq a (next_activation s)) refl)
      where
        by : (b : Bool) → nat_eq a (next_activation s) ≡ b → b ≡ false
        by true e = let same = eqb-true a (next_activation s) e in let made = h.1 in absurd (omega (arith, made, same))
        by false e = refl

    new-read : (y : Name) → bound_access program t x (local (next_activation s) y 1) ≡ []
    new-read y =
        ap (λ b. if b then [] else read_at (local (next_activation s) y 1) ∷ []) (eq-eqb (next_activation s) (next_activation s) refl)

    -- in COMMON
    block-there : (b : BlockName) (i : ℕ) → common_block unit x ≡ Some b → IsThere program s (common b i)
    block-there b i held = block-named program unit (u, unit-there program u r.given_is.inside) x b held

    pub read-of-block : (place : Place) → IsInBlock program unit x place → (at : Location) × (read_bound r x ≡ read_at at ∷ [])
        × IsThere program s at × (place ≡ place_of program s at)
    read-of-block place h =
        let at = common h.block (1 + cells_before unit x (names_in_block unit h.block)) in (
          at,
          ap (bound_access program t x) (block-start h.block h.index h.held)
              ∙ old-read at (block-there h.block (1 + cells_before unit x (names_in_block unit h.block)) h.held),
          block-there h.block (1 + cells_before unit x (names_in_block unit h.block)) h.held,
          h.place_is,
        )

    -- of a dummy argument, by what it is given
    module _ (k : ℕ) (h : IsInDummy program unit x k) where
      abbrev one : HasGiven program s layout (scope_on_top program t) act (next_activation s) above given (dummies_bound r) k
      one = argument k (index-below x (dummies_of unit) k h.index)

      pub read-of-value : (v : Value) → one.storage ≡ giving.Value v → read_bound r x ≡ []
      read-of-value v e =
          let is = subst (λ g. IsStored program s layout (scope_on_top program t) act (next_activation s) above g one.dummy) e one.stored in
          ap (bound_access program t x) (dummy-start k one.dummy h.index one.found ∙ is.1) ∙ new-read is.0

      pub read-of-units : (first count : ℕ) → one.storage ≡ giving.Units first count → (at : Location)
          × (read_bound r x ≡ read_at at ∷ []) × IsThere program s at × (address program s layout at ≡ Some first) × IsOwnedAbove s act at
      read-of-units first count e =
          let is = subst (λ g. IsStored program s layout (scope_on_top program t) act (next_activation s) above g one.dummy) e one.stored in
          let at = one.dummy.start in
          let so = there program r.cells r.choices layout r.is_ahead.lives.after.after.laid at first is.0 in
          (at, ap (bound_access program t x) (dummy-start k one.dummy h.index one.found) ∙ old-read at so, so, is.0, is.1)

      pub first-of-value : first_cell (slice_get given k) ≡ None → read_bound r x ≡ []
      first-of-value e = by one.storage refl
        where
          by : (g : DummyStorage) → one.storage ≡ g → read_bound r x ≡ []
          by (giving.Value v) f = read-of-value v f
          by (giving.Units first count) f = absurd (none-some first (sym e ∙ ap first_cell (one.given ∙ ap (λ g. Some g) f)))

      -- storage units are sought from the process's top level
      pub reading-units : (first : ℕ) → first_cell (slice_get given k) ≡ Some first → (l : Local)
          → IsTopLevel ahead.machine.now ahead.process l
          → (at : Location) × (read_bound r x ≡ read_at at ∷ []) × IsSought program r.cells r.choices ahead.machine.now l.key first at
      reading-units first e l is = by one.storage refl
        where
          by : (g : DummyStorage) → one.storage ≡ g → (at : Location) × (read_bound r x ≡ read_at at ∷ [])
              × IsSought program r.cells r.choices ahead.machine.now l.key first at
          by (giving.Value v) f = absurd (none-some first (sym (ap first_cell (one.given ∙ ap (λ g. Some g) f)) ∙ e))
          by (giving.Units from count) f =
              let same : from ≡ first = same_Some from first (sym (ap first_cell (one.given ∙ ap (λ g. Some g) f)) ∙ e) in
              let it = read-of-units from count f in
              let level = level-found r.is_ahead.lives.after r.is_ahead.lives.lives l is in (
                it.0,
                it.1,
                record {
                  after = r.is_ahead.lives.after.after;
                  few = r.is_ahead.lives.after.few;
                  kept = it.3 ∙ ap (λ n. Some n) same;
                  node = level.0;
                  there = level.1;
                  owned = subst (λ b. IsOwnedAbove s b it.0) level.2 it.4;
                },
              )

    -- ---- what is read is there

    abbrev read_there : Type 0
    read_there = AreThere program s (read_bound r x)

    inside : unit_of s act < length program
    inside = inside-top r.is_ahead.lives

    one-there : (at : Location) → read_bound r x ≡ read_at at ∷ [] → IsThere program s at → read_there
    one-there at e h = subst (AreThere program s) (sym e) (record { at = h; unit = inside }, tt)

    dummy-there : (k : ℕ) → IsInDummy program unit x k → read_there
    dummy-there k h = by (one k h).storage refl
      where
        by : (g : DummyStorage) → (one k h).storage ≡ g → read_there
        by (giving.Value v) e = subst (AreThere program s) (sym (read-of-value k h v e)) tt
        by (giving.Units first count) e = let it = read-of-units k h first count e in one-there it.0 it.1 it.2

    pub source-there : (b : BoundSource) → source_of program unit x ≡ Some b → read_there
    source-there (source.Dummy k) e = dummy-there k (sourced program unit x (source.Dummy k) e)
    source-there (source.Common place) e =
        let it = read-of-block place (sourced program unit x (source.Common place) e) in
        one-there it.0 it.1 it.2

  -- ---- of all names

  abbrev read_named : BoundName → List Access
  read_named b = read_bound r b.name

  abbrev is_bound : Name → Bool
  is_bound x = is_none (constant_value unit x) && (is_dummy unit x || is_common unit x)

  -- a name is in the table just where it is a bound's
  one-named : (x : Name) → flat_map read_named (bound_named program unit x) ≡ (if is_bound x then read_bound r x else [])
  one-named x =
      by (constant_value unit x) (index_among x (dummies_of unit)) (common_block unit x)
      ∙ ap (λ d. if is_none (constant_value unit x) && (d || is_common unit x) then read_bound r x else [])
      (index_there x (dummies_of unit))
    where
      by : (v : Option Value) (o : Option ℕ) (c : Option BlockName)
          → flat_map read_named (named_with program unit x (source_by program unit x v o c))
          ≡ (if is_none v && (is_some o || is_some c) then read_bound r x else [])
      by (Some v) o c = refl
      by None (Some k) c = append-nil (read_bound r x)
      by None None (Some b) = append-nil (read_bound r x)
      by None None None = refl

  one-there-named : (x : Name) → AreThere program s (if is_bound x then read_bound r x else [])
  one-there-named x = subst (AreThere program s) (one-named x) (by (source_of program unit x) refl)
    where
      by : (o : Option BoundSource) → source_of program unit x ≡ o → AreThere program s (flat_map read_named (named_with program unit x o))
      by None e = tt
      by (Some b) e = subst (AreThere program s) (sym (append-nil (read_bound r x))) (source-there x b e)

  -- the names of occurrences
  abbrev names_at : List Occurrence → List Name
  names_at os = filter is_bound (map (λ (o : Occurrence). o.name) os)

  all-named : (os : List Occurrence) → flat_map read_named (flat_map (λ (o : Occurrence). bound_named program unit o.name) os)
      ≡ flat_map (read_bound r) (names_at os)
  all-named [] = refl
  all-named (o ∷ os) =
      flat_map-append read_named (bound_named program unit o.name) (flat_map (λ (p : Occurrence). bound_named program unit p.name) os)
      ∙ (λ i. one-named o.name i ++ all-named os i) ∙ by (is_bound o.name)
    where
      by : (b : Bool) → (if b then read_bound r o.name else []) ++ flat_map (read_bound r) (names_at os)
          ≡ flat_map (read_bound r) (if b then o.name ∷ names_at os else names_at os)
      by true = refl
      by false = refl

  all-there-named : (os : List Occurrence) → AreThere program s (flat_map (read_bound r) (names_at os))
  all-there-named [] = tt
  all-there-named (o ∷ os) = by (is_bound o.name) (one-there-named o.name) (all-there-named os)
    where
      by : (b : Bool) → AreThere program s (if b then read_bound r o.name else [])
          → AreThere program s (flat_map (read_bound r) (names_at os))
          → AreThere program s (flat_map (read_bound r) (if b then o.name ∷ names_at os else names_at os))
      by true h rest = accesses-there program s (read_bound r o.name) (flat_map (read_bound r) (names_at os)) h rest
      by false h rest = rest

  -- what is read of the bounds of the unit
  pub reads-are : flat_map read_named (bounds_of_unit program unit) ≡ bound_accesses program t unit (
      dummies_for (scope_on_top program t) (next_activation s) (dummies_of unit) r.given_is.actuals)
  reads-are =
      all-named (occurrences_in_bounds unit)
      ∙ by (dummies_for (scope_on_top program t) (next_activation s) (dummies_of unit) r.given_is.actuals) refl r.given_is.bound
    where
      by : (o : Result (List Dummy) Kind) → dummies_for (scope_on_top program t) (next_activation s)
          (dummies_of unit) r.given_is.actuals ≡ o
          → AreGivenOr program s layout (dummies_of unit) r.given_is.actuals (Some given) o
          → flat_map (read_bound r) (bound_names program t unit) ≡ bound_accesses program t unit o
      by (Ok ds) e h =
          ap (λ (q : Result (List Dummy) Kind). flat_map (λ (x : Name). bound_access program t x
          (storage_of (record { unit = unit; number = next_activation s; dummies = dummies_in q }) x).start) (bound_names program t unit)) e
      by (Err l) e h = absurd h

  pub reads-there : AreThere program s (flat_map read_named (bounds_of_unit program unit))
  reads-there = subst (AreThere program s) (sym (all-named (occurrences_in_bounds unit))) (all-there-named (occurrences_in_bounds unit))

  -- and so of what comes next
  next-reads : bound_accesses program t unit (dummies_for (scope_on_top program t) (next_activation s) (dummies_of unit) r.given_is.actuals)
      ≡ bounds_of_next program t (next_on_top program t)
  next-reads = by r.given_is.way r.given_is.unit ∙ ap (bounds_of_next program t) (sym r.given_is.does_so)
    where
      by : (way : CallKind) → u ≡ unit_by way program r.given_is.name
          → binding_accesses program t u r.given_is.actuals ≡ bounds_of_next program t (comes_by way r.given_is.name r.given_is.actuals)
      by Calls e = ap (λ v. binding_accesses program t v r.given_is.actuals) e
      by Creates e = ap (λ v. binding_accesses program t v r.given_is.actuals) e
      by Refers e = ap (λ v. binding_accesses program t v r.given_is.actuals) e

  pub bounds-read : (reads : List SitedAccess) → reads ≡ map (access_seen program s) (flat_map read_named (bounds_of_unit program unit))
      → AreBoundsRead program t reads
  bounds-read reads e =
      let all = reads-are ∙ next-reads in
      record { seen = e ∙ ap (map (access_seen program s)) all; there = subst (AreThere program s) all reads-there }

-- where an actual argument is no element nothing is read
pub range-reads : (cells : ℕ) (choices : List ℕ) (ahead : LiveProcess) (top : Level × Process) (h : IsAhead cells choices ahead top) (u : ℕ)
    → IsGivenAhead cells choices ahead top h u None
    → bounds_of_next ahead.image.now (top_after ahead.image.now choices ahead.process top)
    (next_on_top ahead.image.now (top_after ahead.image.now choices ahead.process top)) ≡ []
range-reads cells choices ahead top h u g =
    ap (bounds_of_next ahead.image.now (top_after ahead.image.now choices ahead.process top)) g.does_so ∙ by g.way g.unit
  where
    none : binding_accesses ahead.image.now (top_after ahead.image.now choices ahead.process top) u g.actuals ≡ []
    none = of-bound (dummies_for (scope_on_top ahead.image.now (top_after ahead.image.now choices ahead.process top))
        (next_activation (run ahead.image.now choices)) (dummies_of (unit_at ahead.image.now u)) g.actuals) g.bound
      where
        of-bound : (o : Result (List Dummy) Kind) → AreGivenOr ahead.image.now (run ahead.image.now choices) h.lives.after.after.layout
            (dummies_of (unit_at ahead.image.now u)) g.actuals None o
            → bound_accesses ahead.image.now (top_after ahead.image.now choices ahead.process top) (unit_at ahead.image.now u) o ≡ []
        of-bound (Err k) f = refl
        of-bound (Ok ds) f = absurd f

    by : (way : CallKind) → u ≡ unit_by way ahead.image.now g.name
        → bounds_of_next ahead.image.now (top_after ahead.image.now choices ahead.process top) (comes_by way g.name g.actuals) ≡ []
    by Calls e = ap (λ v. binding_accesses ahead.image.now (top_after ahead.image.now choices ahead.process top) v g.actuals) (sym e) ∙ none
    by Creates e = ap (λ v. binding_accesses ahead.image.now (top_after ahead.image.now choices ahead.process top) v g.actuals) (sym e)
        ∙ none
    by Refers e = ap (λ v. binding_accesses ahead.image.now (top_after ahead.image.now choices ahead.process top) v g.actuals) (sym e)
        ∙ none

-- ---- the rows of the table

abbrev AreSourced : Units → List Statement → List BoundName → Type 0
AreSourced units body [] = Unit {0}
AreSourced units body (b ∷ bs) = (source_of units body b.name ≡ Some b.source) × AreSourced units body bs

-- names one after another
rows-both : (units : Units) (body : List Statement) (xs ys : List BoundName) → AreSourced units body xs → AreSourced units body ys
    → AreSourced units body (xs ++ ys)
rows-both units body [] ys h k = k
rows-both units body (x ∷ xs) ys h k = (h.0, rows-both units body xs ys h.1 k)

-- the names of occurrences
rows-sourced : (units : Units) (body : List Statement) (os : List Occurrence)
    → AreSourced units body (flat_map (λ (o : Occurrence). bound_named units body o.name) os)
rows-sourced units body [] = tt
rows-sourced units body (o ∷ os) =
    rows-both units body (bound_named units body o.name) (flat_map (λ (p : Occurrence). bound_named units body p.name) os)
    (by (source_of units body o.name) refl) (rows-sourced units body os)
  where
    by : (q : Option BoundSource) → source_of units body o.name ≡ q → AreSourced units body (named_with units body o.name q)
    by None e = tt
    by (Some b) e = (e, tt)

-- one of them
row-found : (units : Units) (body : List Statement) (bs : List BoundName) (i : ℕ) (b : BoundName) → AreSourced units body bs
    → slice_get bs i ≡ Some b → source_of units body b.name ≡ Some b.source
row-found units body [] i b h e = absurd (none-some b e)
row-found units body (c ∷ cs) zero b h e =
    subst (λ (d : BoundName). source_of units body d.name ≡ Some d.source) (same_Some c b e) h.0
row-found units body (c ∷ cs) (suc i) b h e = row-found units body cs i b h.1 e

-- a name in a unit's bounds has the source that the definition has
pub row-sourced : (units : Units) (body : List Statement) (i : ℕ) (b : BoundName) → slice_get (bounds_of_unit units body) i ≡ Some b
    → source_of units body b.name ≡ Some b.source
row-sourced units body i b e =
    row-found units body (bounds_of_unit units body) i b (rows-sourced units body (occurrences_in_bounds body)) e

-- ---- as it is seen

module _ {ahead : LiveProcess} {here : Whereabouts} {u : ℕ} {given : List DummyStorage} (r : IsReading ahead here u given) (x : Name) where
  abbrev placed : Access → Place
  placed a = place_of ahead.image.now (run ahead.image.now r.choices) a.at

  abbrev seen : Access → SitedAccess
  seen = access_seen ahead.image.now (run ahead.image.now r.choices)

  -- where the process is
  at-here : whereabouts_at ahead.image.now (run ahead.image.now r.choices) ahead.process r.top.0 ≡ here
  at-here =
      same_Some (whereabouts_at ahead.image.now (run ahead.image.now r.choices) ahead.process r.top.0) here (
      sym (ap (whereabouts_with ahead.image.now (run ahead.image.now r.choices) ahead.process) r.is_ahead.lives.lives) ∙ r.here_is)

  -- what is read of a name has the name and the place
  seen-by : (at : Location) (place : Place) → place ∷ [] ≡ map placed (bound_access ahead.image.now (top_reading r) x at)
      → record { at = place; stores = false; site = record { unit = here.unit; line = here.line; name = x } } ∷ []
      ≡ map seen (bound_access ahead.image.now (top_reading r) x at)
  seen-by at place = by (is_new ahead.image.now (top_reading r) at)
    where
      by : (b : Bool) → place ∷ [] ≡ map placed (if b then [] else access_at ahead.image.now (top_reading r) x false (Ok at))
          → record { at = place; stores = false; site = record { unit = here.unit; line = here.line; name = x } } ∷ []
          ≡ map seen (if b then [] else access_at ahead.image.now (top_reading r) x false (Ok at))
      by true e = absurd cc
      by false e =
          let same : place ≡ place_of ahead.image.now (run ahead.image.now r.choices) at = cc in
          λ i. record {
            at = same i;
            stores = false;
            site = record { unit = (sym at-here i).unit; line = (sym at-here i).line; name = x };
          } ∷ []

  pub one-seen : (place : Place) → place ∷ [] ≡ map placed (read_bound r x)
      → record { at = place; stores = false; site = record { unit = here.unit; line = here.line; name = x } } ∷ [] ≡ map seen
      (read_bound r x)
  one-seen place e = seen-by (start_bound r x) place e

  pub none-seen : [] ≡ map placed (read_bound r x) → [] ≡ map seen (read_bound r x)
  none-seen e = by (read_bound r x) e
    where
      by : (xs : List Access) → [] ≡ map placed xs → [] ≡ map seen xs
      by [] e = refl
      by (x ∷ xs) e = absurd cc
