-- In a run dummy arguments stand for what is of their activation, of one above it, or in COMMON; and nothing is stored ahead.
use Rattle.hep_machine.proofs.Others.{each_turn}
use Rattle.std.proofs.Common.{◌≡◌, ◌⊎◌, inl, inr, ℕ, zero, suc, ◌-◌, ◌<◌, ◌≤◌, true, List, [], ◌∷◌, ◌++◌, length, Option, Some, None, refl, ap, ◌∙◌, subst, arith, map, nat_le, option_to_list, length-append}
use Rattle.std.proofs.lemmas.Bool.{ne_eqb, cases_order}
use Rattle.std.proofs.lemmas.Bool.Decides.{nat_tests}
use Rattle.std.proofs.lemmas.Option.{slice_get_past}
use Rattle.hep_machine.specs.Words.{DataGroup, Target, Name, Value, index_among, Units, dummies_of, main_unit, unit_at, unset_cell, constant_value, Repeated, Stretch, data_groups, elements_named, BlockName, common_block, no_dummy, is_held, Scope, dummy_at, start_by_block, storage_by_dummy, storage_of, StorageUnits}
use Rattle.hep_machine.specs.Words.{all_values_given, index_of_location, opening, storage_units_named, storage_units_of, with_group, with_groups, with_values, activation_of, living, parent_of, run, run_from, Activation, Dummy, Level, Location, Process, State, Store, local, common, Top, next_activation, scope_of, step}
use Rattle.hep_machine.specs.Words.{distance, further}
use Rattle.hep_machine.proofs.Ages.{IsAged, aged, older_parent, on_stack_made}
use Rattle.hep_machine.proofs.Changes.{by_step, next_on, top_in}
use Rattle.hep_machine.proofs.Held.{held_is}
use Rattle.hep_layout.specs.Words.{IsAbove, IsMadeAt, IsOwnedAbove}
use Rattle.hep_layout.proofs.HeldFrames.{run-last, each-run, turned}
use Rattle.hep_layout.proofs.Memory.{activation-kept, activation-last, same-activation}
use Rattle.hep_layout.proofs.Passed.{ArePassed, HasPassed, HasStored, IsMadeScope, IsPassed, KeepsLater, made-further, made-storage, stored-next}
use Rattle.hep_layout.proofs.Stacks.{top-numbered}
use Rattle.hep_layout.proofs.FrameTree.{stacked-top}

-- ---- what holds of the opening and goes on from step to step

pub each-state : (program : Units) (P : State → Type 0) → ((ps : List ℕ) (p : ℕ) (t : State) → step program p (run program ps) ≡ Some t → run program (ps ++ p ∷ []) ≡ t → P (run program ps) → P t) → P (run program []) → (ps : List ℕ) → P (run program ps)
each-state program P next first =
    each-run (λ ps. P (run program ps)) first (λ ps p h. rw run-last (each_turn P program p (run program ps) h (λ t e. next ps p t e (turned program ps p t e) h)))

-- ---- above

above-self : (s : State) (a : ℕ) → IsAbove s a a
above-self s a among h closed = h

above-child : (s : State) (above a c : ℕ) → IsAbove s above a → parent_of s c ≡ Some a → IsAbove s above c
above-child s above a c h e among k closed = h among (closed c a k e) closed

above-later : (s t : State) (above a : ℕ) → ((c b : ℕ) → parent_of s c ≡ Some b → parent_of t c ≡ Some b) → IsAbove s above a → IsAbove t above a
above-later s t above a parents h among k closed = h among k (λ c b m e. closed c b m (parents c b e))

owned-child : (s : State) (a c : ℕ) (at : Location) → IsOwnedAbove s a at → parent_of s c ≡ Some a → IsOwnedAbove s c at
owned-child s a c (local b x i) h e = above-child s b a c h e
owned-child s a c (common b k) h e = tt

owned-later : (s t : State) (a : ℕ) (at : Location) → ((c b : ℕ) → parent_of s c ≡ Some b → parent_of t c ≡ Some b) → IsOwnedAbove s a at → IsOwnedAbove t a at
owned-later s t a (local b x i) parents h = above-later s t b a parents h
owned-later s t a (common b k) parents h = tt

owned-further : (s : State) (a : ℕ) (at : Location) (k : ℕ) → IsOwnedAbove s a at → IsOwnedAbove s a (further at k)
owned-further s a (local b x i) k h = h
owned-further s a (common b i) k h = tt

-- ---- dummy arguments

abbrev pub AreReferences : State → Type 0
AreReferences s = (a k : ℕ) → IsOwnedAbove s a (dummy_at (activation_of s a).dummies k).start

-- what is above an activation that was made was made
above-made : (s : State) (above a : ℕ) → IsAged s → a ≤ length s.activations → IsAbove s above a → above ≤ length s.activations
above-made s above a old le h = grind (arith, nat_tests, h (λ z. nat_le z (length s.activations)) (grind (arith, nat_tests)) (λ c b k e. grind (arith, nat_tests, older_parent s c b old e)))

owned-made : (s : State) (a : ℕ) (at : Location) → IsAged s → a ≤ length s.activations → IsOwnedAbove s a at → IsMadeAt (length s.activations) at
owned-made s a (local b x i) old le h = above-made s b a old le h
owned-made s a (common b k) old le h = tt

made-scope : (program : Units) (s : State) (a : ℕ) → IsAged s → a ≤ length s.activations → AreReferences s → IsMadeScope (length s.activations) (scope_of program s a)
made-scope program s a old le h = (le, λ k. owned-made s a (dummy_at (activation_of s a).dummies k).start old le (h a k))

-- what a name stands for where it is used
owned-storage : (program : Units) (s : State) (a : ℕ) (x : Name) → AreReferences s → IsOwnedAbove s a (storage_of (scope_of program s a) x).start
owned-storage program s a x h = by_index (index_among x (dummies_of (scope_of program s a).unit)) where
  by_block : (b : Option BlockName) → IsOwnedAbove s a (start_by_block (scope_of program s a) x b)
  by_block None = above-self s a
  by_block (Some b) = tt

  by_index : (o : Option ℕ) → IsOwnedAbove s a (storage_by_dummy (scope_of program s a) x o).start
  by_index None = by_block (common_block (scope_of program s a).unit x)
  by_index (Some k) = h a k

-- a dummy argument that is there was passed; else it is none
passed-at : (scope : Scope) (c : ℕ) (ds : List Dummy) (k : ℕ) → ArePassed scope c ds → IsPassed scope c (dummy_at ds k).start ⊎ (dummy_at ds k ≡ no_dummy)
passed-at scope c [] k h = inr refl
passed-at scope c (d ∷ ds) zero h = inl h.0
passed-at scope c (d ∷ ds) (suc k) h = passed-at scope c ds k h.1

no-activation : (s : State) (a k : ℕ) → length s.activations < a → IsOwnedAbove s a (dummy_at (activation_of s a).dummies k).start
no-activation s zero k less = absurd (omega arith)
no-activation s (suc i) k less = rw (slice_get_past s.activations i (omega arith)) tt

references-step : (program : Units) (t : Top) (s : State) → IsAged t.state → AreReferences t.state → HasPassed program t s → AreReferences s
references-step program t s old h (inl same) a k =
    let kept = λ (c : ℕ). same-activation t.state s c same in
    rw kept (owned-later t.state s a (dummy_at (activation_of t.state a).dummies k).start (λ c b e. ap (λ (z : Activation). z.parent) (kept c) ∙ e) (h a k))
references-step program t s old h (inr (x, more, owner, passed)) a k = elim (cases_order a (suc (length t.state.activations))) [
  | inl same ↦
      let here : activation_of s a ≡ x = ap (activation_of s) same ∙ newest in
      let number : a ≡ next_activation t.state = omega (arith, same) in
      rw here (rw number (of_new (passed-at (scope_of program t.state t.level.activation) (next_activation t.state) x.dummies k passed)))
  | inr (inl less) ↦
      rw (activation-kept t.state s x a more (omega (arith, less))) (owned-later t.state s a (dummy_at (activation_of t.state a).dummies k).start parents (h a k))
  | inr (inr above) ↦ no-activation s a k (omega (arith, above, simp length-append at (ap length more)))
] where
  newest : activation_of s (suc (length t.state.activations)) ≡ x
  newest = activation-last t.state s x more

  parents : (c b : ℕ) → parent_of t.state c ≡ Some b → parent_of s c ≡ Some b
  parents c b e = ap (λ (z : Activation). z.parent) (activation-kept t.state s x c more (older_parent t.state c b old e).2) ∙ e

  child : parent_of s (next_activation t.state) ≡ Some t.level.activation
  child = let same : next_activation t.state ≡ suc (length t.state.activations) = omega arith in ap (parent_of s) same ∙ (ap (λ (z : Activation). z.parent) newest ∙ owner)

  of_passed : (at : Location) → IsPassed (scope_of program t.state t.level.activation) (next_activation t.state) at → IsOwnedAbove s (next_activation t.state) at
  of_passed at (inl (z, e)) = rw e (above-self s (next_activation t.state))
  of_passed at (inr (z, j, e)) =
      let start = (storage_of (scope_of program t.state t.level.activation) z).start in
      let there = owned-further t.state t.level.activation start j (owned-storage program t.state t.level.activation z h) in
      rw e (owned-child s t.level.activation (next_activation t.state) (further start j) (owned-later t.state s t.level.activation (further start j) parents there) child)

  of_new : IsPassed (scope_of program t.state t.level.activation) (next_activation t.state) (dummy_at x.dummies k).start ⊎ (dummy_at x.dummies k ≡ no_dummy) → IsOwnedAbove s (next_activation t.state) (dummy_at x.dummies k).start
  of_new (inl there) = of_passed (dummy_at x.dummies k).start there
  of_new (inr none) = rw none tt

-- ---- what is stored

abbrev pub IsUnsetAhead : State → Type 0
IsUnsetAhead s = (a : ℕ) (x : Name) (i : ℕ) → length s.activations < a → s.store (local a x i) ≡ unset_cell

unset-step : (program : Units) (t : Top) (s : State) → IsUnsetAhead t.state → HasStored program t s → IsUnsetAhead s
unset-step program t s h stored a x i later = stored.0 a x i later ∙ h a x i (before stored.1) where
  before : HasPassed program t s → length t.state.activations < a
  before (inl same) = omega (arith, ap length same)
  before (inr more) = omega (arith, simp length-append at (ap length more.1))

-- ---- the opening

abbrev AreMadeAt : List StorageUnits → Type 0
AreMadeAt [] = Unit {0}
AreMadeAt (u ∷ us) = IsMadeAt 1 u.0 × AreMadeAt us

made-append : (us vs : List StorageUnits) → AreMadeAt us → AreMadeAt vs → AreMadeAt (us ++ vs)
made-append [] vs h k = k
made-append (u ∷ us) vs h k = (h.0, made-append us vs h.1 k)

made-some : (scope : Scope) (o : Option Stretch) → IsMadeScope 1 scope → AreMadeAt (map (storage_units_of scope) (option_to_list o))
made-some scope None made = tt
made-some scope (Some e) made = (made-further 1 (storage_of scope e.name).start (e.first - 1) (made-storage 1 scope e.name made), tt)

made-named : (scope : Scope) (ts : List Target) → IsMadeScope 1 scope → AreMadeAt (storage_units_named scope ts)
made-named scope [] made = tt
made-named scope (t ∷ ts) made =
    made-append (map (storage_units_of scope) (option_to_list (elements_named scope.unit (constant_value scope.unit) t))) (storage_units_named scope ts) (made-some scope (elements_named scope.unit (constant_value scope.unit) t) made) (made-named scope ts made)

-- an element of a later activation isn't one of them
no-distance : (at : Location) (a : ℕ) (x : Name) (i : ℕ) → IsMadeAt 1 at → 1 < a → distance at (local a x i) ≡ None
no-distance (common b k) a x i made later = refl
no-distance (local b y j) a x i made later = rw (ne_eqb b a (λ same. omega arith)) refl

no-index : (us : List StorageUnits) (a : ℕ) (x : Name) (i : ℕ) → AreMadeAt us → 1 < a → index_of_location us (local a x i) ≡ None
no-index [] a x i made later = refl
no-index (u ∷ us) a x i made later = rw (no-distance u.0 a x i made.0 later, no-index us a x i made.1 later) refl

later-values : (us : List StorageUnits) (vs : List (Repeated Value)) (store : Store) → AreMadeAt us → KeepsLater 1 store (with_values store us vs)
later-values us vs store made a x i later = rw (no-index us a x i made later) refl

later-groups : (scope : Scope) (groups : List DataGroup) (store : Store) → IsMadeScope 1 scope → KeepsLater 1 store (with_groups scope store groups)
later-groups scope [] store made a x i later = refl
later-groups scope (g ∷ gs) store made a x i later =
    later-groups scope gs (with_group scope store g) made a x i later ∙ later-values (storage_units_named scope g.targets) (all_values_given scope g.values) store (made-named scope g.targets made) a x i later

opening-unset : (program : Units) → IsUnsetAhead (run program [])
unfolding run run_from opening
opening-unset program a x i later =
    later-groups (record { unit = unit_at program (main_unit program); number = 1; dummies = [] }) (data_groups (unit_at program (main_unit program))) (λ location. unset_cell) (omega arith, λ k. tt) a x i later

opening-references : (program : Units) → AreReferences (run program [])
unfolding run run_from opening
opening-references program zero k = tt
opening-references program (suc zero) k = tt
opening-references program (suc (suc i)) k = tt

-- ---- runs

abbrev IsSound : State → Type 0
IsSound s = AreReferences s × IsUnsetAhead s

sound-step : (program : Units) (ps : List ℕ) (p : ℕ) (t : State) → step program p (run program ps) ≡ Some t → IsSound (run program ps) → IsSound t
sound-step program ps p t e h = (references-step program (top_in (run program ps) p found.0) t (aged program ps) h.0 found.2.1, unset-step program (top_in (run program ps) p found.0) t h.1 found.2) where
  made : (top : Level × Process) → living (run program ps) p ≡ Some top → top.0.activation ≤ length (run program ps).activations
  made top lives = (on_stack_made (run program ps) top.0.activation (aged program ps) (stacked-top (run program ps) p top (top-numbered (run program ps) p top lives))).1

  found : (top : Level × Process) × (living (run program ps) p ≡ Some top) × HasStored program (top_in (run program ps) p top) t
  found =
      by_step (HasStored program) program p (run program ps) t (λ top lives. stored-next program (top_in (run program ps) p top) (made-scope program (run program ps) top.0.activation (aged program ps) (made top lives) h.0) (next_on program (run program ps) top)) e

sound : (program : Units) (ps : List ℕ) → IsSound (run program ps)
sound program ps = each-state program IsSound (λ qs p t e last h. sound-step program qs p t e h) (opening-references program, opening-unset program) ps

pub references : (program : Units) (ps : List ℕ) (a k : ℕ) → IsOwnedAbove (run program ps) a (dummy_at (activation_of (run program ps) a).dummies k).start
references program ps = (sound program ps).0

pub unset-ahead : (program : Units) (ps : List ℕ) (a : ℕ) (x : Name) (i : ℕ) → length (run program ps).activations < a → (run program ps).store (local a x i) ≡ unset_cell
unset-ahead program ps = (sound program ps).1

pub references-made : (program : Units) (ps : List ℕ) (a k : ℕ) → a ≤ length (run program ps).activations → IsMadeAt (length (run program ps).activations) (dummy_at (activation_of (run program ps) a).dummies k).start
references-made program ps a k le = owned-made (run program ps) a (dummy_at (activation_of (run program ps) a).dummies k).start (aged program ps) le (references program ps a k)

-- with an activation all is held that its dummy arguments stand for
pub references-held : (program : Units) (ps : List ℕ) (a k o : ℕ) (x : Name) (i : ℕ) → is_held (run program ps) a ≡ true → (dummy_at (activation_of (run program ps) a).dummies k).start ≡ local o x i → is_held (run program ps) o ≡ true
references-held program ps a k o x i h e =
    let above : IsAbove (run program ps) o a = subst (IsOwnedAbove (run program ps) a) e (references program ps a k) in
    above (is_held (run program ps)) h (λ c b m f. (held_is program ps b).1 (inr (c, m, f)))
